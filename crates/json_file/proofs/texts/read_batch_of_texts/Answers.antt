use Rattle.json_read.specs.Prelude.{object}
use Rattle.json_file.proofs.TextLemmas.{texts_read}
use Rattle.json_file.proofs.texts.read_batch_of_texts.Goals as goal

pub returns-in-Some-clause-ok : goal.returns-in-Some-clause-ok
returns-in-Some-clause-ok c =
    let read = c.in_ok-batch.ensures.ok in
    let only = c.in-Some.ensures in
    (object read.0, read.1, texts_read _ read.0 c.in_ok-batch.batch.value c.in-Some.value c.field_of_texts.ensures read.2 only.0 only.1)
