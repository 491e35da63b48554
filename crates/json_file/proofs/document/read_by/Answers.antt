use Rattle.json_read.specs.Prelude.{array, no_items}
use Rattle.json_scan.specs.Spelling.{before}
use Rattle.json_file.proofs.DocumentLemmas.{file_held}
use Rattle.json_file.proofs.document.read_by.Goals as goal

pub returns-clause-ok : goal.returns-clause-ok
returns-clause-ok c =
    let head = c.in_ok-schema.ensures in
    let read = c.in_ok-batches.ensures.ok in
    let coded = rw c.deref.ensures.value at read.2 in
    (array (before read.0 no_items), read.1, (head.0, head.1, file_held head.0 _ _ read.0 _ _ head.2 head.3 coded c.new.ensures))
