use Rattle.json_file.proofs.HeadLemmas.{head_read}
use Rattle.json_file.proofs.head.head_at.Goals as goal

pub returns : goal.returns
returns c =
    let schema = c.in_ok-schema.ensures in
    let catalog = rw c.deref.ensures.value at c.in_ok-catalog.ensures in
    head_read c.args.depth c.args.text.now c.args.places schema.0 catalog.0 _ _ _ schema.1 catalog.1 schema.2 schema.3 catalog.2
