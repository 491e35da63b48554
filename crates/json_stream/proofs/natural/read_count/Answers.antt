use Rattle.json_read.specs.Prelude.{number}
use Rattle.json_stream.proofs.ColumnLemmas.{counted}
use Rattle.json_stream.proofs.natural.read_count.Goals as goal

pub returns-in-Some-clause-ok : goal.returns-in-Some-clause-ok
returns-in-Some-clause-ok c =
    let read = rw c.as_bytes.ensures.value at c.in-Some.ensures.reads in
    (number read.0, read.2 c.args.cursor.depth, counted read.0 c.in-Some.count.value read.1 c.in-Some.ensures.small)
