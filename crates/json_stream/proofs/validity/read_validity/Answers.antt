use Rattle.std.proofs.Common.{refl}
use Rattle.json_read.specs.Prelude.{null}
use Rattle.json_stream.proofs.validity.read_validity.Goals as goal

pub returns-in-Null-clause-ok : goal.returns-in-Null-clause-ok
returns-in-Null-clause-ok c =
    let reads = rw c.as_bytes.ensures.value at c.in-Some.ensures.reads in
    let is = rw c.in-Null.is at reads in
    (null, is c.args.cursor.depth, refl)
