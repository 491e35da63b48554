use Rattle.json_read.proofs.JsonLists.{flags_hold}
use Rattle.json_base.proofs.JsonResults.{value_kept}
use Rattle.json_read.proofs.list.read_validity.Goals as goal

pub returns-in-Ok-clause-ok : goal.returns-in-Ok-clause-ok
returns-in-Ok-clause-ok c =
    let reads = value_kept _ _ c.read_flags-read.result c.map_err.result c.in_ok-validity.validity c.map_err.ensures.cases c.in_ok-validity.was c.read_flags-read.ensures.ok in
    let whole = rw c.in-Some.is at c.requires.whole in
    rw c.in-Some.is (flags_hold _ _ _ _ _ reads whole c.in-Ok.ensures c.buffer_of.ensures)
