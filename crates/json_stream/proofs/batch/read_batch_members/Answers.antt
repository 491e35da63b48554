use Rattle.std.proofs.Common.{refl}
use Rattle.json_stream.proofs.ReadBatches.{members_known}
use Rattle.json_stream.proofs.batch.read_batch_members.Goals as goal

pub returns-clause-ok : goal.returns-clause-ok
returns-clause-ok c =
    let read = c.in_ok-end.ensures.ok in
    let h = read.2 (refl, refl, record { count = refl; columns = tt }) in
    (read.0, read.1, members_known _ _ read.0 c.read_object.new.visitor c.in-Some.count c.in-Some-columns.columns h.2 c.in-Some.is c.in-Some-columns.is)
