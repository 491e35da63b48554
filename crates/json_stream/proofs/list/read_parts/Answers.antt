use Rattle.std.proofs.Common.{refl}
use Rattle.json_stream.proofs.list.read_parts.Goals as goal

pub returns-clause-ok : goal.returns-clause-ok
returns-clause-ok c =
    let read = c.in_ok-end.ensures.ok in
    let h = read.2 (refl, refl, record { count = refl; validity = refl; offsets = tt; child = tt }) in
    (read.0, read.1, h.2)
