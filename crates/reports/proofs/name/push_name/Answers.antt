use Rattle.std.proofs.Common.{map-id}
use Rattle.std.proofs.lemmas.Iterator.{YieldsList-from_chars}
use Rattle.std.proofs.lemmas.Iterator.Consumers.{YieldsList-end}
use Rattle.reports.proofs.name.push_name.Goals as goal

pub returns : goal.returns
returns c =
    let done = YieldsList-end (YieldsList-from_chars c.args.name.now c.utf8.name cc) c.loop-c.yielded _ c.loop-c.yielded_by _ _ c.in-None.is c.next.ensures.steps in
    rw (← done.0, map-id) c.loop-c.invariant
