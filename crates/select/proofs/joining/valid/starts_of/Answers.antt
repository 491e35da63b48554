use Rattle.std.proofs.Common.{arith}
use Rattle.select.proofs.JoinedNumbers.{front-fits}
use Rattle.select.proofs.joining.valid.starts_of.Goals as goal

pub overflow_add-slots : goal.overflow_add-slots
overflow_add-slots c =
    omega (arith, front-fits c.args.views.now c.loop-view.view-index c.view-item.result c.loop-view-test.true c.view-item.is, c.loop-view.invariant.slots, c.len-slots.ensures, c.requires)
