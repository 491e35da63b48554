use Rattle.std.proofs.Common.{◌<◌, arith, length}
use Rattle.select.proofs.BigLemmas.{reported_of_all}
use Rattle.select.proofs.JoinLemmas.{past-lengths}
use Rattle.select.proofs.joining.lists.push_all.Goals as goal

pub returns-in_err-push-clause-err : goal.returns-in_err-push-clause-err
returns-in_err-push-clause-err c =
    let below : c.loop-i.i < length c.args.view.now.items = omega (arith, c.loop-i-test.true, c.len-i-end.ensures) in
    reported_of_all c.from_residual.result c.in_err-push.field-0.0 _ _ c.from_residual.ensures.1 c.in_err-push.ensures.fault
    (past-lengths c.args.view.now.items c.loop-i.i c.args.builder.now.lengths c.loop-i.builder.lengths c.length_at.result below c.loop-i.invariant.lengths c.length_at.ensures)
