use Rattle.std.proofs.Common.{refl, arith, get_or}
use Rattle.std.proofs.Math.Seq.{drop-cons}
use Rattle.arrays.specs.Prelude.{inner_items, joined_items, null}
use Rattle.json_print.proofs.Steps.{moved}
use Rattle.json_print.proofs.lists.push_lists.Goals as goal

pub loop-i-preserved : goal.loop-i-preserved
loop-i-preserved c = record {
  items =
      moved inner_items inner_items c.args.column.now.items c.loop-i.i (get_or c.args.column.now.items c.loop-i.i null) _ (joined_items c.loop-i.lists.items) _ _
      (λ ys. refl) (drop-cons c.args.column.now.items c.loop-i.i null (omega arith)) c.in_ok-push_list.ensures.items c.loop-i.invariant.items;
  kinds = λ k is old. c.in_ok-push_list.ensures.kinds k is (c.loop-i.invariant.kinds k is old);
}
