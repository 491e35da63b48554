use Rattle.std.proofs.Common.{◌∙◌, ◌+◌, ap, arith, sym}
use Rattle.arrays.specs.Prelude.{Narrow, is_past, list, list_of, null}
use Rattle.arrays.specs.Kind as kind
use Rattle.compaction.proofs.SizeLemmas.{if-none, list-size, past-with, size-less}
use Rattle.compaction.proofs.sizes.with_items.Goals as goal
use Rattle.compaction.proofs.sizes.with_items.Goals.{in-Some+in_ok-items, in_default}

pub returns-in_err-items-clause-none : goal.returns-in_err-items-clause-none
returns-in_err-items-clause-none c =
    let items = c.in-Some.list.items in
    if-none c.from_residual.result _
    (past-with (kind.lists Narrow c.in-Some.list.kind) 0 c.args.view.now.items c.loop-i.i (list (list_of items)) c.loop-i.items _ c.in-Some.ensures.items c.loop-i.invariant.sum
    (ap (λ n. is_past (c.loop-i.items + n)) (list-size items ∙ sym c.len.ensures) ∙ c.in_err-items.ensures.none))

pub loop-i-preserved : goal.loop-i-preserved
loop-i-preserved c = elim c.match-list_at.branch [
  | in-Some+in_ok-items w ↦ record {
    sum = size-less (kind.lists Narrow w.in-Some.list.kind) 0 c.args.view.now.items c.loop-i.i (list (list_of w.in-Some.list.items)) c.loop-i.items c.match-list_at.items _ w.in-Some.ensures.items c.loop-i.invariant.sum
        (omega (arith, w.items-is, w.in_ok-items.ensures.some.0, list-size w.in-Some.list.items, w.len.ensures));
    few = omega (arith, w.items-is, w.in_ok-items.ensures.some.1);
  }
  | in_default w ↦ record {
    sum = size-less (kind.lists Narrow kind.utf8) 0 c.args.view.now.items c.loop-i.i null c.loop-i.items c.match-list_at.items _ w.in_default.ensures.items c.loop-i.invariant.sum (omega (arith, w.items-is));
    few = omega (arith, w.items-is, c.loop-i.invariant.few);
  }
]
