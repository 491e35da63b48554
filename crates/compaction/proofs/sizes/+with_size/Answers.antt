use Rattle.std.proofs.Common.{◌∙◌, ◌+◌, ap, arith}
use Rattle.std.proofs.lemmas.List.{drop_all}
use Rattle.arrays.specs.Prelude.{is_past, list, list_of, null}
use Rattle.compaction.specs.Sizes.{size_at}
use Rattle.compaction.proofs.SizeLemmas.{if-none, inner-size, null-size, past-with, size-less, size-none}
use Rattle.compaction.proofs.sizes.+with_size.Goals as goal
use Rattle.compaction.proofs.sizes.+with_size.Goals.{in-Some+in_ok-size-in-List-2, in_default-list_at}

pub returns-in_err-size-in-List-2-clause-none : goal.returns-in_err-size-in-List-2-clause-none
returns-in_err-size-in-List-2-clause-none t c =
    let k = c.args.view.now.kind in
    let s = c.in-Some.list in
    if-none c.from_residual.result _
    (past-with k c.args.level c.args.view.now.items c.loop-i.i (list (list_of s.items)) c.loop-i.size _ c.in-Some.ensures.items c.loop-i.invariant.sum
    (ap (λ n. is_past (c.loop-i.size + n)) (inner-size s.kind k c.args.level s.items c.in-Some.ensures.kind (omega (arith, c.if-level-eq0-2.false))) ∙ c.in_err-size-in-List-2.ensures.none))

pub loop-i-preserved : goal.loop-i-preserved
loop-i-preserved t c = let k = c.args.view.now.kind in elim c.match-list_at.branch [
  | in-Some+in_ok-size-in-List-2 w ↦ (
      let s = w.in-Some.list in
      let size = inner-size s.kind k c.args.level s.items w.in-Some.ensures.kind (omega (arith, c.if-level-eq0-2.false)) in record {
        sum = size-less k c.args.level c.args.view.now.items c.loop-i.i (list (list_of s.items)) c.loop-i.size c.match-list_at.size _ w.in-Some.ensures.items c.loop-i.invariant.sum
            (omega (arith, w.size-is, w.in_ok-size-in-List-2.ensures.some.0, size));
        few = omega (arith, w.size-is, w.in_ok-size-in-List-2.ensures.some.1);
      })
  | in_default-list_at w ↦ record {
    sum = size-less k c.args.level c.args.view.now.items c.loop-i.i null c.loop-i.size c.match-list_at.size _ w.in_default-list_at.ensures.items c.loop-i.invariant.sum
        (omega (arith, w.size-is, null-size k c.args.level));
    few = omega (arith, w.size-is, c.loop-i.invariant.few);
  }
]

pub returns-after-loop-i-clause-some : goal.returns-after-loop-i-clause-some
returns-after-loop-i-clause-some t c =
    let k = c.args.view.now.kind in
    let items = c.args.view.now.items in
    let end = drop_all c.loop-i.i items (omega (arith, c.loop-i-test.false, c.len-i-end.ensures)) in
    (omega (arith, c.loop-i.invariant.sum, ap (size_at k c.args.level) end, size-none k c.args.level), c.loop-i.invariant.few)
