use Rattle.std.proofs.Common.{◌∙◌, arith}
use Rattle.arrays.specs.Values.{items_of_lists}
use Rattle.select.specs.Picked.{IsPick}
use Rattle.select.proofs.ListLemmas.{Spreading-more, full_of_all, past-spread}
use Rattle.select.proofs.PickLemmas.{all-at}
use Rattle.select.proofs.RestLemmas.{is_next, some_left}
use Rattle.select.proofs.gather.lists.spread_out.Goals as goal

pub next-row-requires : goal.next-row-requires
next-row-requires g c =
    some_left _ (g.R.Rows.picks c.args.rows.now) c.loop-slot._slot c.loop-slot.invariant.reported (omega (arith, c.slots-count.ensures.count, c.loop-slot-test.true))

pub range_at-requires : goal.range_at-requires
range_at-requires g c =
    let picks = g.R.Rows.picks c.args.rows.now in
    let next = is_next picks c.loop-slot._slot c.next-row.result _ _ c.loop-slot.invariant.reported c.next-row.ensures in
    all-at (IsPick c.args.lists.now.slots) picks c.loop-slot._slot c.next-row.result c.requires next.here

pub returns-in_err-push-clause-err : goal.returns-in_err-push-clause-err
returns-in_err-push-clause-err g c =
    let picks = g.R.Rows.picks c.args.rows.now in
    let next = is_next picks c.loop-slot._slot c.next-row.result _ _ c.loop-slot.invariant.reported c.next-row.ensures in
    full_of_all c.from_residual-in_err-push.result c.in_err-push.field-0.0 _ _ c.from_residual-in_err-push.ensures.1 c.in_err-push.ensures.err
    (past-spread c.args.lists.now.child.items (items_of_lists c.args.lists.now) picks c.loop-slot._slot c.next-row.result c.range_at.result c.loop-slot.spread.lists.lengths c.loop-slot.spread.rows
    c.loop-slot.invariant.spread next.here c.range_at.ensures.item c.range_at.ensures.within)

pub loop-slot-preserved : goal.loop-slot-preserved
loop-slot-preserved g c =
    let picks = g.R.Rows.picks c.args.rows.now in
    let next = is_next picks c.loop-slot._slot c.next-row.result _ _ c.loop-slot.invariant.reported c.next-row.ensures in
    record {
      reported = next.rest;
      width = c.in_ok-push.ensures.width ∙ c.loop-slot.invariant.width;
      spread =
          Spreading-more c.args.lists.now.child.items (items_of_lists c.args.lists.now) picks c.loop-slot._slot c.next-row.result c.range_at.result c.loop-slot.spread.lists.lengths c.push.new.self.lists.lengths c.loop-slot.spread.rows c.push.new.self.rows
          c.loop-slot.invariant.spread next.here c.range_at.ensures.item c.range_at.ensures.within c.in_ok-push.ensures.lengths c.in_ok-push.ensures.rows;
    }
