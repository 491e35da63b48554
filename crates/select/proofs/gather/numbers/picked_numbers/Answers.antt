use Rattle.std.proofs.Common.{◌≡◌, None, IfSome, arith, subst, sym}
use Rattle.std.specs.Int.{w128}
use Rattle.std.proofs.lemmas.Int.{to_z-of_z}
use Rattle.std.proofs.lemmas.Option.{get_or_from_slice_get}
use Rattle.arrays.specs.Prelude.{number_at}
use Rattle.arrays.proofs.NumberLemmas.{FitsSigned-from_type}
use Rattle.select.specs.Picked.{IsPick}
use Rattle.select.proofs.RestLemmas.{is_next, some_left}
use Rattle.select.proofs.PickLemmas.{all-at}
use Rattle.select.proofs.StoredLemmas.{AreStored-more}
use Rattle.select.proofs.gather.numbers.picked_numbers.Goals as goal

pub next-requires : goal.next-requires
next-requires g c =
    some_left _ (g.R.Rows.picks c.args.rows.now) c.loop-slot._slot c.loop-slot.invariant.reported (omega (arith, c.slots-count.ensures.count, c.loop-slot-test.true))

pub number_under-requires : goal.number_under-requires
number_under-requires g c =
    let next = is_next (g.R.Rows.picks c.args.rows.now) c.loop-slot._slot c.next.result _ _ c.loop-slot.invariant.reported c.next.ensures in
    all-at (IsPick c.args.numbers.now.slots) (g.R.Rows.picks c.args.rows.now) c.loop-slot._slot c.next.result c.requires next.here

pub loop-slot-preserved : goal.loop-slot-preserved
loop-slot-preserved g c =
    let t = g.T.Integer.ty in
    let bytes = c.args.numbers.now.values.now in
    let picks = g.R.Rows.picks c.args.rows.now in
    let j = c.loop-slot._slot in
    let z = c.number_under.result in
    let pick = c.next.result in
    let next = is_next picks j pick _ _ c.loop-slot.invariant.reported c.next.ensures in
    let here = subst (λ p. IfSome p (λ i. z ≡ number_at t bytes i)) (sym (get_or_from_slice_get picks j pick None next.here)) c.number_under.ensures.value in
    record {
      reported = next.rest;
      stored =
          AreStored-more t bytes picks j c.loop-slot.values.items c.push.new.numbers.items _ z c.loop-slot.invariant.stored c.in_ok-push.ensures.ok
          (to_z-of_z w128 z (FitsSigned-from_type t z c.number_under.ensures.of_type)) c.number_under.ensures.of_type here;
    }
