use Rattle.std.proofs.Common.{◌≡◌, ◌∙◌, ◌<◌, ◌+◌, None, arith, eqb, get_or, length, refl, subst, sym}
use Rattle.std.specs.Prelude.{slice_set}
use Rattle.std.proofs.lemmas.Bool.{eqb-false, eqb-true}
use Rattle.std.proofs.lemmas.List.{get_or-set_other, get_or-set_same, same_lists}
use Rattle.answers.specs.Runs.{kept_in}
use Rattle.answers.proofs.RunLemmas.{counted_up, length-kept}
use Rattle.keys.proofs.SameLemmas.{either}
use Rattle.answers.proofs.filter.count_up.Goals as goal

pub loop-i-preserved : goal.loop-i-preserved
loop-i-preserved c = λ k d below.
    let i = c.loop-i.i in
    let places = c.loop-i.places in
    let within : i < length places = omega (arith, c.loop-i-test.true, c.loop-i.auto.places) in
    either (eqb k i)
    (λ last.
    let is = eqb-true k i last in
    subst (λ n. get_or (slice_set places i (c.args.start + i)) n d ≡ c.args.start + n) (sym is) (get_or-set_same places i (c.args.start + i) d within))
    (λ before.
    let off = eqb-false k i before in
    get_or-set_other places i k (c.args.start + i) d off ∙ c.loop-i.invariant k d (omega (arith, below, off)))

pub returns : goal.returns
returns c =
    let n = length c.args.places.now in
    same_lists c.loop-i.places (kept_in None c.args.start n) (c.loop-i.auto.places ∙ length-kept None c.args.start n refl)
    (λ k d below. c.loop-i.invariant k d (omega (arith, below, c.loop-i.auto.places, c.loop-i-test.false)) ∙ sym (counted_up c.args.start n k d (omega (arith, below, c.loop-i.auto.places))))
