use Rattle.std.proofs.Common.{◌≡◌, ◌∙◌, ◌+◌, ◌++◌, Some, ap, arith, refl, subst}
use Rattle.std.specs.Prelude.{slice_get, unwrap_or}
use Rattle.std.proofs.lemmas.Option.{slice_get_within}
use Rattle.keys.proofs.TextLemmas.{found_before, get_behind}
use Rattle.keys.proofs.key_texts.KeyTexts.place_of.Goals as goal

pub returns-in-Some-clause-there : goal.returns-in-Some-clause-there
returns-in-Some-clause-there c n is =
    let s = c.args.self.now in
    found_before s.common.now s.own n c.args.text.now (c.in-Some.ensures.there n is)

pub overflow_add-result : goal.overflow_add-result
overflow_add-result c =
    let s = c.args.self.now in
    let within = slice_get_within s.own c.in_ok-place.place c.args.text.now (c.in_ok-place.ensures.there c.in_ok-place.place refl) in
    omega (arith, within, s.few.0, s.few.1)

pub returns-clause-there : goal.returns-clause-there
returns-clause-there c n is =
    let s = c.args.self.now in
    let t = c.args.text.now in
    let texts = s.common.now ++ s.own in
    let place = c.in_ok-place.place in
    let there = get_behind s.common.now s.own place ∙ c.in_ok-place.ensures.there place refl in
    subst (λ m. slice_get texts m ≡ Some t) (ap (λ o. unwrap_or o 0) is) (ap (λ k. slice_get texts (k + place)) s.count ∙ there)
