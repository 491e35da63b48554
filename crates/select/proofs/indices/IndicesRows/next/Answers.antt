use Rattle.std.proofs.Common.{◌≡◌, ◌∙◌, Fits, None, Some, w64, true, ap, arith, option_map, refl, slice_get, subst, sym}
use lib.Dec.{T}
use lib.IntN.{nat_abs}
use lib.Signed.{non_neg}
use Rattle.std.specs.Int.{w128}
use Rattle.std.proofs.lemmas.Int.{to_z-of_z}
use Rattle.arrays.specs.Prelude.{is_code, item_of, most_slots, natural}
use Rattle.arrays.proofs.NumberLemmas.{FitsSigned-from_type}
use Rattle.select.proofs.NamedLemmas.{cast_fits, cast_is, index_below, row_at}
use Rattle.select.proofs.RestLemmas.{reported_next}
use Rattle.select.proofs.indices.IndicesRows.next.Goals as goal

pub get-index-requires : goal.get-index-requires
get-index-requires g c =
    let r = c.self.inside.numbers in
    index_below g.T.Integer.ty r.values.now r.validity r.slots c.args.place.now.at c.args.self.now c.self.view_is c.requires

pub overflow_add-place : goal.overflow_add-place
overflow_add-place g c =
    let r = c.self.inside.numbers in
    omega (arith, index_below g.T.Integer.ty r.values.now r.validity r.slots c.args.place.now.at c.args.self.now c.self.view_is c.requires, r.short)

pub overflow_cast-result : goal.overflow_cast-result
overflow_cast-result g c =
    let r = c.self.inside.numbers in
    let t = g.T.Integer.ty in
    let z = c.in-Some.row in
    let at = c.args.place.now.at in
    let below = index_below t r.values.now r.validity r.slots at c.args.self.now c.self.view_is c.requires in
    let code = subst (λ o. is_code most_slots (item_of o) ≡ true) (sym c.in-Some.ensures.value) (c.self.invariant.each at below) in
    subst (λ z. T (non_neg z) × Fits w64 (nat_abs z)) (sym (to_z-of_z w128 z (FitsSigned-from_type t z (c.in-Some.ensures.of_type z refl)))) (cast_fits z code)

pub returns-in-Some : goal.returns-in-Some
returns-in-Some g c =
    let r = c.self.inside.numbers in
    let t = g.T.Integer.ty in
    let z = c.in-Some.row in
    let at = c.args.place.now.at in
    let below = index_below t r.values.now r.validity r.slots at c.args.self.now c.self.view_is c.requires in
    let code = subst (λ o. is_code most_slots (item_of o) ≡ true) (sym c.in-Some.ensures.value) (c.self.invariant.each at below) in
    reported_next c.args.self.now at _
    (ap (λ picks. slice_get picks at) (sym c.self.view_is)
    ∙ row_at t r.values.now r.validity r.slots at below
    ∙ ap (λ o. Some (option_map natural o)) (sym c.in-Some.ensures.value)
    ∙ ap (λ n. Some (Some n)) (sym (cast_is most_slots z code))
    ∙ ap (λ z. Some (Some (nat_abs z))) (sym (to_z-of_z w128 z (FitsSigned-from_type t z (c.in-Some.ensures.of_type z refl)))))

pub returns-in-None : goal.returns-in-None
returns-in-None g c =
    let r = c.self.inside.numbers in
    let t = g.T.Integer.ty in
    let at = c.args.place.now.at in
    let below = index_below t r.values.now r.validity r.slots at c.args.self.now c.self.view_is c.requires in
    reported_next c.args.self.now at None
    (ap (λ picks. slice_get picks at) (sym c.self.view_is) ∙ row_at t r.values.now r.validity r.slots at below ∙ ap (λ o. Some (option_map natural o)) (sym c.in-None.ensures.value))
