-- Lists made place by place.
use Rattle.std.proofs.Common.{◌≡◌, ◌∙◌, ℕ, zero, suc, ◌+◌, ◌<◌, ◌∷◌, map, ap, sym, refl, arith, add-zero}
use Rattle.std.specs.List.{range_with_len}

-- two functions that agree on the places make one list
pub map-range-below : {X : Type 0} (f g : ℕ → X) (a n : ℕ) → ((i : ℕ) → i < n → f (a + i) ≡ g (a + i)) → map f (range_with_len a n) ≡ map g (range_with_len a n)
map-range-below f g a zero h = refl
map-range-below f g a (suc n) h =
    let here : f a ≡ g a = ap f (sym (add-zero a)) ∙ h 0 (omega arith) ∙ ap g (add-zero a) in
    let there = map-range-below f g (a + 1) n (λ i below. ap f (omega arith) ∙ h (1 + i) (omega arith) ∙ ap g (omega arith)) in
    ap (λ x. x ∷ map f (range_with_len (a + 1) n)) here ∙ ap (λ xs. g a ∷ xs) there
