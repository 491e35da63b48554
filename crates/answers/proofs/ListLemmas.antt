-- Lists place by place.
use Rattle.std.proofs.Common.{◌≡◌, ◌≢◌, ◌∙◌, ℕ, zero, suc, ◌+◌, ◌<◌, ◌≤◌, eqb, set, List, [], ◌∷◌, length, map, get_or, ap, sym, refl, arith}
use Rattle.std.proofs.lemmas.Bool.{eqb-false, eqb-true}
use Rattle.std.proofs.lemmas.Grind.{get_or-set_at}
use Rattle.std.proofs.lemmas.List.{get_or-set_other}
use Rattle.keys.proofs.SameLemmas.{either}

-- A list whose places were changed as g changes what f shows of them.
pub changed_by_place : {A B : Type 0} (f : A → B) (g : B → B) (xs ys : List A) → length ys ≡ length xs
    → ((k : ℕ) (d : A) → k < length xs → f (get_or ys k d) ≡ g (f (get_or xs k d))) → map f ys ≡ map g (map f xs)
changed_by_place f g [] [] len each = refl
changed_by_place f g [] (y ∷ ys) len each = absurd cc
changed_by_place f g (x ∷ xs) [] len each = absurd cc
changed_by_place f g (x ∷ xs) (y ∷ ys) len each =
    let head : f y ≡ g (f x) = each zero x (omega arith) in
    let tail : map f ys ≡ map g (map f xs) = changed_by_place f g xs ys (omega (arith, len)) (λ k d below. each (suc k) d (omega (arith, below))) in
    cc (head, tail)

-- One place more is changed as g changes it, and those behind are as they were.
module _ {A B : Type 0} (f g : A → B) (xs ys : List A) (i : ℕ) (new : A) (below : i < length ys) where
  pub place_changed : ((k : ℕ) (d : A) → k < i → f (get_or ys k d) ≡ g (get_or xs k d)) → ((d : A) → f new ≡ g (get_or xs i d))
      → (k : ℕ) (d : A) → k < i + 1 → f (get_or (set ys i new) k d) ≡ g (get_or xs k d)
  place_changed before step k d under =
      either (eqb k i)
      (λ same. let e : k ≡ i = eqb-true k i same in ap f (get_or-set_at ys i k new d e below) ∙ step d ∙ ap (λ m. g (get_or xs m d)) (sym e))
      (λ other. ap f (get_or-set_other ys i k new d (eqb-false k i other)) ∙ before k d (lower (eqb-false k i other))) where
        lower : k ≢ i → k < i
        lower apart = omega (arith, under, apart)

  pub place_kept : ((k : ℕ) (d : A) → i ≤ k → get_or ys k d ≡ get_or xs k d) → (k : ℕ) (d : A) → i + 1 ≤ k → get_or (set ys i new) k d ≡ get_or xs k d
  place_kept kept k d over = get_or-set_other ys i k new d (λ e. omega (arith, over, e)) ∙ kept k d (omega (arith, over))
