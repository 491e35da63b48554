-- What there is to say of nulls alone.
use Rattle.std.proofs.Common.{◌≡◌, ◌∙◌, ℕ, zero, suc, pos, ◌+ℤ◌, [], ◌∷◌, replicate, Some, None, cond, ap, refl, arith}
use Rattle.std.proofs.lemmas.List.Folds.{sum_by-replicate}
use Rattle.std.specs.List.{fold, reduce}
use Rattle.arrays.specs.Prelude.{Kind, is_null, null}
use Rattle.arrays.specs.Kind as kind
use Rattle.group.specs.Stats.{ordered, lesser, greater, nulls_of, numbers_of, sum_of, least_of, greatest_of}
use Rattle.group.proofs.TallyLemmas.{null_is_not}

pub all_counted : (n : ℕ) → nulls_of (replicate n null) ≡ n
all_counted n =
    let counted = sum_by-replicate (λ x. cond (is_null x) 1 0) n null in
    omega (arith, counted)

no_numbers : (n : ℕ) → numbers_of (replicate n null) ≡ []
no_numbers zero = refl
no_numbers (suc n) = no_numbers n

-- their sum is that of no items
pub sum_of_nulls : (k : Kind) (n : ℕ) → sum_of k (replicate n null) ≡ sum_of k []
sum_of_nulls (kind.int t) n = ap (λ zs. Some (fold ◌+ℤ◌ (pos 0) zs)) (no_numbers n)
sum_of_nulls kind.boolean n = refl
sum_of_nulls (kind.texts w) n = refl
sum_of_nulls (kind.lists w k) n = refl
sum_of_nulls kind.dict n = refl

none_ordered : (k : Kind) (n : ℕ) → ordered k (replicate n null) ≡ []
none_ordered k zero = refl
none_ordered k (suc n) = ap (λ b. cond b (null ∷ ordered k (replicate n null)) (ordered k (replicate n null))) (null_is_not k) ∙ none_ordered k n

pub no_least : (k : Kind) (n : ℕ) → least_of k (replicate n null) ≡ None
no_least k n = ap (reduce lesser) (none_ordered k n)

pub no_greatest : (k : Kind) (n : ℕ) → greatest_of k (replicate n null) ≡ None
no_greatest k n = ap (reduce greater) (none_ordered k n)
