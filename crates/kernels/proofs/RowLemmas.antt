-- The bytes of the results of a word.
use Rattle.std.proofs.Common.{◌≡◌, ◌∙◌, ℕ, zero, suc, ◌+◌, ◌<◌, ℤ, pos, List, [], ◌∷◌, ◌++◌, Bool, length, get_or, ap, cond, sym, subst, refl, arith, add-zero}
use Rattle.std.specs.List.{flat_map, range_with_len}
use Rattle.arrays.specs.Prelude.{IntType, bytes_of_number}
use Rattle.kernels.specs.Computed.{AreResults, AreRows, bytes_of_results, result_or_zero}
use Rattle.kernels.proofs.CheckedLemmas.{AreResults-word}

joined : (f : ℕ → List ℕ) (start n : ℕ) (rows : List (List ℕ)) → length rows ≡ n → ((j : ℕ) → j < n → get_or rows j [] ≡ f (start + j)) → flat_map (λ row. row) rows ≡ flat_map f (range_with_len start n)
joined f start zero [] size each = refl
joined f start zero (row ∷ rows) size each = absurd (omega arith)
joined f start (suc n) [] size each = absurd (omega arith)
joined f start (suc n) (row ∷ rows) size each =
    ap (λ front. front ++ flat_map (λ r. r) rows) (each 0 (omega arith) ∙ ap f (add-zero start))
    ∙ ap (λ back. f start ++ back) (joined f (start + 1) n rows (omega arith) (λ j below. each (suc j) (omega arith) ∙ ap f (later j)))
  where
    later : (j : ℕ) → start + suc j ≡ start + 1 + j
    later j = omega arith

pub bytes_of_rows : (t : IntType) (result : ℕ → ℤ) (start n : ℕ) (rows : List (List ℕ)) → length rows ≡ n → AreRows t result start n rows
    → flat_map (λ row. row) rows ≡ bytes_of_results t result start n
unfolding bytes_of_results
bytes_of_rows t result start n rows size are =
    joined (λ j. bytes_of_number t (result_or_zero t result j)) start n rows size
    (λ j below. are.bytes j below ∙ ap (bytes_of_number t) (sym (ap (λ b. cond b (result (start + j)) (pos 0)) (are.of_type j below))))

-- results with those of a word behind them, all of the type
pub AreResults-rows : (t : IntType) (result : ℕ → ℤ) (valid : ℕ → Bool) (start n : ℕ) (bytes added : List ℕ) (rows : List (List ℕ)) → length rows ≡ n → AreRows t result start n rows
    → added ≡ flat_map (λ row. row) rows → AreResults t result valid start bytes → AreResults t result valid (start + n) (bytes ++ added)
AreResults-rows t result valid start n bytes added rows size are is before =
    subst (λ more. AreResults t result valid (start + n) (bytes ++ more)) (sym (is ∙ bytes_of_rows t result start n rows size are))
    (AreResults-word t result valid start n bytes before (λ j below is_valid. are.of_type j below))
