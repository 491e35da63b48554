-- Indices of a dictionary as codes.
use Rattle.std.proofs.Common.{◌≡◌, ◌∙◌, ◌+◌, ℕ, zero, suc, ℤ, List, ◌++◌, ap, append_assoc, append-nil, sym, arith}
use Rattle.std.specs.List.{flat_map, range_with_len}
use Rattle.arrays.specs.Prelude.{IntType, bytes_of_number, int32, number_at}
use Rattle.flat.specs.Parts.{code}

pub flat_map_range_more : (f : ℕ → List ℕ) (a n j : ℕ) → a + n ≡ j → flat_map f (range_with_len a (n + 1)) ≡ flat_map f (range_with_len a n) ++ f j
flat_map_range_more f a zero j is = append-nil (f a) ∙ ap f (omega (arith, is))
flat_map_range_more f a (suc n) j is =
    let next : suc n + 1 ≡ suc (n + 1) = omega arith in
    ap (λ k. flat_map f (range_with_len a k)) next
    ∙ ap (λ xs. f a ++ xs) (flat_map_range_more f (a + 1) n j (omega (arith, is))) ∙ sym (append_assoc (f a) (flat_map f (range_with_len (a + 1) n)) (f j))

-- one code more
pub codes_more : (t : IntType) (bytes : List ℕ) (j : ℕ) (codes more : List ℕ) (c : ℤ) → codes ≡ flat_map (λ j. bytes_of_number int32 (code (number_at t bytes j))) (range_with_len 0 j)
    → c ≡ code (number_at t bytes j) → more ≡ codes ++ bytes_of_number int32 c → more ≡ flat_map (λ j. bytes_of_number int32 (code (number_at t bytes j))) (range_with_len 0 (j + 1))
codes_more t bytes j codes more c so_far coded pushed =
    let f : ℕ → List ℕ = λ j. bytes_of_number int32 (code (number_at t bytes j)) in
    pushed ∙ ap (λ xs. xs ++ bytes_of_number int32 c) so_far ∙ ap (λ z. flat_map f (range_with_len 0 j) ++ bytes_of_number int32 z) coded
    ∙ sym (flat_map_range_more f 0 j j (omega arith))
