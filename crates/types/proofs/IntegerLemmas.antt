-- Numbers read row by row.
use Rattle.std.proofs.Common.{◌≡◌, ◌∙◌, ℕ, zero, suc, ◌+◌, ◌*◌, ◌/◌, ◌<◌, List, [], ℤ, FitsSigned, pos, length, true, false, take, drop, get_or, of_z, to_z, ap, sym, arith, zero-mul}
use Rattle.std.specs.Int.{cast_signed, from_le_bytes}
use Rattle.std.specs.Simd.{first_chunks}
use Rattle.std.proofs.lemmas.Int.{to_z-of_z}
use Rattle.std.proofs.lemmas.List.{drop-drop}
use Rattle.colbits.specs.Slice.{slice}
use Rattle.types.specs.Prelude.{bits_of, bytes_of, number_at}
use Rattle.types.specs.declared.int_type.Width.{Width}

next : (j n : ℕ) → n + j * n ≡ suc j * n
next j n = omega arith

-- a row of so many bytes
pub row_is : (n k j : ℕ) (xs : List ℕ) → j < k → get_or (first_chunks n k xs) j [] ≡ slice xs (j * n) n
row_is n zero j xs h = absurd (omega arith)
row_is n (suc k) zero xs h = ap (λ s. take n (drop s xs)) (sym (zero-mul n))
row_is n (suc k) (suc j) xs h = row_is n k j (drop n xs) (omega arith) ∙ ap (take n) (drop-drop (j * n) n xs ∙ ap (λ s. drop s xs) (next j n))

-- a signed number of a row, read by its two's complement
pub signed_row : (w : Width) (j : ℕ) (xs : List ℕ) (rows : List (List ℕ)) (z : ℤ) → FitsSigned (bits_of w) z → z ≡ cast_signed (bits_of w) (from_le_bytes (bits_of w) (get_or rows j []))
    → rows ≡ first_chunks (bytes_of w) (length xs / bytes_of w) xs → j < length xs / bytes_of w
    → to_z (bits_of w) (of_z (bits_of w) z) ≡ number_at (record { bits = w; signed = true }) xs j
unfolding number_at
signed_row w j xs rows z fits read are within =
    to_z-of_z (bits_of w) z fits
    ∙ read
    ∙ ap (λ row. cast_signed (bits_of w) (from_le_bytes (bits_of w) row)) (ap (λ rs. get_or rs j []) are ∙ row_is (bytes_of w) _ j xs within)

-- the same of a number without a sign
pub unsigned_row : (w : Width) (j : ℕ) (xs : List ℕ) (rows : List (List ℕ)) (n : ℕ) → n ≡ from_le_bytes (bits_of w) (get_or rows j [])
    → rows ≡ first_chunks (bytes_of w) (length xs / bytes_of w) xs → j < length xs / bytes_of w → pos n ≡ number_at (record { bits = w; signed = false }) xs j
unfolding number_at
unsigned_row w j xs rows n read are within = ap pos (read ∙ ap (from_le_bytes (bits_of w)) (ap (λ rs. get_or rs j []) are ∙ row_is (bytes_of w) _ j xs within))
