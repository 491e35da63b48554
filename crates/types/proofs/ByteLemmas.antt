-- Numbers and bits of bytes.
use Rattle.std.proofs.Common.{◌≡◌, ℕ, ◌+◌, ◌*◌, ◌/◌, ◌%◌, ◌^◌, ◌<◌, ◌≤◌, ◌∙◌, pos, false, bit_and, nat_eq, List, [], ◌∷◌, length, drop, take, get_or, ap, arith}
use lib.Seq.{drop-nil}
use Rattle.std.specs.Int.{from_le_bytes, cast_signed, bit_at, w32, w64}
use Rattle.std.proofs.lemmas.List.{get_or-take, get_or-drop, get_or_past}
use Rattle.std.proofs.lemmas.Nat.Bits.{shr_and_one, bit_at-zero}
use Rattle.colbits.specs.Prelude.{bit, slice}
use Rattle.types.specs.declared.offset_width.OffsetWidth.{OffsetWidth}
use Rattle.types.specs.declared.offset_width.OffsetWidth.TheVariants.{Narrow, Wide}
use Rattle.types.specs.Prelude.{number_at, offset_type}

-- an element of a part
pub get_or-slice : (bytes : List ℕ) (start n i : ℕ) → i < n → get_or (slice bytes start n) i 0 ≡ get_or bytes (start + i) 0
get_or-slice bytes start n i h = get_or-take n (drop start bytes) i 0 h ∙ get_or-drop start bytes i 0

-- no bytes are the offset 0
pub offset_at-empty : (w : OffsetWidth) (bytes : List ℕ) (j : ℕ) → length bytes ≡ 0 → number_at (offset_type w) bytes j ≡ pos 0
unfolding number_at
offset_at-empty Narrow [] j h = ap (λ b. cast_signed w32 (from_le_bytes w32 b)) (ap (take 4) (drop-nil (j * 4)))
offset_at-empty Wide [] j h = ap (λ b. cast_signed w64 (from_le_bytes w64 b)) (ap (take 8) (drop-nil (j * 8)))
offset_at-empty w (b ∷ bytes) j h = absurd (omega arith)

-- ---- bits

-- bit k as the program reads it
pub bit-read : (bytes : List ℕ) (k : ℕ) → nat_eq (bit_and (get_or bytes (k / 8) 0 / 2 ^ (k % 8)) 1) 1 ≡ bit bytes k
unfolding bit
bit-read bytes k = ap (λ b. nat_eq b 1) (shr_and_one _ _)

-- bits past the bytes are 0
pub bit-past : (bytes : List ℕ) (k : ℕ) → length bytes ≤ k / 8 → bit bytes k ≡ false
unfolding bit
bit-past bytes k h = ap (λ b. nat_eq (bit_at b (k % 8)) 1) (get_or_past bytes (k / 8) 0 h) ∙ ap (λ b. nat_eq b 1) (bit_at-zero (k % 8))
