-- Bitmaps place by place.
use Rattle.std.specs.Prelude.{◌≡◌, ℕ, ◌+◌, ◌/◌, ◌≤◌, List, Bool, false, map, length, slice_index_or}
use Rattle.std.specs.List.{range_with_len}
use Rattle.colbits.specs.Bit.{bit, bits}

-- The bit at place i of a list of bits.
abbrev pub bit_of : List Bool → ℕ → Bool
bit_of xs i = slice_index_or xs i false

-- f of the two bits at each place.
abbrev pub place_by_place : (Bool → Bool → Bool) → List Bool → List Bool → List Bool
place_by_place f xs ys = map (λ i. f (bit_of xs i) (bit_of ys i)) (range_with_len 0 (length xs))

-- The bytes are as many as n bits need, and all bits from n on are 0.
pub record IsBitmap (bytes : List ℕ) (n : ℕ) : Type 0 where
  pub length_is : length bytes ≡ (n + 7) / 8
  pub past : (k : ℕ) → n ≤ k → bit bytes k ≡ false

-- The bytes hold exactly these bits, from the first on.
pub record IsBitmapOf (bytes : List ℕ) (values : List Bool) : Type 0 where
  pub bitmap : IsBitmap bytes (length values)
  pub values_are : bits bytes 0 (length values) ≡ values
