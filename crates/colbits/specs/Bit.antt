-- Bits within bytes.
use Rattle.std.specs.Prelude.{ℕ, ◌/◌, ◌%◌, ◌==◌, List, Bool, map, slice_index}
use Rattle.std.specs.List.{range_with_len}
use Rattle.std.specs.Int.{bit_at}

-- Bit k of a byte, counted from the least significant.
abbrev pub bit_in : ℕ → ℕ → Bool
bit_in byte k = bit_at byte k == 1

-- Bit k of the bytes is bit k mod 8 of byte k / 8, counted from the least significant.
-- (Arrow columnar format, "Validity bitmaps".)
unfoldable pub bit : List ℕ → ℕ → Bool
bit bytes k = bit_at (slice_index bytes (k / 8)) (k % 8) == 1

-- The n bits from place start on.
unfoldable pub bits : List ℕ → ℕ → ℕ → List Bool
bits bytes start n = map (bit bytes) (range_with_len start n)
