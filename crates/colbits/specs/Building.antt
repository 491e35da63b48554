-- Bits in the making.
use Rattle.std.specs.Prelude.{◌≡◌, ℕ, ◌*◌, ◌/◌, ◌%◌, ◌≤◌, ◌++◌, List, Bool, false, ◌<◌, length}
use Rattle.std.specs.Int.{to_le_bytes, w64}
use Rattle.colbits.specs.Bit.{bit_in, bits}

-- The first n bits of whole words, and of one more behind them.
unfoldable pub first_bits : List ℕ → ℕ → ℕ → List Bool
first_bits bytes last n = bits (bytes ++ to_le_bytes w64 last) 0 n

-- The bytes are the whole words of n bits, and the word behind them has 0 past the last bit.
pub record AreWords (bytes : List ℕ) (last n : ℕ) : Type 0 where
  pub size : length bytes ≡ 8 * (n / 64)
  pub past : (j : ℕ) → n % 64 ≤ j → j < 64 → bit_in last j ≡ false
