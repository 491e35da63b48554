-- Rows that are true, as the bits of a column of truth values tell them.
use Rattle.std.specs.Prelude.{ℕ, List, Bool, ◌&&◌, Option, filter, length}
use Rattle.std.specs.List.{range_with_len}
use Rattle.arrays.specs.Prelude.{bit_in, bit_of, valid_in}

-- Whether row i is true: it is valid, and its bit is 1.
abbrev pub is_set : Option (List Bool) → List Bool → ℕ → Bool
is_set validity bits i = valid_in validity i && bit_of bits i

-- The rows that are true.
abbrev pub set_rows : Option (List Bool) → List Bool → List ℕ
set_rows validity bits = filter (is_set validity bits) (range_with_len 0 (length bits))

-- The places of the ones of a word.
abbrev pub ones_of : ℕ → List ℕ
ones_of word = filter (bit_in word) (range_with_len 0 64)
