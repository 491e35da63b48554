-- Rows that are picked, one for each slot of a result.
use Rattle.std.specs.Prelude.{ℕ, ◌+◌, ◌-◌, ◌*◌, ◌<◌, ◌==◌, ◌++◌, List, map, filter, length, Bool, true, false, Option, Some, None, slice_index_or, if◌then◌else◌}
use Rattle.std.specs.List.{range_with_len}
use Rattle.arrays.specs.Prelude.{Item, bit_in, bit_of, null}

-- The item of the row that is picked, null where none is.
abbrev pub picked_at : List Item → Option ℕ → Item
picked_at items None = null
picked_at items (Some i) = slice_index_or items i null

abbrev pub picked : List Item → List (Option ℕ) → List Item
picked items picks = map (picked_at items) picks

-- No row, or one of n.
abbrev pub IsPick : ℕ → Option ℕ → Type 0
IsPick n None = Unit {0}
IsPick n (Some i) = i < n

-- Whether a row is picked.
abbrev pub is_row : Option ℕ → Bool
is_row None = false
is_row (Some i) = true

-- The first n rows, each picked.
abbrev pub first_rows : ℕ → List (Option ℕ)
first_rows n = map (λ i. Some i) (range_with_len 0 n)

-- Of n neighbouring rows those that a test passes, each picked.
unfoldable pub rows_where : (ℕ → Bool) → ℕ → ℕ → List (Option ℕ)
rows_where test start n = map (λ i. Some i) (filter test (range_with_len start n))

-- The rows whose bit is 1, each picked.
abbrev pub rows_of_ones : List Bool → List (Option ℕ)
rows_of_ones bits = rows_where (bit_of bits) 0 (length bits)

-- Those that are still to come where the ones of word `at` are given up to those that are left, and those of the words
-- behind it aren't.
abbrev pub ones_left : List Bool → ℕ → ℕ → List (Option ℕ)
ones_left bits at left = rows_where (λ i. bit_in left (i - 64 * at)) (64 * at) 64 ++ rows_where (bit_of bits) (64 * at + 64) (length bits)

-- A row as it is kept in memory: the greatest number of 32 bits stands for none.
abbrev pub pick_of : ℕ → Option ℕ
pick_of row = if row == 4294967295 then None else Some row
