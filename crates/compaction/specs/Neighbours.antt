-- Neighbouring tables put together, as long as one batch holds them.
use Rattle.std.specs.Prelude.{◌≡◌, ◌⊎◌, ℕ, ◌+◌, ◌<◌, ◌≤◌, nat_lt, List, [], ◌∷◌, ◌++◌, flat_map, length, take, drop, slice_index_or, is_some, position, Bool, true, false, not, ◌&&◌}
use Rattle.std.specs.List.{enumerate_from}
use Rattle.arrays.specs.Prelude.{FieldShape, Table, column, is_past, is_too_big, kind_of_field}

-- Some column holds more than 32-bit offsets count (Arrow columnar format, "Variable-size binary layout", "Variable-size
-- list layout"). Of a dictionary-encoded column codes alone are put together.
abbrev pub is_big : List FieldShape → Table → Bool
is_big fields t = is_some (position (λ e. is_too_big (kind_of_field e.1) (column t e.0)) (enumerate_from 0 fields))

-- The rows are those of one batch of so many rows at most.
abbrev pub is_one : List FieldShape → ℕ → Table → Bool
is_one fields max_rows t = not (nat_lt max_rows (length t)) && (not (is_past (length t)) && not (is_big fields t))

-- The rows of all tables, one table after the other.
abbrev pub together : List Table → Table
together tables = flat_map (λ t. t) tables

-- The first n tables are a group: one table, or more that are one batch, and with the next they aren't.
pub record IsGroup (fields : List FieldShape) (max_rows n : ℕ) (tables : List Table) : Type 0 where
  pub some : 1 ≤ n
  pub within : n ≤ length tables
  pub fits : (n ≡ 1) ⊎ (is_one fields max_rows (together (take n tables)) ≡ true)
  pub most : n < length tables → is_one fields max_rows (together (take (n + 1) tables)) ≡ false

-- From the first table on, each of these is the rows of a group.
abbrev pub AreGroups : List FieldShape → ℕ → List Table → List Table → Type 0
AreGroups fields max_rows tables [] = tables ≡ []
AreGroups fields max_rows tables (g ∷ rest) =
    (n : ℕ) × (IsGroup fields max_rows n tables × ((g ≡ together (take n tables)) × AreGroups fields max_rows (drop n tables) rest))

-- No two neighbours are one batch.
abbrev pub AreApart : List FieldShape → ℕ → List Table → Type 0
AreApart fields max_rows tables =
    (i : ℕ) → i + 1 < length tables → is_one fields max_rows (slice_index_or tables i [] ++ slice_index_or tables (i + 1) []) ≡ false
