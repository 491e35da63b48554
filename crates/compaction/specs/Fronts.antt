-- The longest front of tables whose rows pass a test.
use Rattle.std.specs.Prelude.{◌≡◌, ◌⊎◌, ℕ, ◌+◌, ◌<◌, ◌≤◌, nat_lt, List, length, take, slice_index_or, Bool, true, false, not, ◌&&◌, None}
use Rattle.arrays.specs.Prelude.{Batch, FieldShape, Kind, Seen, Table, batch_fault, column, is_past, is_too_big}
use Rattle.compaction.specs.Neighbours.{together}
use Rattle.compaction.specs.Sizes.{size_at}

-- The first n of so many tables at most: one table, or more whose rows together pass, and with the next they don't.
pub record IsLongest (passes : Table → Bool) (most n : ℕ) (tables : List Table) : Type 0 where
  pub some : 1 ≤ n
  pub within : n ≤ most
  pub fits : (n ≡ 1) ⊎ (passes (together (take n tables)) ≡ true)
  pub longest : n < most → passes (together (take (n + 1) tables)) ≡ false

-- There are so many rows at most, and no more than an array may have.
abbrev pub has_few : ℕ → Table → Bool
has_few max_rows t = not (nat_lt max_rows (length t)) && not (is_past (length t))

-- Offsets count what column i holds at a level.
abbrev pub fits_at : Kind → ℕ → ℕ → Table → Bool
fits_at k i level t = not (is_past (size_at k level (column t i)))

-- Offsets count what column i holds at all levels.
abbrev pub fits_in : Kind → ℕ → Table → Bool
fits_in k i t = not (is_too_big k (column t i))

-- A lawful batch of the fields.
pub record IsBatchOf (fields : List FieldShape) (b : Batch) : Type 0 where
  pub same : b.fields ≡ fields
  pub lawful : batch_fault b.fields b.rows b.columns ≡ None

-- Column i of the batch is of the kind.
abbrev pub IsOfKind : Kind → ℕ → Batch → Type 0
IsOfKind k i b = (d : Seen) → (slice_index_or b.columns i d).kind ≡ k
