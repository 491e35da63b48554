-- The columns of a table, side by side.
use Rattle.std.specs.Prelude.{◌≡◌, ℕ, ◌<◌, List, length, slice_index_or}
use Rattle.arrays.specs.Prelude.{Seen, Table, column}

-- The columns are those of the table.
pub record HasColumns (t : Table) (columns : List Seen) : Type 0 where
  pub each : (k : ℕ) (d : Seen) → k < length columns → column t k ≡ (slice_index_or columns k d).items
