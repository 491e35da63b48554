-- A table whose neighbouring batches are joined.
use Rattle.std.specs.Prelude.{◌≡◌, ℕ}
use Rattle.compaction.specs.Neighbours.{AreGroups}
use Rattle.table.specs.Contents.{Contents}

-- The batches of the second are the groups of the first's: of so many rows at most. All else is the same.
pub record IsCompacted (max_rows : ℕ) (before after : Contents) : Type 0 where
  pub fields : after.fields ≡ before.fields
  pub history : after.history ≡ before.history
  pub groups : AreGroups before.fields max_rows before.batches after.batches
