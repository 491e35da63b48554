-- The nodes that a snapshot lends.
use Rattle.std.specs.Prelude.{◌≡◌, ℕ, List, [], Some, slice_get}
use Rattle.arrays.specs.Batch.{Batch, rows_of}
use Rattle.intake.specs.Prelude.{LendsColumns, Node}
use Rattle.embed.specs.Prelude.{Contents, IsStored, NamesFronts}
use Rattle.embed.specs.History as history

-- They are the columns of a batch of the fields, one after the other, over the parts of lawful arrays that show it. Its rows are those of the batch of this number, and its dictionaries begin those of
-- the whole table, so that a code means the same text in each batch.
pub record IsLent (number rows : ℕ) (lent : List Node) (t : Contents) : Type 0 where
  pub batch : Batch
  pub at : slice_get t.batches number ≡ Some (rows_of batch)
  pub stored : IsStored t.fields batch
  pub fronts : NamesFronts t.fields (history.rows t.history) batch
  pub count : rows ≡ batch.rows
  pub lends : LendsColumns lent batch.fields batch.columns []

-- The same of whatever number of rows.
abbrev pub IsLentOf : ℕ → List Node → Contents → Type 0
IsLentOf number lent t = (rows : ℕ) × IsLent number rows lent t
