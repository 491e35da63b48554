-- The columns of the rows of lawful batches.
use Rattle.std.proofs.Common.{◌≡◌, None}
use Rattle.arrays.specs.Batch.{Batch, batch_fault, rows_of}
use Rattle.arrays.proofs.BatchLemmas.{column-is}
use Rattle.table.specs.Columns.{HasColumns}

-- The columns of a lawful batch are those of its rows.
pub HasColumns-rows_of : (b : Batch) → batch_fault b.fields b.rows b.columns ≡ None → HasColumns (rows_of b) b.columns
HasColumns-rows_of b lawful = record { each = λ k d below. column-is b k d lawful below }
