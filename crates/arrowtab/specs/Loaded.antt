-- Which histories come of the files' batches.
use Rattle.std.specs.Prelude.{◌≡◌, ◌≢◌, ◌<◌, ◌++◌, ◌%◌, ℕ, List, map, slice_get, take, None, Some, All}
use mathlib.Core.List.{IsPrefix}
use Rattle.arrays.specs.Prelude.{FieldShape, Table}
use Rattle.table.specs.Prelude.{History, IsLegal, difference, handed_cause, of}
use Rattle.loads.specs.Plan.{planned}
use Rattle.reports.specs.FileBatches.{FileBatch, batch_tables}
use Rattle.table.specs.declared.refusal.Refusal.{Refusal}

-- The tables that a worker added, in order.
abbrev pub added_by : History → ℕ → List Table
added_by h worker = map (λ e. e.1) (of h worker)

-- The fields of each batch are the table's, and each worker added its list in the plan, in order, and nobody else anything.
pub record IsLoaded (workers : ℕ) (files : List (List FileBatch)) (fields : List FieldShape) (h : History) : Type 0 where
  pub alike : All (All (λ b. difference fields b.fields ≡ None)) files
  pub known : All (λ e. e.0 < workers) h
  pub each : (w : ℕ) → w < workers → added_by h w ≡ batch_tables (planned files workers w)
  pub legal : IsLegal fields h

-- A cause stands for batch `number` of a file after a legal history: each worker had added a front of its list in the plan,
-- the file's worker its files before this one, and of this one the batches before that.
pub record IsStopped (workers : ℕ) (files : List (List FileBatch)) (fields : List FieldShape) (file number : ℕ) (refusal : Refusal) : Type 0 where
  pub batches : List FileBatch
  pub batch : FileBatch
  pub history : History
  pub in_files : slice_get files file ≡ Some batches
  pub in_file : slice_get batches number ≡ Some batch
  pub known : All (λ e. e.0 < workers) history
  pub own : added_by history (file % workers) ≡ batch_tables (planned (take file files) workers (file % workers) ++ take number batches)
  pub others : (w : ℕ) → w < workers → w ≢ file % workers → IsPrefix (added_by history w) (batch_tables (planned files workers w))
  pub legal : IsLegal fields history
  pub stands : handed_cause fields history batch.fields batch.rows ≡ Some refusal
