-- What so many workers make of files, and what stops them.
use Rattle.std.specs.Prelude.{◌≡◌, ◌+◌, ℕ, All, List, length, map, sum_by}
use mathlib.Core.List.{IsPrefix}
use Rattle.arrays.specs.Prelude.{FieldShape, File}
use Rattle.loads.specs.Loaded.{batches_of_files, fields_for}
use Rattle.shared.specs.Prelude.{Hand, HasAllItsPairs, IsLegalKnown, IsOfWorkers, columns_of_hand, known_of}
use Rattle.table.specs.Prelude.{Contents}
use Rattle.arrowtab.specs.Loaded.{IsLoaded, IsStopped}
use Rattle.reports.specs.FileBatches.{FileBatch, batch_of}
use Rattle.reports.specs.declared.run_fault.FileFault.TheVariants.{Refused}
use Rattle.reports.specs.declared.run_fault.RunFault.{RunFault}
use Rattle.reports.specs.declared.run_fault.RunFault.TheVariants.{OfFile}
use Rattle.table.specs.declared.refusal.Refusal.{Refusal}

-- The batches of each file.
abbrev pub listed : List File → List (List FileBatch)
listed files = map (map batch_of) (batches_of_files files)

-- The table has the first file's fields, and all batches.
pub record Holds (workers : ℕ) (files : List File) (table : Contents) : Type 0 where
  pub fields : table.fields ≡ fields_for files
  pub loaded : IsLoaded workers (listed files) (fields_for files) table.history

-- All that the workers of a table appended, which was opened with these fields.
pub record IsGathered (count : ℕ) (fields : List FieldShape) (hands : List Hand) (table : Contents) : Type 0 where
  pub whole : All (HasAllItsPairs (known_of table)) hands
  pub known : IsOfWorkers count table.history
  pub legal : IsLegalKnown (known_of table)
  pub columns : length table.fields ≡ length fields + sum_by columns_of_hand hands
  pub opened : IsPrefix fields table.fields

-- A batch of a file is refused.
abbrev pub IsFileRefused : ℕ → List File → RunFault → Type 0
IsFileRefused workers files fault =
    (file : ℕ) × (number : ℕ) × (refusal : Refusal) × (fault ≡ OfFile file (Refused number refusal)) × IsStopped workers (listed files) (fields_for files) file number refusal
