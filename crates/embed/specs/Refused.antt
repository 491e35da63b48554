-- Why files can't be loaded.
use Rattle.std.specs.Prelude.{◌≡◌, ◌⊎◌, ◌++◌, ℕ, List, Some, slice_get, take}
use Rattle.std.specs.List.{AllZip}
use Rattle.arrays.specs.Prelude.{FieldShape}
use Rattle.arrow_json.specs.Prelude.{BytesFault, FileData, JsonFault, Reads}
use Rattle.table.specs.Cause.{IsLegal, handed_cause}
use Rattle.table.specs.declared.refusal.Refusal.{Refusal}
use Rattle.reports.specs.FileBatches.{FileBatch, batches_with_fields, table_fields}
use Rattle.reports.specs.declared.run_fault.FileFault.TheVariants.{Json, Refused}
use Rattle.reports.specs.declared.run_fault.RunFault.{RunFault}
use Rattle.reports.specs.declared.run_fault.RunFault.TheVariants.{OfFile}
use Rattle.embed.specs.Loaded.{added, all_batches}

-- This text is no file, and those before it are.
pub record IsUnreadText (texts : List (List ℕ)) (file : ℕ) (fault : JsonFault) : Type 0 where
  pub text : List ℕ
  pub files : List FileData
  pub at : slice_get texts file ≡ Some text
  pub read : AllZip Reads (take file texts) files
  pub stands : BytesFault text fault.kind fault.path

-- After some batches a cause stands for one of these, all those before it being added.
pub record IsStoppedIn (before batches : List FileBatch) (fields : List FieldShape) (number : ℕ) (refusal : Refusal) : Type 0 where
  pub batch : FileBatch
  pub at : slice_get batches number ≡ Some batch
  pub legal : IsLegal fields (added (before ++ take number batches))
  pub stands : handed_cause fields (added (before ++ take number batches)) batch.fields batch.rows ≡ Some refusal

-- A batch of this file is refused, after those of the files before it.
pub record IsBatchRefused (files : List FileData) (file number : ℕ) (refusal : Refusal) : Type 0 where
  pub one : FileData
  pub at : slice_get files file ≡ Some one
  pub stopped : IsStoppedIn (all_batches (take file files)) (batches_with_fields one) (table_fields files) number refusal

-- The fault of loading files.
abbrev pub StopsFiles : List FileData → RunFault → Type 0
StopsFiles files fault = (file : ℕ) × (number : ℕ) × (refusal : Refusal) × (fault ≡ OfFile file (Refused number refusal)) × IsBatchRefused files file number refusal

-- The fault of reading files from their texts.
abbrev pub StopsReading : List (List ℕ) → RunFault → Type 0
StopsReading texts fault = (file : ℕ) × (f : JsonFault) × (fault ≡ OfFile file (Json f)) × IsUnreadText texts file f

-- The fault of reading them, or of loading the files.
abbrev pub StopsTexts : List (List ℕ) → RunFault → Type 0
StopsTexts texts fault = StopsReading texts fault ⊎ ((files : List FileData) × AllZip Reads texts files × StopsFiles files fault)
