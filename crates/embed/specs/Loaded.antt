-- What a table holds that files were loaded into, one after the other.
use Rattle.std.specs.Prelude.{◌≡◌, ℕ, List, All, None, map}
use Rattle.std.specs.List.{AllZip, flat_map}
use Rattle.arrays.specs.Prelude.{FieldShape}
use Rattle.arrow_json.specs.Prelude.{FileData, Reads}
use Rattle.table.specs.Prelude.{History, IsLegal, difference}
use Rattle.reports.specs.FileBatches.{FileBatch, batches_with_fields, table_fields}

-- The batches of all files, in order.
abbrev pub all_batches : List FileData → List FileBatch
all_batches files = flat_map batches_with_fields files

-- Each of the batches in a call of its own, all by worker 0.
abbrev pub added : List FileBatch → History
added batches = map (λ b. (0, b.rows)) batches

-- Under the fields of the table, each of these batches was added, and nothing else.
pub record AddsAll (batches : List FileBatch) (fields : List FieldShape) (h : History) : Type 0 where
  pub alike : All (λ b. difference fields b.fields ≡ None) batches
  pub whole : h ≡ added batches
  pub legal : IsLegal fields h

-- The table of the texts' files: it has the first file's fields, and all batches.
pub record HoldsFiles (texts : List (List ℕ)) (fields : List FieldShape) (h : History) : Type 0 where
  pub files : List FileData
  pub read : AllZip Reads texts files
  pub opened : fields ≡ table_fields files
  pub loaded : AddsAll (all_batches files) fields h
