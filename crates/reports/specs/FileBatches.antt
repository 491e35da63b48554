-- The batches of files, and the fields of the table that they are loaded into.
use Rattle.std.specs.Prelude.{List, [], ◌∷◌, map}
use Rattle.arrays.specs.Batch as batch
use Rattle.arrays.specs.Prelude.{Batch, FieldShape}
use Rattle.arrow_json.specs.Prelude.{FileData, rows_of}
use Rattle.table.specs.Stored.{stored_fields}

-- A batch of a file: the fields of the file, and the rows.
pub record FileBatch : Type 0 where
  pub fields : List FieldShape
  pub rows : batch.Table

abbrev pub batches_with_fields : FileData → List FileBatch
batches_with_fields f = map (λ t. record { fields = f.fields; rows = rows_of t }) f.tables

abbrev pub batch_tables : List FileBatch → List batch.Table
batch_tables batches = map (λ b. b.rows) batches

-- The same of a batch in memory.
abbrev pub batch_of : Batch → FileBatch
batch_of b = record { fields = b.fields; rows = batch.rows_of b }

-- The fields of the table: those of the first file, as they are stored.
abbrev pub table_fields : List FileData → List FieldShape
table_fields [] = []
table_fields (file ∷ files) = stored_fields file.fields
