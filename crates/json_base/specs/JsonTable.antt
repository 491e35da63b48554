-- What a file holds, without where it lies in memory: who reads a file and who prints one both say it so.
use Rattle.std.specs.Prelude.{ℕ, List, map, slice_index_or}
use Rattle.std.specs.List.{range_with_len}
use Rattle.arrays.specs.Prelude.{Batch, FieldShape, Item, Seen, null}

-- A table: so many rows, and the items of each column.
pub record Table : Type 0 where
  pub rows : ℕ
  pub columns : List (List Item)

-- Row by row: an item of each column.
abbrev pub rows_of : Table → List (List Item)
rows_of t = map (λ i. map (λ c. slice_index_or c i null) t.columns) (range_with_len 0 t.rows)

-- The table that a batch holds.
abbrev pub items_of : List Seen → List (List Item)
items_of columns = map (λ c. c.items) columns

abbrev pub table_of : Batch → Table
table_of b = record { rows = b.rows; columns = items_of b.columns }

abbrev pub tables_of : List Batch → List Table
tables_of batches = map table_of batches

-- A file: its fields, and its tables.
pub record FileData : Type 0 where
  pub fields : List FieldShape
  pub tables : List Table
