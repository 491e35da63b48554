-- The batches of a file as values. (Arrow integration testing, "JSON test data format", RecordBatch)
use Rattle.std.specs.Prelude.{ℕ, List, [], ◌∷◌, codes}
use Rattle.arrays.specs.Prelude.{FieldShape, Item}
use Rattle.json_base.specs.Prelude.{Data, Items, Table, array, item, member, no_items, no_members, object}
use Rattle.json_print.specs.ColumnData.{column_data}
use Rattle.json_print.specs.Slots.{code_in}
use Rattle.json_print.specs.Written.{natural}

-- So many rows of the columns.
abbrev pub batch_object : Items → ℕ → Data
batch_object columns rows = object (member (codes "columns") (array columns) (member (codes "count") (natural rows) no_members))

-- The columns of fields, each with its dictionary.
abbrev pub columns_data : List (List (List ℕ)) → List FieldShape → List (List Item) → Items
columns_data (texts ∷ dictionaries) (f ∷ fields) (items ∷ columns) = item (column_data (code_in texts) f items) (columns_data dictionaries fields columns)
columns_data dictionaries fields columns = no_items

abbrev pub batch_data : List (List (List ℕ)) → List FieldShape → Table → Data
batch_data dictionaries fields t = batch_object (columns_data dictionaries fields t.columns) t.rows

abbrev pub batches_data : List (List (List ℕ)) → List FieldShape → List Table → Items
batches_data dictionaries fields [] = no_items
batches_data dictionaries fields (t ∷ ts) = item (batch_data dictionaries fields t) (batches_data dictionaries fields ts)
