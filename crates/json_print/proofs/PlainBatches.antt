-- Batches that fit are plain values.
use Rattle.std.proofs.Common.{ℕ, List, [], ◌∷◌, refl}
use Rattle.arrays.specs.Prelude.{FieldShape, Item}
use Rattle.json_print.specs.Prelude.{ArePlain, AreSmall, FitColumns, FitTables, FitsTable, IsPlain, batch_data, batches_data, columns_data}
use Rattle.json_base.specs.JsonTable.{Table}
use Rattle.json_print.proofs.PlainColumns.{column_plain}

columns_plain : (dictionaries : List (List (List ℕ))) (fields : List FieldShape) (columns : List (List Item)) → AreSmall dictionaries → FitColumns fields columns → ArePlain (columns_data dictionaries fields columns)
columns_plain [] fields columns small h = tt
columns_plain (texts ∷ dictionaries) [] columns small h = tt
columns_plain (texts ∷ dictionaries) (f ∷ fields) [] small h = tt
columns_plain (texts ∷ dictionaries) (f ∷ fields) (items ∷ columns) small h = (column_plain texts small.0 f items h.0, columns_plain dictionaries fields columns small.1 h.1)

batch_plain : (dictionaries : List (List (List ℕ))) (fields : List FieldShape) (t : Table) → AreSmall dictionaries → FitsTable fields t → IsPlain (batch_data dictionaries fields t)
batch_plain dictionaries fields t small h = (columns_plain dictionaries fields t.columns small h.columns, (refl, tt), (h.rows, tt, tt))

pub batches_plain : (dictionaries : List (List (List ℕ))) (fields : List FieldShape) (tables : List Table) → AreSmall dictionaries → FitTables fields tables → ArePlain (batches_data dictionaries fields tables)
batches_plain dictionaries fields [] small h = tt
batches_plain dictionaries fields (t ∷ tables) small h = (batch_plain dictionaries fields t small h.0, batches_plain dictionaries fields tables small h.1)
