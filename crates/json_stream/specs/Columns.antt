-- The columns of a batch, one after another. (Arrow integration testing, "JSON test data format", RecordBatch)
use Rattle.std.specs.Prelude.{◌≡◌, ℕ, ◌≤◌, List, length, slice_get, Option, Some}
use Rattle.arrays.specs.Prelude.{FieldShape, Seen, kind_of_field}
use Rattle.json_read.specs.Prelude.{Coding, Data, HoldsTop}

-- A column of the first fields, as the catalog says, for each value, whatever its length.
pub record AreReadColumns (fields : List FieldShape) (catalog : List (Option Coding)) (ds : List Data) (columns : List Seen) : Type 0 where
  pub len : length columns ≡ length ds
  pub within : length ds ≤ length fields
  pub coded : length ds ≤ length catalog
  pub each : (i : ℕ) (f : FieldShape) (c : Option Coding) (d : Data) (s : Seen) → slice_get fields i ≡ Some f → slice_get catalog i ≡ Some c → slice_get ds i ≡ Some d
      → slice_get columns i ≡ Some s → HoldsTop (kind_of_field f) c (length s.items) d s
