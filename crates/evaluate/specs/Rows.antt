-- The rows of a batch, and the column that their items come from.
use Rattle.std.specs.Prelude.{◌≡◌, ◌<◌, ℕ, Ok, length, slice_index_or, List, map}
use Rattle.arrays.specs.Prelude.{Batch, FieldShape, Kind, Seen, kind_of_field, null, row_of}
use Rattle.query.specs.Prelude.{sort_at, sort_of_kind}
use Rattle.arrays.specs.Kind as kind

-- The column is of the sort of its field, with an item for each row.
pub record HasColumn (b : Batch) (place : ℕ) (c : Seen) : Type 0 where
  pub sort : sort_at b.fields place ≡ Ok (sort_of_kind c.kind)
  pub len : length c.items ≡ b.rows
  pub item : (i : ℕ) → i < b.rows → slice_index_or c.items i null ≡ slice_index_or (row_of b.columns i) place null

-- The kind of the field at a place; one of the kinds where there is no field.
abbrev pub kind_at : List FieldShape → ℕ → Kind
kind_at fields c = slice_index_or (map kind_of_field fields) c kind.boolean
