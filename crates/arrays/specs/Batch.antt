-- A record batch, and what it refuses.
use Rattle.std.specs.Prelude.{ℕ, ◌==◌, List, map, length, not, nat_lt, if◌then◌else◌, Option, Some, option_map, position, slice_index_or, refl}
use Rattle.std.specs.List.{range_with_len, zip}
use Rattle.layout.specs.Prelude.{Item, Seen, null, seen_code}
use Rattle.types.specs.Prelude.{FieldShape, field_code, kind_of_field, most_slots, same_kind}
use Rattle.arrays.specs.declared.batch.BatchFault.{BatchFault}
use Rattle.arrays.specs.declared.batch.BatchFault.TheVariants.{LengthsDiffer, TypeDiffers, ColumnCount}
use Rattle.std.specs.Coded.{Coded, code_by, coded_ℕ, coded_list, coded×}
use Rattle.std.specs.Option.{option_or}

-- Columns under their fields, of so many rows.
pub record Batch : Type 0 where
  pub fields : List FieldShape
  pub rows : ℕ
  pub columns : List Seen

-- The least column whose kind isn't that of its field.
abbrev pub differing_type : List FieldShape → List Seen → Option ℕ
differing_type fields columns = position (λ p. not (same_kind p.0.kind (kind_of_field p.1))) (zip columns fields)

-- The least column that isn't so long.
abbrev pub differing_length : ℕ → List Seen → Option ℕ
differing_length rows columns = position (λ c. not (length c.items == rows)) columns

-- The least column that isn't as long as the rows, or is one of too many rows.
abbrev pub bad_length : ℕ → List Seen → Option ℕ
bad_length rows columns = if nat_lt most_slots rows then Some 0 else differing_length rows columns

-- The first fault of columns under fields.
abbrev pub batch_fault : List FieldShape → ℕ → List Seen → Option BatchFault
batch_fault fields rows columns =
    if not (length columns == length fields)
    then Some ColumnCount
    else option_or (option_map (λ c. TypeDiffers c) (differing_type fields columns)) (option_map (λ c. LengthsDiffer c) (bad_length rows columns))

-- A row is a list of items, one a field. A table is a list of rows.
abbrev pub Row : Type 0
Row = List Item

abbrev pub Table : Type 0
Table = List Row

-- Item k of each row.
abbrev pub column : Table → ℕ → List Item
column t k = map (λ row. slice_index_or row k null) t

-- Row i of the columns: an item of each.
abbrev pub row_of : List Seen → ℕ → Row
row_of columns i = map (λ c. slice_index_or c.items i null) columns

-- The rows of a batch.
abbrev pub rows_of : Batch → Table
rows_of b = map (row_of b.columns) (range_with_len 0 b.rows)

-- By it a proof tells batches apart.
abbrev pub batch_code : Coded Batch
batch_code =
    code_by (List FieldShape × (ℕ × List Seen)) (coded× (coded_list field_code) (coded× coded_ℕ (coded_list seen_code)))
    (λ b. (b.fields, (b.rows, b.columns)))
    (λ p. record { fields = p.0; rows = p.1.0; columns = p.1.1 })
    (λ _. refl)
