-- What a query answers, as a record batch.
use Rattle.std.specs.Prelude.{ℕ, List, [], ◌++◌, map, length, slice_index_or, codes, Bool, true, false, if◌then◌else◌}
use Rattle.std.specs.List.{list_all, range_with_len}
use Rattle.std.specs.Fmt.{signed_decimal}
use Rattle.arrays.specs.Prelude.{Batch, FieldShape, Item, Kind, Seen, Shape, Wide, field, is_of_type, shown}
use Rattle.arrays.specs.Kind as kind
use Rattle.arrays.specs.Shape as shape
use Rattle.arrays.specs.Item as item
use Rattle.answers.specs.Groups.{GroupShape}
use Rattle.results.specs.declared.result_type.ResultType.{ResultType}
use Rattle.results.specs.declared.result_type.ResultType.TheVariants as result

-- ---- a column

-- An item of the type, or null.
abbrev pub is_of : ResultType → Item → Bool
is_of t item.null = true
is_of (result.Int t) (item.int z) = is_of_type t z
is_of result.Bool (item.boolean b) = true
is_of result.Text (item.text s) = true
is_of t x = false

abbrev pub kind_of_type : ResultType → Kind
kind_of_type (result.Int t) = kind.int t
kind_of_type result.Bool = kind.boolean
kind_of_type result.Text = kind.texts Wide

-- An item as a text: a number in decimal.
abbrev pub decimal_text : Item → Item
decimal_text item.null = item.null
decimal_text (item.int z) = item.text (signed_decimal z)
decimal_text (item.boolean true) = item.text (codes "true")
decimal_text (item.boolean false) = item.text (codes "false")
decimal_text (item.text s) = item.text s
decimal_text (item.list xs) = item.null

-- The column of these items. Where one isn't of the type, as a sum past 64 bits, all are texts.
abbrev pub result_column : ResultType → List Item → Seen
result_column t xs = if list_all (is_of t) xs then shown (kind_of_type t) xs else shown (kind.texts Wide) (map decimal_text xs)

-- ---- the batch

-- An item of a group: of its key, or behind it an aggregate.
abbrev pub item_at : ℕ → GroupShape → Item
item_at place g = slice_index_or (g.keys ++ g.cells) place item.null

-- The column of each place.
abbrev pub answer_column : List ResultType → List GroupShape → ℕ → Seen
answer_column types groups place = result_column (slice_index_or types place result.Text) (map (item_at place) groups)

abbrev pub result_columns : List ResultType → List GroupShape → List Seen
result_columns types groups = map (answer_column types groups) (range_with_len 0 (length types))

abbrev pub shape_of_kind : Kind → Shape
shape_of_kind (kind.int t) = shape.int t
shape_of_kind kind.boolean = shape.boolean
shape_of_kind k = shape.texts Wide

-- A field for each column, under the name at its place; its items may be null.
abbrev pub field_at : List (List ℕ) → List Kind → ℕ → FieldShape
field_at names kinds place = field (slice_index_or names place []) true (shape_of_kind (slice_index_or kinds place kind.boolean))

abbrev pub result_fields : List (List ℕ) → List Seen → List FieldShape
result_fields names columns = map (field_at names (map (λ c. c.kind) columns)) (range_with_len 0 (length columns))

-- A row for each group, under these names.
abbrev pub result_batch : List (List ℕ) → List ResultType → List GroupShape → Batch
result_batch names types groups = record {
  fields = result_fields names (result_columns types groups);
  rows = length groups;
  columns = result_columns types groups;
}
