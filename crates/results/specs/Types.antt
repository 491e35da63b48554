-- Of which types the columns of an answer are.
use Rattle.std.specs.Prelude.{ℕ, List, ◌++◌, map, slice_get, Option, Some, None}
use Rattle.arrays.specs.Kind as kind
use Rattle.arrays.specs.Prelude.{FieldShape, Kind, int64, kind_of_field}
use Rattle.answers.specs.Prelude.{Agg, Count, Greatest, Least, QueryShape, Rows, Sum}
use Rattle.results.specs.declared.result_type.ResultType.{ResultType}
use Rattle.results.specs.declared.result_type.ResultType.TheVariants.{Int, Bool, Text}

-- Items of a column keep their integer type, truth values theirs. Whatever else a query takes is a text.
abbrev pub type_of_kind : Kind → ResultType
type_of_kind (kind.int t) = Int t
type_of_kind kind.boolean = Bool
type_of_kind (kind.texts w) = Text
type_of_kind (kind.lists w k) = Text
type_of_kind kind.dict = Text

abbrev pub type_of_field : Option FieldShape → ResultType
type_of_field (Some f) = type_of_kind (kind_of_field f)
type_of_field None = Text

-- The type of a key's item, and of a least or a greatest: that of its column.
abbrev pub type_at : List FieldShape → ℕ → ResultType
type_at fields place = type_of_field (slice_get fields place)

-- Counts and sums are integers of 64 bits.
abbrev pub type_of_agg : List FieldShape → Agg ℕ → ResultType
type_of_agg fields Rows = Int int64
type_of_agg fields (Count c) = Int int64
type_of_agg fields (Sum c) = Int int64
type_of_agg fields (Least c) = type_at fields c
type_of_agg fields (Greatest c) = type_at fields c

-- Those of the keys, and then those of the aggregates.
abbrev pub result_types : List FieldShape → QueryShape ℕ → List ResultType
result_types fields q = map (type_at fields) q.by ++ map (type_of_agg fields) q.aggs
