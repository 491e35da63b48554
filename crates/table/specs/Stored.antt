-- How a table keeps its columns: a top-level column of texts with offsets of 32 bits gets a dictionary.
use Rattle.std.specs.Prelude.{List, map, Bool}
use Rattle.arrays.specs.Prelude.{DataType, FieldShape, Kind, Narrow, Shape, Wide, dict, field, kind_of, kind_of_field, lists, same_kind, texts}
use Rattle.arrays.specs.Kind as kind
use Rattle.arrays.specs.Shape.{boolean, int}

abbrev pub stored_shape : Shape → Shape
stored_shape (texts Narrow) = dict
stored_shape (texts Wide) = texts Wide
stored_shape (int t) = int t
stored_shape boolean = boolean
stored_shape (lists w f) = lists w f
stored_shape dict = dict

abbrev pub stored_field : FieldShape → FieldShape
stored_field (field name nullable ty) = field name nullable (stored_shape ty)

abbrev pub stored_fields : List FieldShape → List FieldShape
stored_fields fields = map stored_field fields

abbrev pub stored_kind : Kind → Kind
stored_kind (kind.texts Narrow) = kind.dict
stored_kind (kind.texts Wide) = kind.texts Wide
stored_kind (kind.int t) = kind.int t
stored_kind kind.boolean = kind.boolean
stored_kind (kind.lists w k) = kind.lists w k
stored_kind kind.dict = kind.dict

-- Whether the stored field is one of texts.
abbrev pub is_text_field : FieldShape → Bool
is_text_field f = same_kind (kind_of_field f) kind.dict

-- Whether a column of the second type is stored as one of the first.
abbrev pub is_stored_as : DataType → DataType → Bool
is_stored_as stored handed = same_kind (kind_of stored) (stored_kind (kind_of handed))
