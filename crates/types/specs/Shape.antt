-- The fields of a schema as plain values: two readings of one file are equal by them.
use Rattle.std.specs.Prelude.{ℕ, Bool, List, map, string_bytes}
use Rattle.types.specs.declared.int_type.IntType.{IntType}
use Rattle.types.specs.declared.offset_width.OffsetWidth.{OffsetWidth}
use Rattle.types.specs.declared.offset_width.OffsetWidth.TheVariants.{Narrow, Wide}
use Rattle.types.specs.declared.data_type.DataType.{DataType, fold-DataType}
use Rattle.types.specs.declared.data_type.DataType.TheOpen.{DataType-F, Field-F}
use Rattle.types.specs.declared.data_type.Field.{Field, fold-Field}
use Rattle.types.specs.Kind as kind
use Rattle.types.specs.Kind.{Kind}

mutual
  -- A type with the fields of its lists.
  pub data Shape : Type 0 where
    int : IntType → Shape
    boolean : Shape
    texts : OffsetWidth → Shape
    lists : OffsetWidth → FieldShape → Shape
    dict : Shape

  -- A field: its name as bytes, whether it may hold nulls, and its type.
  pub data FieldShape : Type 0 where
    field : List ℕ → Bool → Shape → FieldShape

abbrev pub utf8 : Shape
utf8 = texts Narrow

abbrev pub shape_step : DataType-F Shape FieldShape → Shape
shape_step (DataType-F.Int t) = int t
shape_step DataType-F.Bool = boolean
shape_step DataType-F.Utf8 = texts Narrow
shape_step DataType-F.LargeUtf8 = texts Wide
shape_step (DataType-F.List item) = lists Narrow item.value
shape_step (DataType-F.LargeList item) = lists Wide item.value
shape_step DataType-F.Dict = dict

abbrev pub field_step : Field-F Shape FieldShape → FieldShape
field_step f = field (string_bytes f.name) f.nullable f.ty

abbrev pub shape_of : DataType → Shape
shape_of = fold-DataType Shape FieldShape shape_step field_step

abbrev pub field_of : Field → FieldShape
field_of = fold-Field Shape FieldShape shape_step field_step

abbrev pub fields_of : List Field → List FieldShape
fields_of = map field_of

-- ---- the parts of a field

abbrev pub name_of : FieldShape → List ℕ
name_of (field name nullable ty) = name

abbrev pub is_nullable : FieldShape → Bool
is_nullable (field name nullable ty) = nullable

-- The kind of a type, and of a field's.
abbrev mutual
  pub kind_of_shape : Shape → Kind
  kind_of_shape (int t) = kind.int t
  kind_of_shape boolean = kind.boolean
  kind_of_shape (texts w) = kind.texts w
  kind_of_shape (lists w f) = kind.lists w (kind_of_field f)
  kind_of_shape dict = kind.dict

  pub kind_of_field : FieldShape → Kind
  kind_of_field (field name nullable ty) = kind_of_shape ty
