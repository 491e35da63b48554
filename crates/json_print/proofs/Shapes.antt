-- The shapes of types.
use Rattle.std.proofs.Common.{◌≡◌, ◌∙◌, ap}
use Rattle.std.specs.declared.boxed.Box.{Box}
use Rattle.std.specs.declared.alloc.Global.{Global}
use Rattle.arrays.specs.Prelude.{DataType, DataType-F, Dict, Field, FieldShape, LargeUtf8, Shape, Wide, dict, field_of, field_step, fold_out-DataType, lists, map-DataType, out-DataType, outs-Dict, outs-LargeList', outs-LargeUtf8, shape_of, shape_step, texts}
use Rattle.arrays.specs.DataTypeViews as types

-- A type whose level is known.
pub shape_at : (t : DataType) (level : DataType-F DataType Field) → out-DataType t ≡ level → shape_of t ≡ shape_step (map-DataType DataType Field Shape FieldShape shape_of field_of level)
shape_at t level is =
    fold_out-DataType Shape FieldShape shape_step field_step t
    ∙ ap (λ o. shape_step (map-DataType DataType Field Shape FieldShape shape_of field_of o)) is

pub shape_of-LargeUtf8 : shape_of LargeUtf8 ≡ texts Wide
shape_of-LargeUtf8 = shape_at LargeUtf8 _ outs-LargeUtf8

pub shape_of-LargeList : (item : Box Field Global) → shape_of (types.LargeList item) ≡ lists Wide (field_of item.value)
shape_of-LargeList item =
    shape_at (types.LargeList item) _ (outs-LargeList' record { ptr = item.ptr; alloc = item.alloc; value = record {} } item.value.name item.value.nullable item.value.ty)

pub shape_of-Dict : shape_of Dict ≡ dict
shape_of-Dict = shape_at Dict _ outs-Dict
