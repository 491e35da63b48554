-- A field's kind is that of its type, whichever way it is read.
use Rattle.std.proofs.Common.{◌≡◌, ◌∙◌, ap, sym}
use Rattle.std.specs.declared.boxed.Box.{Box}
use Rattle.std.specs.declared.alloc.Global.{Global}
use Rattle.types.specs.declared.data_type.DataType.{DataType, DataType-F, out-DataType, fold-DataType, fold_out-DataType, map-DataType}
use Rattle.types.specs.declared.data_type.DataType.TheVariants.{Int, Bool, Utf8, LargeUtf8, List', LargeList', Dict, outs-Int, outs-Bool, outs-Utf8, outs-LargeUtf8, outs-List', outs-LargeList', outs-Dict}
use Rattle.types.specs.declared.data_type.DataType.TheViews as types
use Rattle.types.specs.declared.data_type.DataType.TheOpen.{Field-F}
use Rattle.types.specs.declared.data_type.Field.{Field, out-Field, fold-Field, fold_out-Field}
use Rattle.types.specs.declared.int_type.IntType.{IntType}
use Rattle.types.specs.declared.offset_width.OffsetWidth.{OffsetWidth}
use Rattle.types.specs.declared.offset_width.OffsetWidth.TheVariants.{Narrow, Wide}
use Rattle.types.specs.Kind as kind
use Rattle.types.specs.Prelude.{FieldShape, Kind, Shape, field_of, field_step, kind_of, kind_of_field, kind_of_shape, kind_step, shape_of, shape_step}
use Rattle.types.specs.Shape as shape

-- a fold at a type whose level is known
folded : (A B : Type 0) (step : DataType-F A B → A) (field : Field-F A B → B) (t : DataType) (level : DataType-F DataType Field) → out-DataType t ≡ level
    → fold-DataType A B step field t ≡ step (map-DataType DataType Field A B (fold-DataType A B step field) (fold-Field A B step field) level)
folded A B step field t level is =
    fold_out-DataType A B step field t
    ∙ ap (λ o. step (map-DataType DataType Field A B (fold-DataType A B step field) (fold-Field A B step field) o)) is

kind_at : (t : DataType) (level : DataType-F DataType Field) → out-DataType t ≡ level
    → kind_of t ≡ kind_step (map-DataType DataType Field Kind Kind kind_of (fold-Field Kind Kind kind_step (λ f. f.ty)) level)
kind_at = folded Kind Kind kind_step (λ f. f.ty)

shape_at : (t : DataType) (level : DataType-F DataType Field) → out-DataType t ≡ level
    → shape_of t ≡ shape_step (map-DataType DataType Field Shape FieldShape shape_of field_of level)
shape_at = folded Shape FieldShape shape_step field_step

-- a list at its own level
list_at : (w : OffsetWidth) (t : DataType) (item : Field) → kind_of_shape (shape_of t) ≡ kind_of_shape (shape.lists w (field_of item)) → kind_of_shape (shape_of (out-Field item).ty) ≡ kind_of (out-Field item).ty
    → kind_of t ≡ kind.lists w (fold-Field Kind Kind kind_step (λ f. f.ty) item) → kind_of_shape (shape_of t) ≡ kind_of t
list_at w t item shaped inner kinded =
    shaped
    ∙ ap (λ f. kind.lists w (kind_of_field f)) (fold_out-Field Shape FieldShape shape_step field_step item)
    ∙ ap (kind.lists w) inner
    ∙ ap (kind.lists w) (sym (fold_out-Field Kind Kind kind_step (λ f. f.ty) item))
    ∙ sym kinded

pub kind_of_shape-shape_of : (t : DataType) → kind_of_shape (shape_of t) ≡ kind_of t
kind_of_shape-shape_of (Int x) = ap kind_of_shape (shape_at (Int x) _ (outs-Int x)) ∙ sym (kind_at (Int x) _ (outs-Int x))
kind_of_shape-shape_of Bool = ap kind_of_shape (shape_at Bool _ outs-Bool) ∙ sym (kind_at Bool _ outs-Bool)
kind_of_shape-shape_of Utf8 = ap kind_of_shape (shape_at Utf8 _ outs-Utf8) ∙ sym (kind_at Utf8 _ outs-Utf8)
kind_of_shape-shape_of LargeUtf8 = ap kind_of_shape (shape_at LargeUtf8 _ outs-LargeUtf8) ∙ sym (kind_at LargeUtf8 _ outs-LargeUtf8)
kind_of_shape-shape_of (List' b name nullable ty) =
    list_at Narrow (List' b name nullable ty) (record { name = name; nullable = nullable; ty = ty })
    (ap kind_of_shape (shape_at (List' b name nullable ty) _ (outs-List' b name nullable ty)))
    (kind_of_shape-shape_of ty)
    (kind_at (List' b name nullable ty) _ (outs-List' b name nullable ty))
kind_of_shape-shape_of (LargeList' b name nullable ty) =
    list_at Wide (LargeList' b name nullable ty) (record { name = name; nullable = nullable; ty = ty })
    (ap kind_of_shape (shape_at (LargeList' b name nullable ty) _ (outs-LargeList' b name nullable ty)))
    (kind_of_shape-shape_of ty)
    (kind_at (LargeList' b name nullable ty) _ (outs-LargeList' b name nullable ty))
kind_of_shape-shape_of Dict = ap kind_of_shape (shape_at Dict _ outs-Dict) ∙ sym (kind_at Dict _ outs-Dict)

pub kind_of_field-field_of : (f : Field) → kind_of_field (field_of f) ≡ kind_of (out-Field f).ty
kind_of_field-field_of f =
    ap kind_of_field (fold_out-Field Shape FieldShape shape_step field_step f) ∙ kind_of_shape-shape_of (out-Field f).ty

pub kind_of-Int : (t : IntType) → kind_of (Int t) ≡ kind.int t
kind_of-Int t = kind_at (Int t) _ (outs-Int t)

pub kind_of-Bool : kind_of Bool ≡ kind.boolean
kind_of-Bool = kind_at Bool _ outs-Bool

pub kind_of-Utf8 : kind_of Utf8 ≡ kind.texts Narrow
kind_of-Utf8 = kind_at Utf8 _ outs-Utf8

pub kind_of-LargeUtf8 : kind_of LargeUtf8 ≡ kind.texts Wide
kind_of-LargeUtf8 = kind_at LargeUtf8 _ outs-LargeUtf8

pub kind_of-List : (item : Box Field Global) → kind_of (types.List item) ≡ kind.lists Narrow (kind_of item.value.ty)
kind_of-List item =
    kind_at (types.List item) _ (outs-List' record { ptr = item.ptr; alloc = item.alloc; value = record {} } item.value.name item.value.nullable item.value.ty)
    ∙ ap (kind.lists Narrow) (fold_out-Field Kind Kind kind_step (λ f. f.ty) item.value)

pub kind_of-LargeList : (item : Box Field Global) → kind_of (types.LargeList item) ≡ kind.lists Wide (kind_of item.value.ty)
kind_of-LargeList item =
    kind_at (types.LargeList item) _ (outs-LargeList' record { ptr = item.ptr; alloc = item.alloc; value = record {} } item.value.name item.value.nullable item.value.ty)
    ∙ ap (kind.lists Wide) (fold_out-Field Kind Kind kind_step (λ f. f.ty) item.value)
