-- A file whose dictionaries are short fits.
use Rattle.std.proofs.Common.{◌≡◌, ℕ, ◌<◌, ◌^◌, List, [], ◌∷◌, length, false, arith}
use Rattle.std.specs.Prelude.{sum_by}
use Rattle.std.specs.List.{AllByRecursion}
use Rattle.std.proofs.lemmas.Bool.{ltb-false}
use Rattle.arrays.specs.Prelude.{FieldShape, IsItemOf, Item, Narrow, OffsetWidth, Shape, Wide, depth, dict, field, inner_items, is_too_big, kind_of_field, kind_of_shape, text_bytes}
use Rattle.arrays.specs.Kind as kind
use Rattle.arrays.specs.Shape as shape
use Rattle.arrays.specs.Shape.{int, boolean}
use Rattle.json_base.specs.JsonTable.{Table}
use Rattle.json_print.specs.Prelude.{AreShallow, FitColumns, FitDictionaries, FitTables, FitsField, FitsFile, FitsOffset, FitsShape, dictionaries_from, item_length}
use Rattle.json_laws.specs.IsFile.{AreColumns, AreShort, IsField, IsFile, IsTable}
use Rattle.arrays.proofs.SizeLemmas.{small}
use Rattle.json_print.proofs.Columns.{inner_few, inner_typed, list_sizes, text_sizes}

-- Texts fit where the narrow offsets count them: nothing is required of wide ones.
texts_fit : (w : OffsetWidth) (items : List Item) → AllByRecursion (IsItemOf (kind.texts w)) items → is_too_big (kind.texts w) items ≡ false → FitsOffset w (sum_by item_length items)
texts_fit Narrow items typed counted = omega (arith, text_sizes Narrow items typed, small (text_bytes items) counted)
texts_fit Wide items typed counted = tt

few_fit : (w : OffsetWidth) (n : ℕ) → n < 2 ^ 64 → FitsOffset w n
few_fit Narrow n h = h
few_fit Wide n h = tt

mutual
  field_fits : (f : FieldShape) (items : List Item) → length items < 2 ^ 31 → AllByRecursion (IsItemOf (kind_of_field f)) items → is_too_big (kind_of_field f) items ≡ false → FitsField f items
  field_fits (field name nullable ty) items few typed counted = (omega (arith, few), shape_fits ty items typed counted)

  shape_fits : (ty : Shape) (items : List Item) → AllByRecursion (IsItemOf (kind_of_shape ty)) items → is_too_big (kind_of_shape ty) items ≡ false → FitsShape ty items
  shape_fits (int t) items typed counted = typed
  shape_fits boolean items typed counted = tt
  shape_fits (shape.texts w) items typed counted = texts_fit w items typed counted
  shape_fits (shape.lists w f) items typed counted =
      let k = kind_of_field f in
      let inside = inner_few w k items counted in (
        few_fit w (sum_by item_length items) (omega (arith, list_sizes w k items typed, inside.0)),
        field_fits f (inner_items items) inside.0 (inner_typed w k items typed) inside.1,
      )
  shape_fits dict items typed counted = tt

columns_fit : (fields : List FieldShape) (rows : ℕ) (columns : List (List Item)) → rows < 2 ^ 31 → AreColumns fields rows columns → FitColumns fields columns
columns_fit [] rows columns few h = tt
columns_fit (f ∷ fields) rows [] few h = absurd h
columns_fit (f ∷ fields) rows (items ∷ columns) few h =
    (field_fits f items (omega (arith, few, h.0.len)) h.0.typed h.0.counted, columns_fit fields rows columns few h.1)

tables_fit : (fields : List FieldShape) (tables : List Table) → AllByRecursion (IsTable fields) tables → FitTables fields tables
tables_fit fields [] h = tt
tables_fit fields (t ∷ tables) h = (record { rows = omega (arith, h.0.few); columns = columns_fit fields t.rows t.columns h.0.few h.0.columns }, tables_fit fields tables h.1)

fields_shallow : (fields : List FieldShape) → AllByRecursion IsField fields → AreShallow fields
fields_shallow [] h = tt
fields_shallow (f ∷ fields) h = (ltb-false 8 (depth (kind_of_field f)) h.0.shallow, fields_shallow fields h.1)

dictionaries_fit : (dictionaries : List (List (List ℕ))) → AreShort dictionaries → FitDictionaries dictionaries
dictionaries_fit [] h = tt
dictionaries_fit (texts ∷ dictionaries) h = ((omega (arith, h.0.0), omega (arith, h.0.1)), dictionaries_fit dictionaries h.1)

pub file_fits : (fields : List FieldShape) (tables : List Table) → IsFile fields tables → AreShort (dictionaries_from 0 fields tables) → FitsFile fields tables
file_fits fields tables h short = record {
  few = omega (arith, h.few);
  shallow = fields_shallow fields h.lawful;
  present = tables_fit fields tables h.present;
  coded = dictionaries_fit (dictionaries_from 0 fields tables) short;
}
