-- The columns that aren't dictionary-encoded read back as they are printed.
use Rattle.std.proofs.Common.{◌≡◌, ℕ, ◌<◌, ◌≤◌, ◌^◌, List, [], ◌∷◌, length, false, Some, option_map, refl, ap, subst, arith}
use Rattle.std.specs.List.{AllByRecursion}
use Rattle.std.proofs.lemmas.Bool.{ltb-false}
use Rattle.arrays.specs.Prelude.{FieldShape, IntType, IsItemOf, Item, Kind, OffsetWidth, Shape, depth, dict, ends_in_dict, field, has_dict_in_list, inner_items, is_too_big, kind_of_field, kind_of_shape, lists, texts}
use Rattle.arrays.specs.Item as column
use Rattle.arrays.specs.Kind as kind
use Rattle.arrays.specs.Shape.{int, boolean}
use Rattle.json_base.specs.Prelude.{Data}
use Rattle.json_read.specs.JsonBatch.{ReadsColumn}
use Rattle.json_read.specs.JsonColumn.{ReadsPlain, Spelling, numbers, texts as texts_spelled, truths}
use Rattle.json_read.proofs.JsonLists.{column_plain}
use Rattle.json_print.specs.Prelude.{column_data, each, is_encoded, number_data, shaped_column, text_column, text_data, truth_data, valid_data}
use Rattle.json_laws.specs.IsFile.{IsColumn, IsField}
use Rattle.json_print.proofs.Columns.{inner_few, inner_typed}
use Rattle.json_laws.proofs.ReadLists.{list_column_read}
use Rattle.json_laws.proofs.ReadNumbers.{count_read, flag_read, number_read}
use Rattle.json_laws.proofs.ReadSlots.{IsSpelled, length-each, plain_read, slots_spelled}

-- ---- what slots spell

number_spelled : (t : IntType) (x : Item) → IsItemOf (kind.int t) x → IsSpelled (numbers t) (number_data t) x
number_spelled t column.null h = λ some. absurd cc
number_spelled t (column.int z) h = λ some. ap (option_map column.int) (number_read t z h)
number_spelled t (column.boolean b) h = absurd h
number_spelled t (column.text bytes) h = absurd h
number_spelled t (column.list l) h = absurd h

truth_spelled : (x : Item) → IsItemOf kind.boolean x → IsSpelled truths truth_data x
truth_spelled column.null h = λ some. absurd cc
truth_spelled (column.int z) h = absurd h
truth_spelled (column.boolean b) h = λ some. ap (option_map column.boolean) (flag_read b)
truth_spelled (column.text bytes) h = absurd h
truth_spelled (column.list l) h = absurd h

text_spelled : (w : OffsetWidth) (x : Item) → IsItemOf (kind.texts w) x → IsSpelled (texts_spelled w) text_data x
text_spelled w column.null h = λ some. absurd cc
text_spelled w (column.int z) h = absurd h
text_spelled w (column.boolean b) h = absurd h
text_spelled w (column.text bytes) h = λ some. refl
text_spelled w (column.list l) h = absurd h

pub all_spelled : (k : Kind) (s : Spelling) (value : Item → Data) → ((x : Item) → IsItemOf k x → IsSpelled s value x) → (items : List Item) → AllByRecursion (IsItemOf k) items
    → AllByRecursion (IsSpelled s value) items
all_spelled k s value one [] h = tt
all_spelled k s value one (x ∷ xs) h = (one x h.0, all_spelled k s value one xs h.1)

-- ---- columns

-- Texts: the offsets say no more than the texts.
pub text_column_read : (w : OffsetWidth) (name : List ℕ) (items : List Item) → length items < 2 ^ 31 → AllByRecursion (IsItemOf (kind.texts w)) items → is_too_big (kind.texts w) items ≡ false
    → ReadsPlain (texts_spelled w) (length items) (text_column w name items) items
text_column_read w name items few typed short = record {
  flags = Some (each valid_data items);
  values = each text_data items;
  given = record {
    count = count_read (length items) few;
    validity = refl;
    flagged = length-each valid_data items;
    listed = refl;
    whole = length-each text_data items;
  };
  slots = slots_spelled (texts_spelled w) text_data items (all_spelled (kind.texts w) (texts_spelled w) text_data (text_spelled w) items typed);
  fits = short;
}

mutual
  pub column_read : (code : List ℕ → ℕ) (f : FieldShape) (items : List Item) → length items < 2 ^ 31 → depth (kind_of_field f) ≤ 8 → ends_in_dict (kind_of_field f) ≡ false
      → AllByRecursion (IsItemOf (kind_of_field f)) items → is_too_big (kind_of_field f) items ≡ false → ReadsColumn (kind_of_field f) (length items) (column_data code f items) items
  column_read code (field name nullable ty) items few shallow plain typed counted = shape_read code ty name items few shallow plain typed counted

  shape_read : (code : List ℕ → ℕ) (ty : Shape) (name : List ℕ) (items : List Item) → length items < 2 ^ 31 → depth (kind_of_shape ty) ≤ 8 → ends_in_dict (kind_of_shape ty) ≡ false
      → AllByRecursion (IsItemOf (kind_of_shape ty)) items → is_too_big (kind_of_shape ty) items ≡ false → ReadsColumn (kind_of_shape ty) (length items) (shaped_column code ty name items) items
  shape_read code (int t) name items few shallow plain typed counted =
      plain_read (numbers t) (number_data t) name items few (all_spelled (kind.int t) (numbers t) (number_data t) (number_spelled t) items typed) refl
  shape_read code boolean name items few shallow plain typed counted =
      plain_read truths truth_data name items few (all_spelled kind.boolean truths truth_data truth_spelled items typed) refl
  shape_read code (texts w) name items few shallow plain typed counted = text_column_read w name items few typed counted
  shape_read code (lists w f) name items few shallow plain typed counted =
      let k = kind_of_field f in
      let inside = inner_few w k items counted in
      let inner = column_read code f (inner_items items) inside.0 (omega (arith, shallow)) plain (inner_typed w k items typed) inside.1 in
      list_column_read (ReadsColumn k) w k (column_data code f (inner_items items)) name items few inside.0 typed (column_plain k _ _ _ inner) (omega (arith, shallow)) inner
  shape_read code dict name items few shallow plain typed counted = absurd cc

-- ---- a column of a field

no_dictionary : (k : Kind) → has_dict_in_list k ≡ false → is_encoded k ≡ false → ends_in_dict k ≡ false
no_dictionary (kind.int t) h other = refl
no_dictionary kind.boolean h other = refl
no_dictionary (kind.texts w) h other = refl
no_dictionary (kind.lists w k) h other = h
no_dictionary kind.dict h other = other

pub plain_column_read : (code : List ℕ → ℕ) (f : FieldShape) (rows : ℕ) (items : List Item) → IsField f → is_encoded (kind_of_field f) ≡ false → rows < 2 ^ 31
    → IsColumn (kind_of_field f) rows items → ReadsColumn (kind_of_field f) rows (column_data code f items) items
plain_column_read code f rows items lawful other few h =
    let k = kind_of_field f in
    subst (λ n. ReadsColumn k n (column_data code f items) items) h.len
    (column_read code f items (omega (arith, few, h.len)) (ltb-false 8 (depth k) lawful.shallow) (no_dictionary k lawful.plain other) h.typed h.counted)
