-- The slots of a column read back as they are printed.
use Rattle.std.proofs.Common.{◌≡◌, ◌∙◌, ℕ, zero, suc, ◌<◌, ◌^◌, List, [], ◌∷◌, length, false, not, Some, option_map, refl, sym, ap, arith}
use Rattle.std.specs.Prelude.{slice_get}
use Rattle.std.specs.List.{AllByRecursion}
use Rattle.arrays.specs.Item as column
use Rattle.arrays.specs.Prelude.{Item, is_null}
use Rattle.json_base.specs.Prelude.{Data, get_item, items_len}
use Rattle.json_read.specs.JsonColumn.{ReadsPlain, ReadsSlots, Spelling, overflows, slot_of, flagged_at}
use Rattle.json_print.specs.ColumnData.{each, plain_column, valid_data}
use Rattle.json_laws.proofs.ReadNumbers.{count_read, flag_read}

-- ---- values and flags

pub length-each : (value : Item → Data) (items : List Item) → items_len (each value items) ≡ length items
length-each value [] = refl
length-each value (x ∷ xs) = ap suc (length-each value xs)

pub each_at : (value : Item → Data) (items : List Item) (i : ℕ) → get_item i (each value items) ≡ option_map value (slice_get items i)
each_at value [] i = refl
each_at value (x ∷ xs) zero = refl
each_at value (x ∷ xs) (suc i) = each_at value xs i

-- The flags say which slots hold an item.
pub valid_read : (items : List Item) (i : ℕ) → flagged_at (Some (each valid_data items)) i ≡ option_map (λ x. not (is_null x)) (slice_get items i)
valid_read [] i = refl
valid_read (x ∷ xs) zero = flag_read (not (is_null x))
valid_read (x ∷ xs) (suc i) = valid_read xs i

-- ---- slots

-- The value spells the item, unless it is null.
abbrev pub IsSpelled : Spelling → (Item → Data) → Item → Type 0
IsSpelled s value x = is_null x ≡ false → s.spelled (value x) ≡ Some x

slot_read : (s : Spelling) (value : Item → Data) (x : Item) → IsSpelled s value x → Some x ≡ slot_of s (Some (not (is_null x))) (Some (value x))
slot_read s value column.null h = refl
slot_read s value (column.int z) h = sym (h refl)
slot_read s value (column.boolean b) h = sym (h refl)
slot_read s value (column.text t) h = sym (h refl)
slot_read s value (column.list l) h = sym (h refl)

slots_read : (s : Spelling) (value : Item → Data) (items : List Item) (i : ℕ) → i < length items → AllByRecursion (IsSpelled s value) items
    → slice_get items i ≡ slot_of s (option_map (λ x. not (is_null x)) (slice_get items i)) (option_map value (slice_get items i))
slots_read s value [] i within h = absurd (omega arith)
slots_read s value (x ∷ xs) zero within h = slot_read s value x h.0
slots_read s value (x ∷ xs) (suc i) within h = slots_read s value xs i (omega arith) h.1

pub slots_spelled : (s : Spelling) (value : Item → Data) (items : List Item) → AllByRecursion (IsSpelled s value) items
    → ReadsSlots s (Some (each valid_data items)) (each value items) (length items) items
slots_spelled s value items h = record {
  len = refl;
  each = λ i within.
      slots_read s value items i within h
      ∙ ap (λ o. slot_of s o (option_map value (slice_get items i))) (sym (valid_read items i))
      ∙ ap (slot_of s (flagged_at (Some (each valid_data items)) i)) (sym (each_at value items i));
}

-- A column with a value for each slot.
pub plain_read : (s : Spelling) (value : Item → Data) (name : List ℕ) (items : List Item) → length items < 2 ^ 31 → AllByRecursion (IsSpelled s value) items → overflows s items ≡ false
    → ReadsPlain s (length items) (plain_column value name items) items
plain_read s value name items few h fits = record {
  flags = Some (each valid_data items);
  values = each value items;
  given = record {
    count = count_read (length items) few;
    validity = refl;
    flagged = length-each valid_data items;
    listed = refl;
    whole = length-each value items;
  };
  slots = slots_spelled s value items h;
  fits = fits;
}
