-- Parts that are known to be lawful have no fault, and what they show.
use Rattle.std.proofs.Common.{◌≡◌, ◌∙◌, ℕ, ◌+◌, ◌*◌, ◌≤◌, ℤ, pos, negsuc, int_lt, List, [], ◌∷◌, map, Bool, true, false, not, ◌&&◌, length, Option, Some, None, ap, refl, arith, le-ltb, IsUtf8}
use Rattle.std.specs.List.{list_any, range_with_len}
use Rattle.std.specs.Str.{is_utf8}
use Rattle.std.proofs.lemmas.Str.{is_utf8-from_IsUtf8}
use Rattle.types.specs.declared.int_type.IntType.{IntType}
use Rattle.types.specs.declared.offset_width.OffsetWidth.{OffsetWidth}
use Rattle.types.specs.Kind as kind
use Rattle.layout.specs.declared.raw.RawArray.{RawArray}
use Rattle.types.specs.Prelude.{Kind, bytes_of, first, is_negative, most_slots, natural, number_at, offset_type, size_of}
use Rattle.layout.specs.Prelude.{AreOffsetBytes, Buffers, are_offsets_short, column, is_valid_in, is_validity_short, least_row, own_fault, read_parts, reading, slot_at, start_at}
use Rattle.arrays.specs.FromParts.{AreTexts, show_bits, show_numbers, show_texts}
use Rattle.layout.proofs.FirstFaultLemmas.{own_fault-whole}
use Rattle.layout.proofs.RowLemmas.{any_none, least_none}

-- parts without a child, as they were handed in
pub read_same : (k l : Kind) (m n : ℕ) (buffers parts : Buffers) (children : List RawArray) → k ≡ l → m ≡ n → buffers ≡ parts → children ≡ []
    → read_parts k m None buffers (map reading children) None ≡ read_parts l n None parts [] None
read_same k l m n buffers parts children kind_is len_is buffers_are none =
    ap (λ k. read_parts k m None buffers (map reading children) None) kind_is
    ∙ ap (λ m. read_parts l m None buffers (map reading children) None) len_is
    ∙ ap (λ b. read_parts l n None b (map reading children) None) buffers_are
    ∙ ap (λ rs. read_parts l n None parts (map reading rs) None) none

-- ---- numbers

own_fault-int : (t : IntType) (n : ℕ) (validity : Option (List ℕ)) (values : List ℕ) → n ≤ most_slots → n * bytes_of t.bits ≤ length values → is_validity_short n validity ≡ false
    → own_fault (kind.int t) n None (validity ∷ Some values ∷ []) [] None ≡ None
unfolding own_fault
own_fault-int t n validity values short long valid =
    rw (le-ltb most_slots n short) (rw valid (rw (le-ltb (length values) (n * bytes_of t.bits) long) refl))

pub read_numbers : (t : IntType) (n : ℕ) (validity : Option (List ℕ)) (values : List ℕ) → n ≤ most_slots → n * bytes_of t.bits ≤ length values → is_validity_short n validity ≡ false
    → (read_parts (kind.int t) n None (validity ∷ Some values ∷ []) [] None).fault ≡ None
unfolding read_parts
read_numbers t n validity values short long valid =
    ap (λ f. first (f ∷ None ∷ None ∷ [])) (own_fault-int t n validity values short long valid)

pub show_read_numbers : (t : IntType) (n : ℕ) (validity : Option (List ℕ)) (values : List ℕ)
    → (read_parts (kind.int t) n None (validity ∷ Some values ∷ []) [] None).seen ≡ show_numbers t n validity values
unfolding read_parts column
show_read_numbers t n validity values = refl

-- ---- truth values

own_fault-boolean : (n : ℕ) (validity : Option (List ℕ)) (packed : List ℕ) → n ≤ most_slots → is_validity_short n (Some packed) ≡ false → is_validity_short n validity ≡ false
    → own_fault kind.boolean n None (validity ∷ Some packed ∷ []) [] None ≡ None
unfolding own_fault
own_fault-boolean n validity packed short long valid = rw (le-ltb most_slots n short) (rw valid (rw long refl))

pub read_bits : (n : ℕ) (validity : Option (List ℕ)) (packed : List ℕ) → n ≤ most_slots → is_validity_short n (Some packed) ≡ false → is_validity_short n validity ≡ false
    → (read_parts kind.boolean n None (validity ∷ Some packed ∷ []) [] None).fault ≡ None
unfolding read_parts
read_bits n validity packed short long valid =
    ap (λ f. first (f ∷ None ∷ None ∷ [])) (own_fault-boolean n validity packed short long valid)

pub show_read_bits : (n : ℕ) (validity : Option (List ℕ)) (packed : List ℕ)
    → (read_parts kind.boolean n None (validity ∷ Some packed ∷ []) [] None).seen ≡ show_bits n validity packed
unfolding read_parts column
show_read_bits n validity packed = refl

-- ---- offsets

not_below : (x y : ℤ) → is_negative x ≡ false → is_negative y ≡ false → natural x ≤ natural y → int_lt y x ≡ false
not_below (pos a) (pos b) hx hy h = le-ltb b a h
not_below (pos a) (negsuc b) hx hy h = cc
not_below (negsuc a) y hx hy h = cc

-- what the tests of offsets tell
pub record OffsetsPass (w : OffsetWidth) (n : ℕ) (offsets : List ℕ) : Type 0 where
  pub enough : are_offsets_short w n offsets ≡ false
  pub none_negative : list_any (λ j. is_negative (number_at (offset_type w) offsets j)) (range_with_len 0 (n + 1)) ≡ false
  pub none_decreases : least_row (λ j. int_lt (number_at (offset_type w) offsets (j + 1)) (number_at (offset_type w) offsets j)) n ≡ None

pub offsets_pass : (w : OffsetWidth) (n : ℕ) (offsets : List ℕ) (most : ℕ) → AreOffsetBytes w n offsets most → OffsetsPass w n offsets
offsets_pass w n offsets most are = record {
  enough = rw (le-ltb (length offsets) ((n + 1) * size_of w) are.size) refl;
  none_negative = any_none (λ j. is_negative (number_at (offset_type w) offsets j)) (n + 1) (λ j below. are.counted j (omega arith));
  none_decreases =
      least_none (λ j. int_lt (number_at (offset_type w) offsets (j + 1)) (number_at (offset_type w) offsets j)) n
      (λ j below. not_below (number_at (offset_type w) offsets j) (number_at (offset_type w) offsets (j + 1)) (are.counted j (omega arith)) (are.counted (j + 1) (omega arith)) (are.rising j below));
}

-- ---- texts

valid_text : (b : Bool) (bytes : List ℕ) → (b ≡ true → IsUtf8 bytes) → (b && not (is_utf8 bytes)) ≡ false
valid_text false bytes h = refl
valid_text true bytes h = ap not (is_utf8-from_IsUtf8 bytes (h refl))

own_fault-texts : (w : OffsetWidth) (n : ℕ) (validity : Option (List ℕ)) (offsets bytes : List ℕ) → n ≤ most_slots → is_validity_short n validity ≡ false
    → AreOffsetBytes w n offsets (length bytes) → AreTexts w n validity offsets bytes
    → own_fault (kind.texts w) n None (validity ∷ Some offsets ∷ Some bytes ∷ []) [] None ≡ None
own_fault-texts w n validity offsets bytes short valid are texts =
    let pass = offsets_pass w n offsets (length bytes) are in
    own_fault-whole (kind.texts w) n None (validity ∷ Some offsets ∷ Some bytes ∷ []) [] None record {
      short = le-ltb most_slots n short;
      shallow = refl;
      none_missing = refl;
      none_extra = refl;
      parts_agree = refl;
      validity_enough = valid;
      data_enough = pass.enough;
      none_negative = pass.none_negative;
      none_decreases = pass.none_decreases;
      within_end = le-ltb (length bytes) (start_at w offsets n) are.last;
      count_agrees = refl;
      all_texts =
          least_none (λ j. is_valid_in validity j && not (is_utf8 (slot_at w offsets bytes j))) n
          (λ j below. valid_text (is_valid_in validity j) (slot_at w offsets bytes j) (texts.each j below));
      all_codes = refl;
    }

pub read_texts : (w : OffsetWidth) (n : ℕ) (validity : Option (List ℕ)) (offsets bytes : List ℕ) → n ≤ most_slots → is_validity_short n validity ≡ false
    → AreOffsetBytes w n offsets (length bytes) → AreTexts w n validity offsets bytes
    → (read_parts (kind.texts w) n None (validity ∷ Some offsets ∷ Some bytes ∷ []) [] None).fault ≡ None
unfolding read_parts
read_texts w n validity offsets bytes short valid are texts =
    ap (λ f. first (f ∷ None ∷ None ∷ [])) (own_fault-texts w n validity offsets bytes short valid are texts)

pub show_read_texts : (w : OffsetWidth) (n : ℕ) (validity : Option (List ℕ)) (offsets bytes : List ℕ)
    → (read_parts (kind.texts w) n None (validity ∷ Some offsets ∷ Some bytes ∷ []) [] None).seen ≡ show_texts w n validity offsets bytes
unfolding read_parts column
show_read_texts w n validity offsets bytes = refl
