-- The first fault, test by test, and of a raw array by its parts.
use Rattle.std.proofs.Common.{◌≡◌, ℕ, ◌∙◌, List, [], ◌∷◌, ◌++◌, Bool, true, false, ◌||◌, Option, Some, None, option_map, length, map, nat_lt, ap, sym, refl}
use Rattle.std.specs.declared.boxed.Box.{Box}
use Rattle.std.specs.declared.alloc.Global.{Global}
use Rattle.types.specs.Prelude.{Kind, depth, first, kind_of, most_slots}
use Rattle.layout.specs.Prelude.{Buffers, Inner, Reading, bad_code_row, bad_text_row, buffer_at, child_fault, content_faults, content_faults_of, decreasing_row, dictionary_fault, do_parts_differ, does_count_differ, fault, has_negative_offset, inner_children, inner_dictionary, inner_of, inner_raw, is_data_short, is_missing, is_past_end, is_validity_short, own_fault, own_fault_of, positions, read_parts, reading, reading_step, shape_faults, shape_faults_of}
use Rattle.std.specs.Bool.{then_some}
use Rattle.layout.specs.declared.fault.LayoutFault.{LayoutFault}
use Rattle.layout.specs.declared.fault.LayoutFault.TheVariants.{MissingBuffer, ExtraBuffer, BufferTooShort, OffsetNegative, OffsetDecreases, OffsetPastEnd, NullCountDiffers, NotUtf8, IndexPastDictionary, ChildDiffers, TooLong, TooDeep}
use Rattle.layout.specs.declared.raw.RawArray.{RawArray, out-RawArray, fold_out-RawArray}
use Rattle.layout.specs.declared.raw.RawArray.TheShapes.{former-RawArray-dictionary}

-- ---- no fault at all

-- Every test of an array itself has passed.
pub record IsWhole (k : Kind) (n : ℕ) (stated : Option ℕ) (buffers : Buffers) (children : List Inner) (dictionary : Option Inner) : Type 0 where
  pub short : nat_lt most_slots n ≡ false
  pub shallow : nat_lt 8 (depth k) ≡ false
  pub none_missing : is_missing k buffers ≡ false
  pub none_extra : nat_lt (positions k) (length buffers) ≡ false
  pub parts_agree : do_parts_differ k children dictionary ≡ false
  pub validity_enough : is_validity_short n (buffer_at buffers 0) ≡ false
  pub data_enough : is_data_short k n buffers ≡ false
  pub none_negative : has_negative_offset k n buffers ≡ false
  pub none_decreases : decreasing_row k n buffers ≡ None
  pub within_end : is_past_end k n buffers children ≡ false
  pub count_agrees : does_count_differ stated n buffers ≡ false
  pub all_texts : bad_text_row k n buffers ≡ None
  pub all_codes : bad_code_row k n buffers dictionary ≡ None

-- The first six tests, passed.
record Shaped (a b c d e f g : Bool) : Type 0 where
  short : a ≡ false
  shallow : b ≡ false
  none_missing : c ≡ false
  none_extra : d ≡ false
  parts_agree : e ≡ false
  validity_enough : f ≡ false
  data_enough : g ≡ false

shaped : (a b c d e f g : Bool)
    → first (then_some a TooLong ∷ then_some b TooDeep ∷ then_some c MissingBuffer ∷ then_some d ExtraBuffer ∷ then_some e ChildDiffers ∷ then_some (f || g) BufferTooShort ∷ []) ≡ None
    → Shaped a b c d e f g
shaped true b c d e f g h = cc
shaped false true c d e f g h = cc
shaped false false true d e f g h = cc
shaped false false false true e f g h = cc
shaped false false false false true f g h = cc
shaped false false false false false true g h = cc
shaped false false false false false false true h = cc
shaped false false false false false false false h = record {
  short = refl;
  shallow = refl;
  none_missing = refl;
  none_extra = refl;
  parts_agree = refl;
  validity_enough = refl;
  data_enough = refl;
}

-- The last six tests, passed.
record Filled (a : Bool) (b : Option ℕ) (c d : Bool) (e f : Option ℕ) : Type 0 where
  none_negative : a ≡ false
  none_decreases : b ≡ None
  within_end : c ≡ false
  count_agrees : d ≡ false
  all_texts : e ≡ None
  all_codes : f ≡ None

filled : (a : Bool) (b : Option ℕ) (c d : Bool) (e f : Option ℕ)
    → first (then_some a OffsetNegative ∷ option_map (λ row. OffsetDecreases row) b ∷ then_some c OffsetPastEnd ∷ then_some d NullCountDiffers ∷ option_map (λ row. NotUtf8 row) e ∷ option_map (λ row. IndexPastDictionary row) f ∷ []) ≡ None
    → Filled a b c d e f
filled true b c d e f h = cc
filled false (Some row) c d e f h = cc
filled false None true d e f h = cc
filled false None false true e f h = cc
filled false None false false (Some row) f h = cc
filled false None false false None (Some row) h = cc
filled false None false false None None h = record {
  none_negative = refl;
  none_decreases = refl;
  within_end = refl;
  count_agrees = refl;
  all_texts = refl;
  all_codes = refl;
}

first-alone : (o : Option LayoutFault) → first (o ∷ []) ≡ o
first-alone None = refl
first-alone (Some fault) = refl

first-append : (xs ys : List (Option LayoutFault)) → first (xs ++ ys) ≡ first (first xs ∷ first ys ∷ [])
first-append [] ys = sym (first-alone (first ys))
first-append (None ∷ xs) ys = first-append xs ys
first-append (Some fault ∷ xs) ys = refl

-- Lengths and shapes come before the content.
pub own_fault-apart : (k : Kind) (n : ℕ) (stated : Option ℕ) (buffers : Buffers) (children : List Inner) (dictionary : Option Inner)
    → own_fault k n stated buffers children dictionary
    ≡ first (first (shape_faults k n buffers children dictionary) ∷ first (content_faults k n stated buffers children dictionary) ∷ [])
unfolding own_fault
own_fault-apart k n stated buffers children dictionary =
    first-append (shape_faults k n buffers children dictionary) (content_faults k n stated buffers children dictionary)

both_none : (a b : Option LayoutFault) → first (a ∷ b ∷ []) ≡ None → (a ≡ None) × (b ≡ None)
both_none None None h = (refl, refl)
both_none None (Some fault) h = cc
both_none (Some fault) b h = cc

pub shape_faults-none : (k : Kind) (n : ℕ) (buffers : Buffers) (children : List Inner) (dictionary : Option Inner)
    → first (shape_faults k n buffers children dictionary) ≡ None → (nat_lt most_slots n ≡ false) × (is_data_short k n buffers ≡ false)
shape_faults-none k n buffers children dictionary h =
    let s = shaped (nat_lt most_slots n) (nat_lt 8 (depth k)) (is_missing k buffers) (nat_lt (positions k) (length buffers)) (do_parts_differ k children dictionary) (is_validity_short n (buffer_at buffers 0)) (is_data_short k n buffers) h in
    (s.short, s.data_enough)

-- What the two halves make of the whole.
first_of_both : (a b : Option LayoutFault) (fault : LayoutFault) → Some fault ≡ a → Some fault ≡ first (a ∷ b ∷ [])
first_of_both None b fault h = cc
first_of_both (Some other) b fault h = h

second_of_both : (a b : Option LayoutFault) → None ≡ a → b ≡ first (a ∷ b ∷ [])
second_of_both None b h = sym (first-alone b)
second_of_both (Some other) b h = cc

pub own_fault-of_shape : (raw : RawArray) (fault : LayoutFault) → Some fault ≡ first (shape_faults_of raw) → Some fault ≡ own_fault_of raw
own_fault-of_shape raw fault h =
    let r = out-RawArray raw in
    first_of_both (first (shape_faults_of raw)) (first (content_faults_of raw)) fault h
    ∙ sym (own_fault-apart (kind_of r.ty) r.length r.null_count r.buffers.items (inner_children r.children.items) (inner_dictionary r.dictionary))

pub own_fault-of_content : (raw : RawArray) → None ≡ first (shape_faults_of raw) → first (content_faults_of raw) ≡ own_fault_of raw
own_fault-of_content raw h =
    let r = out-RawArray raw in
    second_of_both (first (shape_faults_of raw)) (first (content_faults_of raw)) h
    ∙ sym (own_fault-apart (kind_of r.ty) r.length r.null_count r.buffers.items (inner_children r.children.items) (inner_dictionary r.dictionary))

-- Where lengths and shapes have no fault, the buffers of a raw array are long enough.
pub data-enough : (raw : RawArray) (buffers : Buffers) → first (shape_faults_of raw) ≡ None → buffers ≡ (out-RawArray raw).buffers.items
    → is_data_short (kind_of (out-RawArray raw).ty) (out-RawArray raw).length buffers ≡ false
data-enough raw buffers h same =
    let r = out-RawArray raw in
    ap (is_data_short (kind_of r.ty) r.length) same
    ∙ (shape_faults-none (kind_of r.ty) r.length r.buffers.items (inner_children r.children.items) (inner_dictionary r.dictionary) h).1

-- .. and so is its bitmap.
pub validity-enough : (raw : RawArray) (buffers : Buffers) → first (shape_faults_of raw) ≡ None → buffers ≡ (out-RawArray raw).buffers.items
    → is_validity_short (out-RawArray raw).length (buffer_at buffers 0) ≡ false
validity-enough raw buffers h same =
    let r = out-RawArray raw in
    let k = kind_of r.ty in
    let children = inner_children r.children.items in
    let dictionary = inner_dictionary r.dictionary in
    let bitmap = buffer_at r.buffers.items 0 in
    let s = shaped (nat_lt most_slots r.length) (nat_lt 8 (depth k)) (is_missing k r.buffers.items) (nat_lt (positions k) (length r.buffers.items)) (do_parts_differ k children dictionary) (is_validity_short r.length bitmap) (is_data_short k r.length r.buffers.items) h in
    ap (λ b. is_validity_short r.length (buffer_at b 0)) same ∙ s.validity_enough

-- Where an array has no fault of its own, each test has passed.
pub own_fault-none : (k : Kind) (n : ℕ) (stated : Option ℕ) (buffers : Buffers) (children : List Inner) (dictionary : Option Inner)
    → own_fault k n stated buffers children dictionary ≡ None → IsWhole k n stated buffers children dictionary
own_fault-none k n stated buffers children dictionary h =
    let parts = both_none _ _ (sym (own_fault-apart k n stated buffers children dictionary) ∙ h) in
    let s = shaped (nat_lt most_slots n) (nat_lt 8 (depth k)) (is_missing k buffers) (nat_lt (positions k) (length buffers)) (do_parts_differ k children dictionary) (is_validity_short n (buffer_at buffers 0)) (is_data_short k n buffers) parts.0 in
    let f = filled (has_negative_offset k n buffers) (decreasing_row k n buffers) (is_past_end k n buffers children) (does_count_differ stated n buffers) (bad_text_row k n buffers) (bad_code_row k n buffers dictionary) parts.1 in
    record {
      short = s.short;
      shallow = s.shallow;
      none_missing = s.none_missing;
      none_extra = s.none_extra;
      parts_agree = s.parts_agree;
      validity_enough = s.validity_enough;
      data_enough = s.data_enough;
      none_negative = f.none_negative;
      none_decreases = f.none_decreases;
      within_end = f.within_end;
      count_agrees = f.count_agrees;
      all_texts = f.all_texts;
      all_codes = f.all_codes;
    }

-- ---- raw arrays

pub entries-map : (h : RawArray → Reading) (d : Option (Box RawArray Global))
    → option_map (λ b. b.value) (former-RawArray-dictionary.map RawArray Reading h d) ≡ option_map (λ b. h b.value) d
entries-map h None = refl
entries-map h (Some b) = refl

-- The reading of a raw array by its parts.
pub reading-raw : (raw : RawArray) → let r = out-RawArray raw in
    reading raw ≡ read_parts (kind_of r.ty) r.length r.null_count r.buffers.items (map reading r.children.items) (option_map (λ b. reading b.value) r.dictionary)
reading-raw raw =
    let r = out-RawArray raw in
    fold_out-RawArray Reading reading_step raw
    ∙ ap (read_parts (kind_of r.ty) r.length r.null_count r.buffers.items (map reading r.children.items)) (entries-map reading r.dictionary)

-- What an array knows of its child is what the child's reading holds.
pub present-reading : (raw : RawArray) → inner_of (reading raw) ≡ inner_raw raw
unfolding read_parts
present-reading raw = ap inner_of (reading-raw raw)

present-children : (xs : List RawArray) → map inner_of (map reading xs) ≡ inner_children xs
present-children [] = refl
present-children (x ∷ xs) = ap (λ h. h ∷ map inner_of (map reading xs)) (present-reading x) ∙ ap (λ hs. inner_raw x ∷ hs) (present-children xs)

present-dictionary : (d : Option (Box RawArray Global)) → option_map inner_of (option_map (λ b. reading b.value) d) ≡ inner_dictionary d
present-dictionary None = refl
present-dictionary (Some b) = ap Some (present-reading b.value)

-- The first fault of a raw array by its parts.
pub fault-raw : (raw : RawArray) → let r = out-RawArray raw in
    fault raw ≡ first (own_fault_of raw ∷ child_fault (map reading r.children.items) ∷ dictionary_fault (option_map (λ b. reading b.value) r.dictionary) ∷ [])
unfolding read_parts
fault-raw raw =
    let r = out-RawArray raw in
    let below = child_fault (map reading r.children.items) ∷ dictionary_fault (option_map (λ b. reading b.value) r.dictionary) ∷ [] in
    ap (λ (q : Reading). q.fault) (reading-raw raw)
    ∙ ap (λ children. first (own_fault (kind_of r.ty) r.length r.null_count r.buffers.items children (option_map inner_of (option_map (λ b. reading b.value) r.dictionary)) ∷ below)) (present-children r.children.items)
    ∙ ap (λ dictionary. first (own_fault (kind_of r.ty) r.length r.null_count r.buffers.items (inner_children r.children.items) dictionary ∷ below)) (present-dictionary r.dictionary)

first_of_three : (a b c : Option LayoutFault) (fault : LayoutFault) → Some fault ≡ a → Some fault ≡ first (a ∷ b ∷ c ∷ [])
first_of_three None b c fault h = cc
first_of_three (Some other) b c fault h = h

second_of_three : (a b c : Option LayoutFault) (fault : LayoutFault) → None ≡ a → Some fault ≡ b → Some fault ≡ first (a ∷ b ∷ c ∷ [])
second_of_three None b c fault none h = first_of_both b c fault h
second_of_three (Some other) b c fault none h = cc

third_of_three : (a b c : Option LayoutFault) → None ≡ a → None ≡ b → c ≡ first (a ∷ b ∷ c ∷ [])
third_of_three None b c none h = second_of_both b c h
third_of_three (Some other) b c none h = cc

abbrev child_fault_in : RawArray → Option LayoutFault
child_fault_in raw = child_fault (map reading (out-RawArray raw).children.items)

abbrev dictionary_fault_in : RawArray → Option LayoutFault
dictionary_fault_in raw = dictionary_fault (option_map (λ b. reading b.value) (out-RawArray raw).dictionary)

pub fault-of_own : (raw : RawArray) (first : LayoutFault) → Some first ≡ own_fault_of raw → Some first ≡ fault raw
fault-of_own raw first h =
    first_of_three (own_fault_of raw) (child_fault_in raw) (dictionary_fault_in raw) first h ∙ sym (fault-raw raw)

pub fault-of_child : (raw : RawArray) (first : LayoutFault) → None ≡ own_fault_of raw
    → Some first ≡ child_fault (map reading (out-RawArray raw).children.items) → Some first ≡ fault raw
fault-of_child raw first none h =
    second_of_three (own_fault_of raw) (child_fault_in raw) (dictionary_fault_in raw) first none h ∙ sym (fault-raw raw)

pub fault-of_dictionary : (raw : RawArray) → None ≡ own_fault_of raw → None ≡ child_fault (map reading (out-RawArray raw).children.items)
    → dictionary_fault (option_map (λ b. reading b.value) (out-RawArray raw).dictionary) ≡ fault raw
fault-of_dictionary raw none none_below =
    third_of_three (own_fault_of raw) (child_fault_in raw) (dictionary_fault_in raw) none none_below ∙ sym (fault-raw raw)

-- ---- no fault in a raw array

-- Every test of the array has passed, and nothing below it has a fault.
pub record IsLawful (raw : RawArray) : Type 0 where
  pub whole : IsWhole (kind_of (out-RawArray raw).ty) (out-RawArray raw).length (out-RawArray raw).null_count (out-RawArray raw).buffers.items (inner_children (out-RawArray raw).children.items) (inner_dictionary (out-RawArray raw).dictionary)
  pub child : child_fault (map reading (out-RawArray raw).children.items) ≡ None
  pub dictionary : dictionary_fault (option_map (λ b. reading b.value) (out-RawArray raw).dictionary) ≡ None

three_none : (a b c : Option LayoutFault) → first (a ∷ b ∷ c ∷ []) ≡ None → (a ≡ None) × ((b ≡ None) × (c ≡ None))
three_none None None None h = (refl, (refl, refl))
three_none None None (Some fault) h = cc
three_none None (Some fault) c h = cc
three_none (Some fault) b c h = cc

pub fault-none : (raw : RawArray) → fault raw ≡ None → IsLawful raw
fault-none raw h =
    let r = out-RawArray raw in
    let all = three_none (own_fault_of raw) (child_fault_in raw) (dictionary_fault_in raw) (sym (fault-raw raw) ∙ h) in
    record {
      whole = own_fault-none (kind_of r.ty) r.length r.null_count r.buffers.items (inner_children r.children.items) (inner_dictionary r.dictionary) all.0;
      child = all.1.0;
      dictionary = all.1.1;
    }

-- Where each test has passed, the array has no fault of its own.
pub own_fault-whole : (k : Kind) (n : ℕ) (stated : Option ℕ) (buffers : Buffers) (children : List Inner) (dictionary : Option Inner)
    → IsWhole k n stated buffers children dictionary → own_fault k n stated buffers children dictionary ≡ None
unfolding own_fault
own_fault-whole k n stated buffers children dictionary w =
    rw w.short (rw w.shallow (rw w.none_missing (rw w.none_extra (rw w.parts_agree (rw w.validity_enough (rw w.data_enough (rw w.none_negative (rw w.none_decreases (rw w.within_end (rw w.count_agrees (rw w.all_texts (rw w.all_codes refl))))))))))))
