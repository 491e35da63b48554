-- The values of a view, as they lie in its buffers.
use Rattle.std.proofs.Common.{◌≡◌, ◌∙◌, ℕ, ◌+◌, ◌*◌, ◌<◌, ◌≤◌, ◌&&◌, List, [], ◌∷◌, map, slice_index_or, slice_get, get_or, true, false, not, length, cond, Some, None, Option, option_map, IsUtf8, Bor, ap, sym, refl, subst, arith, zero-add, ltb-false}
use Rattle.std.specs.List.{range_with_len}
use Rattle.std.specs.Arc.{arc_value}
use Rattle.std.specs.Str.{is_utf8}
use Rattle.std.proofs.lemmas.Str.{IsUtf8-from_is_utf8}
use Rattle.std.proofs.lemmas.List.FromFn.{get_or-map-range_with_len}
use Rattle.std.proofs.lemmas.Option.{slice_get-get_or, get_or_from_slice_get}
use Rattle.colbits.specs.Prelude.{bits, slice}
use Rattle.colbits.proofs.BitLemmas.{get_or-bits, length-bits}
use Rattle.layout.specs.declared.raw.RawArray.{RawArray, out-RawArray}
use Rattle.layout.specs.Prelude.{AreOffsets, Buffers, Item, Reading, Seen, are_offsets_short, bad_text_row, boolean, buffer_at, bytes_at, bytes_for, checked_texts, child_fault, child_items, child_length, column, dictionary_fault, entries_of, fault, inner_of, is_no_child, is_no_text, is_null, is_valid, list, list_of, null, of_slot, offsets_in, own_fault, part, read_parts, reading, slot_at, text, valid_at, valid_in, value_at}
use Rattle.types.specs.declared.offset_width.OffsetWidth.{OffsetWidth}
use Rattle.types.specs.Kind as kind
use Rattle.types.specs.Prelude.{Kind, first, is_negative, item_kind, kind_of, most_slots, number_at, offset_type, same_kind}
use Rattle.layout.specs.declared.fault.LayoutFault.{LayoutFault}
use Rattle.arrays.specs.Prelude.{HasBits, HasLists, HasTexts, holds_at, is_list, read_view, show_view, valid_values, view_kind}
use Rattle.arrays.specs.declared.view.View.TheInside.{Inside}
use Rattle.arrays.specs.declared.view.ViewType.{ViewType}
use Rattle.arrays.specs.declared.view.ViewType.TheVariants as type
use Rattle.types.specs.declared.data_type.Field.{Field, out-Field}
use Rattle.std.proofs.lemmas.Bool.{false≢true, not-false}
use Rattle.layout.proofs.FirstFaultLemmas.{IsWhole, reading-raw}
use Rattle.layout.proofs.ChildLemmas.{OneChild, only_child}
use Rattle.layout.proofs.RangeLists.{map-range-below}
use Rattle.layout.proofs.OffsetLemmas.{fails-least_none}
use Rattle.layout.proofs.OffsetParts.{AreOffsets-part, Rising, enough-part, of_slot-in, rising-lists, rising-texts}
use Rattle.arrays.proofs.SlotLemmas.{seen-validity, slice-column, validity-part, valid-part, valid-view, whole}
use Rattle.layout.proofs.SeenLemmas.{length-items, length-slice, seen-kind, short-of_lawful}
use Rattle.arrays.proofs.ViewLemmas.{length-show_view, kind-show_view}
use Rattle.arrays.proofs.ValidityLemmas.{is_there}
use Rattle.layout.proofs.LawfulLemmas.{either_false}

-- ---- the items of part of an array, by the value of each slot

pub seen-items : (k : Kind) (n : ℕ) (stated : Option ℕ) (buffers : Buffers) (children : List Reading) (dictionary : Option Reading)
    → (read_parts k n stated buffers children dictionary).seen.items ≡ column k n buffers (child_items children) (entries_of dictionary).items
unfolding read_parts column
seen-items (kind.int t) n stated buffers children dictionary = refl
seen-items kind.boolean n stated buffers children dictionary = refl
seen-items (kind.texts w) n stated buffers children dictionary = refl
seen-items (kind.lists w k) n stated buffers children dictionary = refl
seen-items kind.dict n stated buffers children dictionary = refl

pub items-part : (k : Kind) (n : ℕ) (buffers : Buffers) (children : List Reading) (dictionary : Option Reading) (start len : ℕ) (value : ℕ → Item) → start + len ≤ n
    → ((j : ℕ) → j < len → value_at k buffers (child_items children) (entries_of dictionary).items (start + j) ≡ value j)
    → (part start len (read_parts k n None buffers children dictionary).seen).items ≡ valid_values value (part start len (read_parts k n None buffers children dictionary).seen)
items-part k n buffers children dictionary start len value within is =
    let s = part start len (read_parts k n None buffers children dictionary).seen in
    let child = child_items children in
    let entries = (entries_of dictionary).items in
    let slots : length s.items ≡ len = length-slice _ start len (omega (arith, within, length-items k n None buffers children dictionary)) in
    let valid : (j : ℕ) → j < len → valid_at s j ≡ is_valid buffers (start + j) =
    λ j h.
    ap (λ v. valid_in (option_map (λ b. slice b start len) v) j) (seen-validity k n None buffers children dictionary)
    ∙ ap (λ v. valid_in v j) (validity-part start len n (buffer_at buffers 0) within)
    ∙ valid-part start len j (buffer_at buffers 0) h in
    let slot : ℕ → Item = λ j. cond (is_valid buffers (start + j)) (value_at k buffers child entries (start + j)) null in
    let shown : ℕ → Item = λ j. cond (valid_at s j) (value j) null in
    let same : (j : ℕ) → j < len → slot (0 + j) ≡ shown (0 + j) =
    λ j h.
    ap slot (zero-add j)
    ∙ ap (λ v. cond v (value_at k buffers child entries (start + j)) null) (sym (valid j h))
    ∙ ap (λ x. cond (valid_at s j) x null) (is j h)
    ∙ ap shown (sym (zero-add j)) in
    ap (λ xs. slice xs start len) (seen-items k n None buffers children dictionary)
    ∙ slice-column k n buffers child entries start len within
    ∙ map-range-below slot shown 0 len same
    ∙ ap (λ m. map shown (range_with_len 0 m)) (sym slots)

pub items-view : (v : Inside) (value : ℕ → Item) → v.start + v.len ≤ v.total
    → ((j : ℕ) → j < v.len → value_at (view_kind v.ty) v.buffers.now (child_items (map reading v.children.now)) (entries_of (option_map checked_texts (option_map (λ w. arc_value w.now) v.words))).items (v.start + j) ≡ value j)
    → (show_view v).items ≡ valid_values value (show_view v)
items-view v value within is =
    items-part (view_kind v.ty) v.total v.buffers.now (map reading v.children.now) (option_map checked_texts (option_map (λ w. arc_value w.now) v.words)) v.start v.len value within is

-- the values of a view of one kind
value_is : (v : Inside) (k : Kind) → view_kind v.ty ≡ k → (j : ℕ)
    → value_at (view_kind v.ty) v.buffers.now (child_items (map reading v.children.now)) (entries_of (option_map checked_texts (option_map (λ w. arc_value w.now) v.words))).items (v.start + j)
    ≡ value_at k v.buffers.now (child_items (map reading v.children.now)) (entries_of (option_map checked_texts (option_map (λ w. arc_value w.now) v.words))).items (v.start + j)
value_is v k is j =
    ap (λ q. value_at q v.buffers.now (child_items (map reading v.children.now)) (entries_of (option_map checked_texts (option_map (λ w. arc_value w.now) v.words))).items (v.start + j)) is

-- a view is of an array where each test has passed
whole_view : (v : Inside) (k : Kind) → view_kind v.ty ≡ k → (read_view v).fault ≡ None
    → IsWhole k v.total None v.buffers.now (map inner_of (map reading v.children.now)) (option_map inner_of (option_map checked_texts (option_map (λ w. arc_value w.now) v.words)))
whole_view v k is lawful =
    subst (λ q. IsWhole q v.total None v.buffers.now (map inner_of (map reading v.children.now)) (option_map inner_of (option_map checked_texts (option_map (λ w. arc_value w.now) v.words)))) is
    (whole (view_kind v.ty) v.total None v.buffers.now (map reading v.children.now) (option_map checked_texts (option_map (λ w. arc_value w.now) v.words)) lawful)

second_of_three : (a b c : Option LayoutFault) → first (a ∷ b ∷ c ∷ []) ≡ None → b ≡ None
second_of_three None None c h = refl
second_of_three None (Some fault) c h = cc
second_of_three (Some fault) b c h = cc

children_lawful : (k : Kind) (n : ℕ) (buffers : Buffers) (children : List Reading) (dictionary : Option Reading)
    → (read_parts k n None buffers children dictionary).fault ≡ None → child_fault children ≡ None
unfolding read_parts
children_lawful k n buffers children dictionary h =
    second_of_three (own_fault k n None buffers (map inner_of children) (option_map inner_of dictionary)) (child_fault children) (dictionary_fault dictionary) h

-- ---- bits

-- the kind of a view, by what it shows
pub kind_shown : (v : Inside) (s : Seen) → show_view v ≡ s → view_kind v.ty ≡ s.kind
kind_shown v s shows = sym (kind-show_view v) ∙ ap (λ (q : Seen). q.kind) shows

-- the bits of a view of truth values, and that they are there
pub record ViewBits (v : Inside) (s : Seen) : Type 0 where
  pub enough : v.start + v.len ≤ 8 * length (bytes_at v.buffers.now 1)
  pub bits : HasBits (bits (bytes_at v.buffers.now 1) v.start v.len) s

pub bits_of_view : (v : Inside) (s : Seen) → show_view v ≡ s → s.kind ≡ kind.boolean → (read_view v).fault ≡ None → v.start + v.len ≤ v.total → ViewBits v s
bits_of_view v s shows kind_is lawful within =
    let bytes = bytes_at v.buffers.now 1 in
    let is = kind_shown v s shows ∙ kind_is in
    let long = ltb-false (length bytes) (bytes_for v.total) (whole_view v kind.boolean is lawful).data_enough in
    record {
      enough = omega (arith, long, within);
      bits = subst (HasBits (bits bytes v.start v.len)) shows (record {
        size = length-bits bytes v.start v.len ∙ sym (length-show_view v within);
        values = items-view v _ within (λ j h. value_is v kind.boolean is j ∙ ap boolean (sym (get_or-bits bytes v.start v.len j false h)));
      });
    }

-- ---- texts

is_utf8_at : (w : OffsetWidth) (n : ℕ) (buffers : Buffers) → bad_text_row (kind.texts w) n buffers ≡ None → (j : ℕ) → j < n → is_valid buffers j ≡ true
    → IsUtf8 (slot_at w (bytes_at buffers 1) (bytes_at buffers 2) j)
is_utf8_at w n buffers none j below valid =
    let bytes = slot_at w (bytes_at buffers 1) (bytes_at buffers 2) j in
    let fine : (true && not (is_utf8 bytes)) ≡ false = ap (λ b. b && not (is_utf8 bytes)) (sym valid) ∙ fails-least_none (is_no_text w buffers) n none j below in
    IsUtf8-from_is_utf8 bytes (not-false (is_utf8 bytes) fine)

-- The offsets of n slots are there from slot `start` on.
pub record HasOffsets (w : OffsetWidth) (first : List ℕ) (start n : ℕ) : Type 0 where
  pub enough : are_offsets_short w (start + n) first ≡ false
  pub counted : (j : ℕ) → j ≤ start + n → is_negative (number_at (offset_type w) first j) ≡ false

has_offsets : (w : OffsetWidth) (total : ℕ) (first : List ℕ) (most : ℕ) → Rising w total first most → (start n : ℕ) → start + n ≤ total → HasOffsets w first start n
has_offsets w total first most rises start n within = record {
  enough = enough-part w total (start + n) first rises.enough within;
  counted = λ j below. rises.counted j (omega (arith, below, within));
}

-- The texts of a view, whose offsets and bytes are these.
pub record ViewTexts (w : OffsetWidth) (first bytes : List ℕ) (start n : ℕ) (s : Seen) : Type 0 where
  pub there : HasOffsets w first start n
  pub texts : HasTexts (offsets_in w first start n) bytes s

whole_texts : (w : OffsetWidth) (v : Inside) (s : Seen) → show_view v ≡ s → s.kind ≡ (kind.texts w) → (read_view v).fault ≡ None → v.start + v.len ≤ v.total
    → ViewTexts w (bytes_at v.buffers.now 1) (bytes_at v.buffers.now 2) v.start v.len s
whole_texts w v s shows kind_is lawful within =
    let buffers = v.buffers.now in
    let first = bytes_at buffers 1 in
    let bytes = bytes_at buffers 2 in
    let offsets = offsets_in w first v.start v.len in
    let is = kind_shown v s shows ∙ kind_is in
    let tests = whole_view v (kind.texts w) is lawful in
    let rises = rising-texts w v.total None buffers _ _ tests in
    let slots = length-show_view v within in
    record {
      there = has_offsets w v.total first (length bytes) rises v.start v.len within;
      texts = subst (HasTexts offsets bytes) shows (record {
        bounds = subst (λ n. AreOffsets n offsets (length bytes)) (sym slots) (AreOffsets-part w v.total first (length bytes) rises v.start v.len within);
        texts = items-view v _ within (λ j h. value_is v (kind.texts w) is j ∙ ap text (sym (of_slot-in w first bytes v.start v.len j h)));
        utf8 =
            λ j h valid.
            let below : j < v.len = omega (arith, h, slots) in
            subst IsUtf8 (sym (of_slot-in w first bytes v.start v.len j below))
            (is_utf8_at w v.total buffers tests.all_texts (v.start + j) (omega (arith, below, within)) (sym (valid-view v j within below) ∙ valid));
      });
    }

-- as many slots as a view has items
slots_of : (v : Inside) (s : Seen) (n : ℕ) → show_view v ≡ s → v.start + v.len ≤ v.total → n ≡ length s.items → v.len ≡ n
slots_of v s n shows within slots = sym (length-show_view v within) ∙ ap (λ (q : Seen). length q.items) shows ∙ sym slots

pub texts_of_view : (w : OffsetWidth) (v : Inside) (s : Seen) (first bytes : List ℕ) (n : ℕ) → show_view v ≡ s → s.kind ≡ (kind.texts w) → (read_view v).fault ≡ None → v.start + v.len ≤ v.total
    → first ≡ bytes_at v.buffers.now 1 → bytes ≡ bytes_at v.buffers.now 2 → n ≡ length s.items → ViewTexts w first bytes v.start n s
texts_of_view w v s first bytes n shows kind_is lawful within first_is bytes_is slots =
    subst (λ f. ViewTexts w f bytes v.start n s) (sym first_is)
    (subst (λ b. ViewTexts w (bytes_at v.buffers.now 1) b v.start n s) (sym bytes_is)
    (subst (λ m. ViewTexts w (bytes_at v.buffers.now 1) (bytes_at v.buffers.now 2) v.start m s) (slots_of v s n shows within slots) (whole_texts w v s shows kind_is lawful within)))

-- ---- lists

-- a view of lists has a type of lists
list_type : (ty : ViewType) → ((w : OffsetWidth) (item : Bor Field) → ty ≡ type.List w item → ⊥) → is_list (view_kind ty) ≡ false
list_type (type.Int t) h = refl
list_type type.Bool h = refl
list_type (type.Text w) h = refl
list_type (type.List w item) h = absurd (h w item refl)
list_type type.Dict h = refl

pub some_list : (v : Inside) (s : Seen) → show_view v ≡ s → ((w : OffsetWidth) (item : Bor Field) → v.ty ≡ type.List w item → ⊥) → is_list s.kind ≡ true → ⊥
some_list v s shows h listed =
    let no : is_list s.kind ≡ false = sym (ap is_list (kind_shown v s shows)) ∙ list_type v.ty h in
    false≢true (sym no ∙ listed)

pub list_kind : (v : Inside) (s : Seen) (w : OffsetWidth) (item : Bor Field) → show_view v ≡ s → v.ty ≡ type.List w item → s.kind ≡ kind.lists w (kind_of (out-Field item.now).ty)
list_kind v s w item shows is = sym (kind_shown v s shows) ∙ ap view_kind is

some_child : (k : Kind) (children : List RawArray) → is_no_child k (map inner_of (map reading children)) ≡ false → 0 < length children
some_child k [] h = cc
some_child k (c ∷ cs) h = omega arith

-- a view of lists has a child
pub child_there : (w : OffsetWidth) (k : Kind) (v : Inside) (s : Seen) → show_view v ≡ s → s.kind ≡ kind.lists w k → (read_view v).fault ≡ None → 0 < length v.children.now
child_there w k v s shows kind_is lawful =
    let tests = whole_view v (kind.lists w k) (kind_shown v s shows ∙ kind_is) lawful in
    some_child k v.children.now (either_false _ _ tests.parts_agree).0

-- The lists of a view, whose offsets and child are these.
pub record ViewLists (w : OffsetWidth) (first : List ℕ) (start n : ℕ) (s child : Seen) : Type 0 where
  pub there : HasOffsets w first start n
  pub no_dict : same_kind child.kind kind.dict ≡ false
  pub depth : kind.depth child.kind < 8
  pub short : length child.items ≤ most_slots
  pub lists : HasLists (offsets_in w first start n) child s

seen-reading : (raw : RawArray) → ((reading raw).seen.kind ≡ (reading raw).kind) × (length (reading raw).seen.items ≡ (reading raw).length)
unfolding read_parts
seen-reading raw =
    let r = out-RawArray raw in
    let children = map reading r.children.items in
    let dictionary = option_map (λ b. reading b.value) r.dictionary in
    let is = reading-raw raw in (
      ap (λ (q : Reading). q.seen.kind) is ∙ seen-kind (kind_of r.ty) r.length r.null_count r.buffers.items children dictionary ∙ sym (ap (λ (q : Reading). q.kind) is),
      ap (λ (q : Reading). length q.seen.items) is ∙ length-items (kind_of r.ty) r.length r.null_count r.buffers.items children dictionary ∙ sym (ap (λ (q : Reading). q.length) is),
    )

-- a lawful array has few items
seen-short : (raw : RawArray) → fault raw ≡ None → length (reading raw).seen.items ≤ most_slots
seen-short raw lawful =
    let r = out-RawArray raw in
    let children = map reading r.children.items in
    let dictionary = option_map (λ b. reading b.value) r.dictionary in
    let is = reading-raw raw in
    let short = short-of_lawful (kind_of r.ty) r.length r.null_count r.buffers.items children dictionary (sym (ap (λ (q : Reading). q.fault) is) ∙ lawful) in
    let items = length-items (kind_of r.ty) r.length r.null_count r.buffers.items children dictionary in
    omega (arith, short, ap (λ (q : Reading). length q.seen.items) is, items)

pub child_of_view : (w : OffsetWidth) (k : Kind) (v : Inside) (s : Seen) (raw : RawArray) → show_view v ≡ s → s.kind ≡ kind.lists w k → (read_view v).fault ≡ None → raw ≡ slice_index_or v.children.now 0 raw
    → OneChild k v.children.now raw
child_of_view w k v s raw shows kind_is lawful is =
    let tests = whole_view v (kind.lists w k) (kind_shown v s shows ∙ kind_is) lawful in
    subst (OneChild k v.children.now) (sym is)
    (only_child k v.children.now raw (either_false _ _ tests.parts_agree).0
    (children_lawful (view_kind v.ty) v.total v.buffers.now (map reading v.children.now) (option_map checked_texts (option_map (λ w. arc_value w.now) v.words)) lawful))

whole_lists : (w : OffsetWidth) (k : Kind) (v : Inside) (s : Seen) (raw : RawArray) → show_view v ≡ s → s.kind ≡ kind.lists w k → (read_view v).fault ≡ None → v.start + v.len ≤ v.total → raw ≡ slice_index_or v.children.now 0 raw
    → ViewLists w (bytes_at v.buffers.now 1) v.start v.len s (reading raw).seen
whole_lists w k v s raw shows kind_is lawful within raw_is =
    let first = bytes_at v.buffers.now 1 in
    let inner = (reading raw).seen in
    let offsets = offsets_in w first v.start v.len in
    let is = kind_shown v s shows ∙ kind_is in
    let tests = whole_view v (kind.lists w k) is lawful in
    let child = child_of_view w k v s raw shows kind_is lawful raw_is in
    let seen = seen-reading raw in
    let seen_kind : inner.kind ≡ k = seen.0 ∙ child.kind_is in
    let few = ltb-false 8 (kind.depth (kind.lists w k)) tests.shallow in
    let most : child_length (map inner_of (map reading v.children.now)) ≡ length inner.items =
    ap (λ (cs : List RawArray). child_length (map inner_of (map reading cs))) child.is ∙ sym seen.1 in
    let items : child_items (map reading v.children.now) ≡ inner.items = ap (λ (cs : List RawArray). child_items (map reading cs)) child.is in
    let rises = rising-lists w k v.total None v.buffers.now _ _ tests in
    let slots = length-show_view v within in
    let same : (j : ℕ) → j < v.len → slot_at w first (child_items (map reading v.children.now)) (v.start + j) ≡ of_slot offsets inner.items j =
    λ j h. ap (λ xs. slot_at w first xs (v.start + j)) items ∙ sym (of_slot-in w first inner.items v.start v.len j h) in
    let bounds = AreOffsets-part w v.total first (child_length (map inner_of (map reading v.children.now))) rises v.start v.len within in
    record {
      there = has_offsets w v.total first _ rises v.start v.len within;
      no_dict = ap (λ k. same_kind k kind.dict) seen.0 ∙ child.no_dict;
      depth = omega (arith, few, ap kind.depth seen_kind);
      short = seen-short raw child.lawful;
      lists = record {
        kind = ap item_kind kind_is ∙ ap Some (sym child.kind_is ∙ sym seen.0);
        bounds = subst (λ n. AreOffsets n offsets (length inner.items)) (sym slots ∙ ap (λ (q : Seen). length q.items) shows) (subst (AreOffsets v.len offsets) most bounds);
        lists = subst (λ (q : Seen). q.items ≡ valid_values (λ j. list (list_of (of_slot offsets inner.items j))) q) shows
            (items-view v _ within (λ j h. value_is v (kind.lists w k) is j ∙ ap (λ xs. list (list_of xs)) (same j h)));
      };
    }

pub lists_of_view : (w : OffsetWidth) (k : Kind) (v : Inside) (s child : Seen) (raw : RawArray) (first : List ℕ) (n : ℕ) → show_view v ≡ s → s.kind ≡ kind.lists w k → (read_view v).fault ≡ None → v.start + v.len ≤ v.total
    → raw ≡ slice_index_or v.children.now 0 raw → child ≡ (reading raw).seen → first ≡ bytes_at v.buffers.now 1 → n ≡ length s.items → ViewLists w first v.start n s child
lists_of_view w k v s child raw first n shows kind_is lawful within raw_is child_is first_is slots =
    subst (ViewLists w first v.start n s) (sym child_is)
    (subst (λ f. ViewLists w f v.start n s (reading raw).seen) (sym first_is)
    (subst (λ m. ViewLists w (bytes_at v.buffers.now 1) v.start m s (reading raw).seen) (slots_of v s n shows within slots) (whole_lists w k v s raw shows kind_is lawful within raw_is)))

-- ---- the item of one slot

pub item_slot : (value : ℕ → Item) (s : Seen) (i : ℕ) → s.items ≡ valid_values value s → i < length s.items → slice_get s.items i ≡ Some (cond (valid_at s i) (value i) null)
item_slot value s i is within =
    let shown : ℕ → Item = λ k. cond (valid_at s k) (value k) null in
    slice_get-get_or s.items i null within
    ∙ ap (λ xs. Some (get_or xs i null)) is
    ∙ ap (λ x. Some x) (get_or-map-range_with_len shown 0 (length s.items) i i null within (zero-add i))

pub null_slot : (value : ℕ → Item) (s : Seen) (i : ℕ) → s.items ≡ valid_values value s → i < length s.items → valid_at s i ≡ false → slice_get s.items i ≡ Some null
null_slot value s i is within h = item_slot value s i is within ∙ ap (λ v. Some (cond v (value i) null)) h

pub valid_slot : (value : ℕ → Item) (s : Seen) (i : ℕ) → s.items ≡ valid_values value s → i < length s.items → valid_at s i ≡ true → slice_get s.items i ≡ Some (value i)
valid_slot value s i is within h = item_slot value s i is within ∙ ap (λ v. Some (cond v (value i) null)) h

-- ---- slots of an array that isn't dictionary-encoded

no_null : (k : Kind) (buffers : Buffers) (child entries : List Item) (j : ℕ) → same_kind k kind.dict ≡ false → is_null (value_at k buffers child entries j) ≡ false
no_null (kind.int t) buffers child entries j h = refl
no_null kind.boolean buffers child entries j h = refl
no_null (kind.texts w) buffers child entries j h = refl
no_null (kind.lists w k) buffers child entries j h = refl
no_null kind.dict buffers child entries j h = cc

-- its items are null exactly where its slots aren't valid
pub holds_plain : (v : Inside) (s : Seen) (i : ℕ) → show_view v ≡ s → same_kind s.kind kind.dict ≡ false → v.start + v.len ≤ v.total → i < length s.items → holds_at s i ≡ valid_at s i
holds_plain v s i shows plain within below =
    let child = child_items (map reading v.children.now) in
    let entries = (entries_of (option_map checked_texts (option_map (λ w. arc_value w.now) v.words))).items in
    let value : ℕ → Item = λ j. value_at (view_kind v.ty) v.buffers.now child entries (v.start + j) in
    let is : s.items ≡ valid_values value s = subst (λ (q : Seen). q.items ≡ valid_values value q) shows (items-view v value within (λ j h. refl)) in
    let plain_view = subst (λ k. same_kind k kind.dict ≡ false) (sym (kind_shown v s shows)) plain in
    ap (λ x. not (is_null x)) (get_or_from_slice_get s.items i (cond (valid_at s i) (value i) null) null (item_slot value s i is below))
    ∙ is_there (valid_at s i) (value i) (no_null (view_kind v.ty) v.buffers.now child entries (v.start + i) plain_view)
