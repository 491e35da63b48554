-- The members of a column of lists one after another, and the column that they make.
use Rattle.std.proofs.Common.{◌≡◌, ◌≢◌, ◌∙◌, ℕ, ◌+◌, ◌-◌, ◌<◌, ℤ, cond, List, [], ◌∷◌, ◌++◌, length, get_or, map, drop, Bool, true, false, Option, Some, None, option_and_then, refl, sym, ap, subst, arith, length-append}
use Rattle.std.specs.Prelude.{IfSome}
use Rattle.std.specs.List.{range_with_len}
use Rattle.std.proofs.lemmas.List.FromFn.{fill_by_all}
use Rattle.std.proofs.lemmas.Option.{slice_get-get_or, slice_get_within}
use Rattle.arrays.specs.Prelude.{IntType, IsBufferOf, Kind, OffsetWidth, Seen, bytes_of_number, is_of_type, is_valid_in, is_validity_short, kept, list_parts, offset_type, same_kind}
use Rattle.arrays.specs.Kind as kind
use Rattle.arrays.proofs.ValidityLemmas.{IsKept, kept_buffer}
use Rattle.json_read.specs.Prelude.{Data, HasListMembers, HoldsColumn, HoldsFlags, HoldsOffsets, Members, ReadsFirst, SpellsOffset, are_enough, array, as_array, count_of, fitting, get_item, get_member, integer_of, items_len, lists_fault, member_name, no_items, object, put, whole_of}
use Rattle.json_read.specs.Members as member
use Rattle.json_read.proofs.JsonItems.{slice_get-front, slice_get-last, first_pushed}
use Rattle.json_read.proofs.JsonLists.{offset_bytes-push, column_plain, lists_hold, child_holds}
use Rattle.json_scan.specs.Spelling.{SpellsAt, before}
use Rattle.json_scan.proofs.Values.{same_value}
use Rattle.json_stream.specs.Prelude.{AreSpelledOffsets, HoldsChild, HoldsChildMember, HoldsLists, HoldsOnlyChild, IsCountMember, IsOffsets, IsOnStretch, IsValidity, array_of_one, valid_of}
use Rattle.json_stream.specs.declared.column.Stretch.{Stretch}
use Rattle.json_stream.specs.declared.list.Child.{Child}
use Rattle.json_stream.specs.declared.list.ListParts.{ListParts}
use Rattle.json_stream.specs.declared.offsets.Offsets.{Offsets}
use Rattle.json_stream.proofs.SlotLemmas.{items_len-before, get_item-before}
use Rattle.json_stream.proofs.ColumnLemmas.{first_apart, here, there, no_member, flags_in}

-- ---- offsets

pub no_offsets : (w : OffsetWidth) (o : Offsets) → o.bytes.items ≡ [] → o.len ≡ 0 → AreSpelledOffsets w no_items o
no_offsets w o none len = record { bytes = record { numbers = []; spelled = record { len = refl; each = λ i d z found got. absurd cc }; laid = none }; len = len }

spelled_fits : (t : IntType) (d : Data) (z : ℤ) → whole_of d ≡ Some z → is_of_type t z ≡ true → integer_of t d ≡ Some z
spelled_fits t d z is fits = ap (option_and_then (fitting t)) is ∙ ap (λ b. cond b (Some z) None) fits

offsets_more : (w : OffsetWidth) (ds : List Data) (d : Data) (z : ℤ) (old new : Offsets) → integer_of (offset_type w) d ≡ Some z → new.bytes.items ≡ old.bytes.items ++ bytes_of_number (offset_type w) z
    → new.len ≡ old.len + 1 → AreSpelledOffsets w (before ds no_items) old → AreSpelledOffsets w (before (ds ++ d ∷ []) no_items) new
offsets_more w ds d z old new is grown more h =
    let numbers = h.bytes.numbers in
    let all = before (ds ++ d ∷ []) no_items in
    let many : length numbers ≡ length ds = h.bytes.spelled.len ∙ items_len-before ds in
    let count : length ds + 1 ≡ items_len all = sym (items_len-before (ds ++ d ∷ []) ∙ length-append ds (d ∷ [])) in
    let front : ReadsFirst (SpellsOffset w) all (length ds) numbers = record {
      len = many;
      each = λ i e x found got.
          let within : i < length ds = omega (arith, many, slice_get_within numbers i x got) in
          h.bytes.spelled.each i e x (get_item-before ds i ∙ (sym (slice_get-front ds (d ∷ []) i within) ∙ (sym (get_item-before (ds ++ d ∷ []) i) ∙ found))) got;
    } in
    let last : get_item (length ds) all ≡ Some d = get_item-before (ds ++ d ∷ []) (length ds) ∙ slice_get-last ds d in
    record {
      bytes = record {
        numbers = numbers ++ z ∷ [];
        spelled = subst (λ m. ReadsFirst (SpellsOffset w) all m (numbers ++ z ∷ [])) count (first_pushed (SpellsOffset w) all (length ds) numbers d z front last is);
        laid = grown ∙ (ap (λ xs. xs ++ bytes_of_number (offset_type w) z) h.bytes.laid ∙ sym (offset_bytes-push w numbers z));
      };
      len = more ∙ (ap (λ n. n + 1) (h.len ∙ items_len-before ds) ∙ count);
    }

-- one more offset where the width is that from before
pub offset_taken : (v w : OffsetWidth) (ds : List Data) (d : Data) (z : ℤ) (old new : Offsets) → v ≡ w → whole_of d ≡ Some z → is_of_type (offset_type v) z ≡ true
    → new.bytes.items ≡ old.bytes.items ++ bytes_of_number (offset_type v) z → new.len ≡ old.len + 1 → AreSpelledOffsets w (before ds no_items) old → AreSpelledOffsets w (before (ds ++ d ∷ []) no_items) new
offset_taken v w ds d z old new same is fits grown more h =
    let fitting_is : integer_of (offset_type w) d ≡ Some z = subst (λ x. integer_of (offset_type x) d ≡ Some z) same (spelled_fits (offset_type v) d z is fits) in
    offsets_more w ds d z old new fitting_is (subst (λ x. new.bytes.items ≡ old.bytes.items ++ bytes_of_number (offset_type x) z) same grown) more h

-- ---- the child

pub child_taken : (k l : Kind) (depth : ℕ) (text : List ℕ) (ds : List Data) (d : Data) (old : Option Child) (child : Child) → l ≡ k → old ≡ None → HoldsOnlyChild k depth text ds old → HoldsChild l depth text d child
    → HoldsOnlyChild k depth text (ds ++ d ∷ []) (Some child)
child_taken k l depth text ds d old child same none are holds =
    let nothing : ds ≡ [] = subst (HoldsOnlyChild k depth text ds) none are in
    (d, ap (λ xs. xs ++ d ∷ []) nothing, subst (λ x. HoldsChild x depth text d child) same holds)

pub child_alone : (k : Kind) (depth : ℕ) (text : List ℕ) (ds : List Data) (found : Option Child) (child : Child) → found ≡ Some child → HoldsOnlyChild k depth text ds found
    → (d : Data) × (array (before ds no_items) ≡ array_of_one d) × HoldsChild k depth text d child
child_alone k depth text ds found child is are =
    let one = subst (HoldsOnlyChild k depth text ds) is are in
    (one.0, ap (λ xs. array (before xs no_items)) one.1, one.2)

-- the depth of the child's value is two less than that of the column
pub child_below : (k : Kind) (depth e : ℕ) (text : List ℕ) (c : Child) (s : Seen) → e ≡ depth - 2 → ((d : Data) → HoldsChild k e text d c → HoldsColumn k (length s.items) d s)
    → (d : Data) → HoldsChild k (depth - 1 - 1) text d c → HoldsColumn k (length s.items) d s
child_below k depth e text c s is inner d h =
    let same : depth - 1 - 1 ≡ e = omega arith in
    inner d (subst (λ n. HoldsChild k n text d c) same h)

-- what is read where the child stands is the child
pub child_there : (k : Kind) (depth : ℕ) (text : List ℕ) (d e : Data) (s : Stretch) (a : Seen) → IsOnStretch depth text d s → SpellsAt depth (drop s.start text) e (drop s.end text) → HoldsColumn k (length a.items) e a
    → HoldsColumn k (length a.items) d a
child_there k depth text d e s a stands read h =
    subst (λ x. HoldsColumn k (length a.items) x a) (sym (same_value depth (drop s.start text) (drop s.end text) (drop s.end text) d e stands.0 read stands.1 stands.1)) h

-- ---- a member is taken

count_apart_validity : member_name member.Count ≢ member_name member.Validity
count_apart_validity e = absurd cc

count_apart_offset : member_name member.Count ≢ member_name member.Offset
count_apart_offset e = absurd cc

count_apart_children : member_name member.Count ≢ member_name member.Children
count_apart_children e = absurd cc

validity_apart_offset : member_name member.Validity ≢ member_name member.Offset
validity_apart_offset e = absurd cc

validity_apart_children : member_name member.Validity ≢ member_name member.Children
validity_apart_children = first_apart _ _ (λ e. omega (arith, e))

offset_apart_children : member_name member.Offset ≢ member_name member.Children
offset_apart_children e = absurd cc

module _ (w : OffsetWidth) (k : Kind) (depth : ℕ) (text name : List ℕ) (d : Data) (ms : Members) (p : ListParts) (h : HoldsLists w k depth text ms p) where
  same_count : name ≢ member_name member.Count → IsCountMember (get_member (member_name member.Count) (put name d ms)) p.count
  same_count apart = subst (λ o. IsCountMember o p.count) (sym (there member.Count name d ms apart)) h.count

  same_validity : name ≢ member_name member.Validity → IsValidity (get_member (member_name member.Validity) (put name d ms)) p.validity
  same_validity apart = subst (λ o. IsValidity o p.validity) (sym (there member.Validity name d ms apart)) h.validity

  same_offsets : name ≢ member_name member.Offset → IsOffsets w (get_member (member_name member.Offset) (put name d ms)) p.offsets
  same_offsets apart = subst (λ o. IsOffsets w o p.offsets) (sym (there member.Offset name d ms apart)) h.offsets

  same_child : name ≢ member_name member.Children → HoldsChildMember k depth text (get_member (member_name member.Children) (put name d ms)) p.child
  same_child apart = subst (λ o. HoldsChildMember k depth text o p.child) (sym (there member.Children name d ms apart)) h.child

  pub lists_count_taken : (n : ℕ) → name ≡ member_name member.Count → count_of d ≡ Some n → HoldsLists w k depth text (put name d ms) (record p { count = Some n })
  lists_count_taken n e is = record {
    count = ap (option_and_then count_of) (here member.Count name d ms e) ∙ is;
    validity = same_validity (no_member member.Count member.Validity name e count_apart_validity);
    offsets = same_offsets (no_member member.Count member.Offset name e count_apart_offset);
    child = same_child (no_member member.Count member.Children name e count_apart_children);
  }

  pub lists_validity_taken : (bits : Option (List Bool)) → name ≡ member_name member.Validity → IsValidity (Some d) bits → HoldsLists w k depth text (put name d ms) (record p { validity = bits })
  lists_validity_taken bits e is = record {
    count = same_count (λ f. count_apart_validity (sym f ∙ e));
    validity = subst (λ o. IsValidity o bits) (sym (here member.Validity name d ms e)) is;
    offsets = same_offsets (no_member member.Validity member.Offset name e validity_apart_offset);
    child = same_child (no_member member.Validity member.Children name e validity_apart_children);
  }

  pub offsets_taken : (offsets : Offsets) (v : OffsetWidth) → v ≡ w → name ≡ member_name member.Offset → IsOffsets v (Some d) (Some offsets) → HoldsLists w k depth text (put name d ms) (record p { offsets = Some offsets })
  offsets_taken offsets v one e is = record {
    count = same_count (λ f. count_apart_offset (sym f ∙ e));
    validity = same_validity (λ f. validity_apart_offset (sym f ∙ e));
    offsets = subst (λ o. IsOffsets w o (Some offsets)) (sym (here member.Offset name d ms e)) (subst (λ x. IsOffsets x (Some d) (Some offsets)) one is);
    child = same_child (no_member member.Offset member.Children name e offset_apart_children);
  }

  pub children_taken : (child : Child) → name ≡ member_name member.Children → HoldsChildMember k depth text (Some d) (Some child) → HoldsLists w k depth text (put name d ms) (record p { child = Some child })
  children_taken child e is = record {
    count = same_count (λ f. count_apart_children (sym f ∙ e));
    validity = same_validity (λ f. validity_apart_children (sym f ∙ e));
    offsets = same_offsets (λ f. offset_apart_children (sym f ∙ e));
    child = subst (λ o. HoldsChildMember k depth text o (Some child)) (sym (here member.Children name d ms e)) is;
  }

  pub lists_passed : name ≢ member_name member.Count → name ≢ member_name member.Validity → name ≢ member_name member.Offset → name ≢ member_name member.Children → HoldsLists w k depth text (put name d ms) p
  lists_passed no_count no_validity no_offset no_children = record {
    count = same_count no_count;
    validity = same_validity no_validity;
    offsets = same_offsets no_offset;
    child = same_child no_children;
  }

-- ---- the flags in memory

listed : (bits : List Bool) → bits ≡ map (λ i. get_or bits i false) (range_with_len 0 (length bits))
listed bits = fill_by_all (λ i. get_or bits i false) bits (length bits) false refl (λ k h. refl)

pub record AreBits (n : ℕ) (validity : Option (List Bool)) (buffer : Option (List ℕ)) : Type 0 where
  pub enough : is_validity_short n buffer ≡ false
  pub each : (i : ℕ) → i < n → valid_of validity i ≡ Some (is_valid_in buffer i)

pub kept_bits : (n : ℕ) (validity : Option (List Bool)) (buffer : Option (List ℕ)) → IfSome validity (λ bits. length bits ≡ n) → IsBufferOf buffer (option_and_then kept validity) → AreBits n validity buffer
kept_bits n None None whole holds = record { enough = refl; each = λ i below. refl }
kept_bits n None (Some bytes) whole holds = absurd holds
kept_bits n (Some bits) buffer whole holds =
    let packed : IsKept (length bits) (λ i. get_or bits i false) buffer = kept_buffer (length bits) (λ i. get_or bits i false) buffer (kept bits) (ap kept (listed bits)) holds in
    record {
      enough = ap (λ m. is_validity_short m buffer) (sym whole) ∙ packed.long;
      each =
          λ i below.
          let within : i < length bits = omega (arith, below, whole) in
          slice_get-get_or bits i false within ∙ ap Some (sym (packed.each i within));
    }

-- ---- the column

pub child_held : (w : OffsetWidth) (k : Kind) (depth : ℕ) (text : List ℕ) (ms : Members) (p : ListParts) (c : Child) (s : Seen) → HoldsLists w k depth text ms p → p.child ≡ Some c
    → ((d : Data) → HoldsChild k (depth - 1) text d c → HoldsColumn k (length s.items) d s) → (s.kind ≡ k) × (same_kind s.kind kind.dict ≡ false)
child_held w k depth text ms p c s h child_is inner =
    let child = subst (HoldsChildMember k depth text (get_member (member_name member.Children) ms)) child_is h.child in
    let held = inner child.0 child.2 in
    (held.kind, ap (λ x. same_kind x kind.dict) held.kind ∙ column_plain k (length s.items) child.0 s.items held.reads)

pub lists_held : (w : OffsetWidth) (k : Kind) (depth : ℕ) (text : List ℕ) (ms : Members) (p : ListParts) (n : ℕ) (o : Offsets) (c : Child) (validity : Option (List ℕ)) (bytes : List ℕ) (s a : Seen)
    → HoldsLists w k depth text ms p → p.offsets ≡ Some o → p.child ≡ Some c → p.count ≡ Some n → IfSome p.validity (λ bits. length bits ≡ n) → IsBufferOf validity (option_and_then kept p.validity)
    → bytes ≡ o.bytes.items → are_enough n o.len ≡ true → ((d : Data) → HoldsChild k (depth - 1) text d c → HoldsColumn k (length s.items) d s)
    → lists_fault w s.kind n bytes (length s.items) ≡ None → a ≡ (list_parts w s.kind n validity bytes s).seen → HoldsColumn (kind.lists w k) (length a.items) (object ms) a
lists_held w k depth text ms p n o c validity bytes s a h offsets_is child_is count whole buffer bytes_are enough inner lawful is =
    let flags = flags_in n (get_member (member_name member.Validity) ms) p.validity h.validity whole in
    let bits : AreBits n p.validity validity = kept_bits n p.validity validity whole buffer in
    let offsets = subst (IsOffsets w (get_member (member_name member.Offset) ms)) offsets_is h.offsets in
    let numbers : HoldsOffsets w offsets.0 bytes = subst (HoldsOffsets w offsets.0) (sym bytes_are) offsets.2.bytes in
    let child = subst (HoldsChildMember k depth text (get_member (member_name member.Children) ms)) child_is h.child in
    let given : HasListMembers n (object ms) flags.0 offsets.0 child.0 = record {
      count = subst (IsCountMember (get_member (member_name member.Count) ms)) count h.count;
      validity = flags.1;
      flagged = flags.2;
      listed = ap (option_and_then as_array) offsets.1;
      enough = ap (are_enough n) (sym offsets.2.len) ∙ enough;
      children = ap (option_and_then as_array) child.1;
    } in
    let marked : HoldsFlags flags.0 n validity = record { enough = bits.enough; each = λ i below. flags.3 i ∙ bits.each i below } in
    child_holds (kind.lists w k) n (object ms) a (lists_hold w k n (object ms) flags.0 offsets.0 child.0 validity bytes s a given marked numbers (inner child.0 child.2) lawful is)
