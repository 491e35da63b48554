-- What a column of lists is, and why its faults stand.
use Rattle.std.proofs.Common.{◌≡◌, ◌⊎◌, inl, inr, ◌∙◌, ℕ, ◌<◌, ℤ, Bool, true, false, cond, List, [], ◌∷◌, ◌++◌, length, get_or, map, Option, Some, None, option_and_then, IfSome, refl, sym, ap, subst, arith}
use Rattle.std.specs.List.{range_with_len}
use Rattle.std.proofs.lemmas.Grind.{flat_map-append}
use Rattle.std.proofs.lemmas.List.FromFn.{fill_by_all, get_or-map-range_with_len, length-map-range_with_len}
use Rattle.std.proofs.lemmas.List.{append-nil}
use Rattle.std.proofs.lemmas.Option.{slice_get-get_or}
use Rattle.arrays.specs.Prelude.{IsBufferOf, Item, Kind, LayoutFault, OffsetWidth, Seen, bytes_of_number, first, is_valid_in, is_validity_short, kept, list_of, list_parts, offset_type, own_fault, read_parts, same_kind, show_lists, slot_at}
use Rattle.arrays.specs.LayoutFaults as layout
use Rattle.arrays.specs.Item as column
use Rattle.arrays.specs.Kind as kind
use Rattle.arrays.proofs.ListArrays.{show_read_lists}
use Rattle.arrays.proofs.ValidityLemmas.{IsKept, kept_buffer}
use Rattle.json_base.specs.Prelude.{Data, EachFault, IsFault, IsUnder, Items, ListFault, MemberFault, ReadsEach, Tells, Unlike, Value, as_array, as_object, count_of, flag_of, integer_of, item, items_view, member_of, no_items, no_memory, unlike, view}
use Rattle.json_base.proofs.Views.{items_len-items_view}
use Rattle.json_base.specs.declared.path.Member.TheVariants as member
use Rattle.json_base.specs.declared.path.Step.{Step}
use Rattle.json_base.specs.declared.path.Step.TheVariants as step
use Rattle.json_base.specs.declared.fault.JsonFault.{JsonFault}
use Rattle.json_base.specs.declared.fault.JsonFaultKind.{JsonFaultKind}
use Rattle.json_base.specs.declared.fault.JsonFaultKind.TheVariants.{WrongMember, BadOffset, CountDiffers, Layout}
use Rattle.json_read.specs.declared.list.ListParts.{ListParts}
use Rattle.json_base.specs.JsonMember as at
use Rattle.json_read.specs.Prelude.{ChildFault, CountFault, FlagsFault, HasListMembers, HoldsColumn, HoldsFlags, HoldsOffsets, IsFlag, ListsFault, NoFlags, NoLists, NoOffset, NotLawful, OffsetsFault, ReadsColumn, ReadsLists, are_enough, bad_child, bad_child_column, bad_child_count, bad_children, bad_list_count, bad_list_flags, bad_lists, bad_offset, bad_offsets, flagged_at, flags_of, list_child, list_flags, list_offsets, list_slot, lists_fault, no_child_object, no_flag_at, no_flags_of_lists, no_list_object, no_lists, no_offset, no_offsets, not_enough, not_lawful, offset_bytes}
use Rattle.json_base.proofs.JsonTells.{tells_at, tells_as, tells_under, tells_wants}
use Rattle.json_base.proofs.JsonItems.{get_item_some}
use Rattle.json_read.proofs.JsonColumnFaults.{has_flags, at_index}

abbrev Faults : Type 1
Faults = JsonFaultKind → List Step → Type 0

-- ---- offsets and child of a column object

pub offsets_missing : (n : ℕ) (d : Data) (f : JsonFault) → Tells (MemberFault member.Offset (Unlike as_array) d) f → Tells (OffsetsFault n d) f
offsets_missing n d f t = tells_as (MemberFault member.Offset (Unlike as_array) d) (OffsetsFault n d) f (λ k p h. no_offsets k p h) t

pub offsets_few : (n : ℕ) (d : Data) (f : JsonFault) (vs : List Value) → option_and_then as_array (member_of member.Offset d) ≡ Some (items_view vs) → are_enough n (length vs) ≡ false
    → IsFault CountDiffers (step.Member member.Offset ∷ []) f → Tells (OffsetsFault n d) f
offsets_few n d f vs found few is =
    tells_at (OffsetsFault n d) CountDiffers (step.Member member.Offset ∷ []) f (not_enough (items_view vs) found (ap (are_enough n) (items_len-items_view vs) ∙ few)) is

pub ruleset offsets_found = (offsets_missing, offsets_few)

one_value : (vs : List Value) (v : Value) → length vs ≡ 1 → items_view vs ≡ item (view (get_or vs 0 v)) no_items
one_value [] v h = absurd (omega arith)
one_value (x ∷ []) v h = refl
one_value (x ∷ y ∷ vs) v h = absurd (omega arith)

pub one_item : (o : Option Items) (vs : List Value) (v : Value) → o ≡ Some (items_view vs) → length vs ≡ 1 → o ≡ Some (item (view (get_or vs 0 v)) no_items)
one_item o vs v found one = found ∙ ap Some (one_value vs v one)

pub ruleset single_found = (one_item)

pub parts_object : (n : ℕ) (d : Data) (f : JsonFault) → Tells (Unlike as_object d) f → Tells (NoLists n d) f
parts_object n d f t = tells_as (Unlike as_object d) (NoLists n d) f (λ k p h. no_list_object k p h) t

pub parts_count : (n : ℕ) (d : Data) (f : JsonFault) → Tells (CountFault n d) f → Tells (NoLists n d) f
parts_count n d f t = tells_as (CountFault n d) (NoLists n d) f (λ k p h. bad_list_count k p h) t

pub parts_flags : (n : ℕ) (d : Data) (f : JsonFault) → Tells (FlagsFault n d) f → Tells (NoLists n d) f
parts_flags n d f t = tells_as (FlagsFault n d) (NoLists n d) f (λ k p h. bad_list_flags k p h) t

pub parts_offsets : (n : ℕ) (d : Data) (f : JsonFault) → Tells (OffsetsFault n d) f → Tells (NoLists n d) f
parts_offsets n d f t = tells_as (OffsetsFault n d) (NoLists n d) f (λ k p h. bad_offsets k p h) t

pub parts_child : (n : ℕ) (d : Data) (f : JsonFault) → Tells (MemberFault member.Children (ListFault 1) d) f → Tells (NoLists n d) f
parts_child n d f t = tells_as (MemberFault member.Children (ListFault 1) d) (NoLists n d) f (λ k p h. bad_children k p h) t

pub has_lists : (n : ℕ) (d : Data) (p : ListParts) → option_and_then count_of (member_of member.Count d) ≡ Some n → flags_of (member_of member.Validity d) ≡ Some (list_flags p)
    → IfSome p.flags (λ fs. length fs.now ≡ n) → option_and_then as_array (member_of member.Offset d) ≡ Some (list_offsets p) → are_enough n (length p.offsets.now) ≡ true
    → option_and_then as_array (member_of member.Children d) ≡ Some (item (list_child p) no_items) → HasListMembers n d (list_flags p) (list_offsets p) (list_child p)
has_lists n d p count validity flagged listed enough children = record {
  count = count;
  validity = validity;
  flagged = has_flags (λ fs. fs.now) n p.flags flagged;
  listed = listed;
  enough = ap (are_enough n) (items_len-items_view p.offsets.now) ∙ enough;
  children = children;
}

pub ruleset parts_found = (parts_object, parts_count, parts_flags, parts_offsets, parts_child, has_lists)

-- ---- flags

pub tells_no_flag : (vs : List Value) (i : ℕ) (v : Value) (f : JsonFault) → flag_of (view v) ≡ None → i < length vs → v ≡ get_or vs i v → IsFault WrongMember (step.Item i ∷ []) f
    → Tells (EachFault (Unlike flag_of) (items_view vs)) f
tells_no_flag vs i v f none within at_value is =
    tells_at (EachFault (Unlike flag_of) (items_view vs)) WrongMember (step.Item i ∷ []) f (at.item i (view v) WrongMember [] (at_index vs i v within at_value) (unlike none)) is

pub ruleset flags_faults = (tells_no_flag, tells_wants)

pub no_flags_hold : (n : ℕ) → HoldsFlags None n None
no_flags_hold n = record { enough = refl; each = λ i below. refl }

pub tells_flags_under : (vs : List Value) (f g : JsonFault) → Tells (EachFault (Unlike flag_of) (items_view vs)) f → IsUnder (step.Member member.Validity) f g
    → Tells (NoFlags (Some (items_view vs))) g
tells_flags_under vs f g t up =
    tells_under (EachFault (Unlike flag_of) (items_view vs)) (NoFlags (Some (items_view vs))) (step.Member member.Validity) f g (λ k p h. no_flag_at (items_view vs) k p refl h) t up

listed : (bits : List Bool) → bits ≡ map (λ i. get_or bits i false) (range_with_len 0 (length bits))
listed bits = fill_by_all (λ i. get_or bits i false) bits (length bits) false refl (λ k h. refl)

flag_at : (fs : Items) (bits : List Bool) (i : ℕ) → ReadsEach IsFlag fs bits → i < length bits → flagged_at (Some fs) i ≡ Some (get_or bits i false)
flag_at fs bits i h within =
    let d = get_item_some fs i (omega (arith, h.len)) in
    ap (option_and_then flag_of) d.1 ∙ h.each i d.0 (get_or bits i false) d.1 (slice_get-get_or bits i false within)

pub flags_hold : (vs : List Value) (bits : List Bool) (n : ℕ) (bitmap : Option (List Bool)) (validity : Option (List ℕ)) → ReadsEach IsFlag (items_view vs) bits → length vs ≡ n
    → bitmap ≡ kept bits → IsBufferOf validity bitmap → HoldsFlags (Some (items_view vs)) n validity
flags_hold vs bits n bitmap validity h len is holds =
    let many : length bits ≡ n = h.len ∙ (items_len-items_view vs ∙ len) in
    let packed : IsKept (length bits) (λ i. get_or bits i false) validity = kept_buffer (length bits) (λ i. get_or bits i false) validity bitmap (is ∙ ap kept (listed bits)) holds in
    record {
      enough = ap (λ m. is_validity_short m validity) (sym many) ∙ packed.long;
      each =
          λ i below.
          let within : i < length bits = omega (arith, below, many) in
          flag_at (items_view vs) bits i h within ∙ ap Some (sym (packed.each i within));
    }

pub ruleset validity_faults = (no_flags_hold, tells_flags_under, flags_hold, tells_wants)

-- ---- offsets

pub offset_bytes-push : (w : OffsetWidth) (numbers : List ℤ) (z : ℤ) → offset_bytes w (numbers ++ z ∷ []) ≡ offset_bytes w numbers ++ bytes_of_number (offset_type w) z
offset_bytes-push w numbers z =
    flat_map-append (bytes_of_number (offset_type w)) numbers (z ∷ []) ∙ ap (λ last. offset_bytes w numbers ++ last) (append-nil (bytes_of_number (offset_type w) z))

pub tells_no_offset : (w : OffsetWidth) (vs : List Value) (i : ℕ) (v : Value) (f : JsonFault) → integer_of (offset_type w) (view v) ≡ None → i < length vs → v ≡ get_or vs i v
    → IsFault BadOffset (step.Item i ∷ []) f → Tells (EachFault (NoOffset w) (items_view vs)) f
tells_no_offset w vs i v f none within at_value is =
    tells_at (EachFault (NoOffset w) (items_view vs)) BadOffset (step.Item i ∷ []) f (at.item i (view v) BadOffset [] (at_index vs i v within at_value) (no_offset none)) is

pub offsets_kept : (w : OffsetWidth) (offsets : Items) (bytes kept : List ℕ) → HoldsOffsets w offsets bytes → kept ≡ bytes → HoldsOffsets w offsets kept
offsets_kept w offsets bytes kept h same = record { numbers = h.numbers; spelled = h.spelled; laid = same ∙ h.laid }

pub ruleset offsets_faults = (tells_no_offset, offsets_kept, tells_wants)

-- ---- the array

same-alone : (o : Option LayoutFault) → first (o ∷ None ∷ None ∷ []) ≡ o
same-alone None = refl
same-alone (Some fault) = refl

-- a validity that is long enough is no fault
pub lists_fault-is : (w : OffsetWidth) (n : ℕ) (validity : Option (List ℕ)) (offsets : List ℕ) (child : Seen) → is_validity_short n validity ≡ false
    → (list_parts w child.kind n validity offsets child).fault ≡ lists_fault w child.kind n offsets (length child.items)
unfolding read_parts own_fault
lists_fault-is w n validity offsets child enough = rw enough (same-alone _)

pub tells_not_lawful : (w : OffsetWidth) (k : Kind) (n : ℕ) (offsets : List ℕ) (m : ℕ) (fault : LayoutFault) (f : JsonFault) → lists_fault w k n offsets m ≡ Some fault
    → IsFault (Layout fault) [] f → Tells (NotLawful w k n offsets m) f
tells_not_lawful w k n offsets m fault f stands is = tells_at (NotLawful w k n offsets m) (Layout fault) [] f (not_lawful fault stands) is

pub tells_tried : (w : OffsetWidth) (k : Kind) (n : ℕ) (offsets : List ℕ) (m : ℕ) (fault : LayoutFault) (f : JsonFault) (o : Option LayoutFault) → o ≡ lists_fault w k n offsets m
    → (o ≡ Some fault) ⊎ (fault ≡ layout.NoMemory) → IsFault (Layout fault) [] f → (fault ≡ layout.NoMemory → f ≡ no_memory) → Tells (NotLawful w k n offsets m) f
tells_tried w k n offsets m fault f o same (inl stands) reported wants = tells_not_lawful w k n offsets m fault f (sym same ∙ stands) reported
tells_tried w k n offsets m fault f o same (inr none) reported wants = tells_wants (NotLawful w k n offsets m) f (wants none)

pub ruleset lists_made = (tells_not_lawful, tells_wants)

-- ---- the child

pub child_object : (W : ℕ → Data → JsonFaultKind → List Step → Type 0) (d : Data) (f : JsonFault) → Tells (Unlike as_object d) f → Tells (ChildFault W d) f
child_object W d f t = tells_as (Unlike as_object d) (ChildFault W d) f (λ k p h. no_child_object k p h) t

pub child_count : (W : ℕ → Data → JsonFaultKind → List Step → Type 0) (d : Data) (f : JsonFault) → Tells (MemberFault member.Count (Unlike count_of) d) f → Tells (ChildFault W d) f
child_count W d f t = tells_as (MemberFault member.Count (Unlike count_of) d) (ChildFault W d) f (λ k p h. bad_child_count k p h) t

pub child_column : (W : ℕ → Data → JsonFaultKind → List Step → Type 0) (d : Data) (m : ℕ) (f : JsonFault) → option_and_then count_of (member_of member.Count d) ≡ Some m → Tells (W m d) f
    → Tells (ChildFault W d) f
child_column W d m f count t = tells_as (W m d) (ChildFault W d) f (λ k p h. bad_child_column m k p count h) t

pub child_holds : (k : Kind) (n : ℕ) (d : Data) (s : Seen) → HoldsColumn k n d s → HoldsColumn k (length s.items) d s
child_holds k n d s h = subst (λ m. HoldsColumn k m d s) (sym h.len) h

pub ruleset child_faults = (child_object, child_count, child_column, child_holds)

-- ---- a column

pub lists_no_parts : (W : ℕ → Data → JsonFaultKind → List Step → Type 0) (w : OffsetWidth) (k : Kind) (n : ℕ) (d : Data) (f : JsonFault) → Tells (NoLists n d) f → Tells (ListsFault W w k n d) f
lists_no_parts W w k n d f t = tells_as (NoLists n d) (ListsFault W w k n d) f (λ a p h. no_lists a p h) t

pub lists_flags : (W : ℕ → Data → JsonFaultKind → List Step → Type 0) (w : OffsetWidth) (k : Kind) (n : ℕ) (d : Data) (f : JsonFault) (flags : Option Items) (offsets : Items) (child : Data)
    → Tells (NoFlags flags) f → HasListMembers n d flags offsets child → Tells (ListsFault W w k n d) f
lists_flags W w k n d f flags offsets child t given = tells_as (NoFlags flags) (ListsFault W w k n d) f (λ a p h. no_flags_of_lists flags offsets child a p given h) t

pub lists_offsets : (W : ℕ → Data → JsonFaultKind → List Step → Type 0) (w : OffsetWidth) (k : Kind) (n : ℕ) (d : Data) (f g : JsonFault) (flags : Option Items) (offsets : Items) (child : Data)
    → Tells (EachFault (NoOffset w) offsets) f → HasListMembers n d flags offsets child → IsUnder (step.Member member.Offset) f g → Tells (ListsFault W w k n d) g
lists_offsets W w k n d f g flags offsets child t given up =
    tells_under (EachFault (NoOffset w) offsets) (ListsFault W w k n d) (step.Member member.Offset) f g (λ a p h. bad_offset flags offsets child a p given h) t up

pub lists_child : (W : ℕ → Data → JsonFaultKind → List Step → Type 0) (w : OffsetWidth) (k : Kind) (n : ℕ) (d : Data) (f g h : JsonFault) (flags : Option Items) (offsets : Items) (child : Data)
    → Tells (ChildFault W child) f → HasListMembers n d flags offsets child → IsUnder (step.Item 0) f g → IsUnder (step.Member member.Children) g h → Tells (ListsFault W w k n d) h
lists_child W w k n d f g h flags offsets child t given up up_again =
    let Inside : JsonFaultKind → List Step → Type 0 = λ a p. ListsFault W w k n d a (step.Member member.Children ∷ p) in
    tells_under Inside (ListsFault W w k n d) (step.Member member.Children) g h (λ a p x. x)
    (tells_under (ChildFault W child) Inside (step.Item 0) f g (λ a p x. bad_child flags offsets child a p given x) t up)
    up_again

-- ---- what an object of a column says of itself

-- a column has the count that its object states
pub column_count : (k : Kind) (n : ℕ) (d : Data) (items : List Item) → ReadsColumn k n d items → option_and_then count_of (member_of member.Count d) ≡ Some n
column_count (kind.int t) n d items h = h.given.count
column_count kind.boolean n d items h = h.given.count
column_count (kind.texts w) n d items h = h.given.count
column_count (kind.lists w k) n d items h = h.given.count
column_count kind.dict n d items h = absurd h

-- no column of codes is read
pub column_plain : (k : Kind) (n : ℕ) (d : Data) (items : List Item) → ReadsColumn k n d items → same_kind k kind.dict ≡ false
column_plain (kind.int t) n d items h = refl
column_plain kind.boolean n d items h = refl
column_plain (kind.texts w) n d items h = refl
column_plain (kind.lists w k) n d items h = refl
column_plain kind.dict n d items h = absurd h

pub lists_not_lawful : (W : ℕ → Data → JsonFaultKind → List Step → Type 0) (w : OffsetWidth) (k : Kind) (n : ℕ) (d : Data) (f : JsonFault) (flags : Option Items) (offsets : Items) (child : Data)
    (bytes : List ℕ) (s : Seen) → Tells (NotLawful w s.kind n bytes (length s.items)) f → HasListMembers n d flags offsets child → HoldsOffsets w offsets bytes → HoldsColumn k (length s.items) child s
    → Tells (ListsFault W w k n d) f
lists_not_lawful W w k n d f flags offsets child bytes s t given wrapper column =
    tells_as (NotLawful w s.kind n bytes (length s.items)) (ListsFault W w k n d) f
    (λ a p h.
    bad_lists flags offsets child wrapper.numbers (length s.items) a p given wrapper.spelled (column_count k (length s.items) child s.items column.reads)
    (subst (λ x. NotLawful w x n (offset_bytes w wrapper.numbers) (length s.items) a p) column.kind (subst (λ x. NotLawful w s.kind n x (length s.items) a p) wrapper.laid h)))
    t

-- ---- what its lists are

slot_shown : (b : Bool) (items : List Item) → Some (cond b (column.list (list_of items)) column.null) ≡ list_slot (Some b) items
slot_shown true items = refl
slot_shown false items = refl

shown_slots : (w : OffsetWidth) (n : ℕ) (flags : Option Items) (validity : Option (List ℕ)) (offsets : List ℕ) (child : Seen) → HoldsFlags flags n validity
    → ReadsLists w flags offsets child.items n (show_lists w n validity offsets child).items
shown_slots w n flags validity offsets child wrapper =
    let slot : ℕ → Item = λ j. cond (is_valid_in validity j) (column.list (list_of (slot_at w offsets child.items j))) column.null in
    let len : length (map slot (range_with_len 0 n)) ≡ n = length-map-range_with_len slot 0 n in
    record {
      len = len;
      each =
          λ i below.
          slice_get-get_or (map slot (range_with_len 0 n)) i column.null (omega (arith, below, len))
          ∙ ap Some (get_or-map-range_with_len slot 0 n i i column.null below (omega arith))
          ∙ slot_shown (is_valid_in validity i) (slot_at w offsets child.items i)
          ∙ ap (λ o. list_slot o (slot_at w offsets child.items i)) (sym (wrapper.each i below));
    }

pub lists_hold : (w : OffsetWidth) (k : Kind) (n : ℕ) (d : Data) (flags : Option Items) (offsets : Items) (child : Data) (validity : Option (List ℕ)) (bytes : List ℕ) (s a : Seen)
    → HasListMembers n d flags offsets child → HoldsFlags flags n validity → HoldsOffsets w offsets bytes → HoldsColumn k (length s.items) child s
    → lists_fault w s.kind n bytes (length s.items) ≡ None → a ≡ (list_parts w s.kind n validity bytes s).seen → HoldsColumn (kind.lists w k) n d a
lists_hold w k n d flags offsets child validity bytes s a given wrapper numbers column lawful is =
    let shown : a ≡ show_lists w n validity bytes s = is ∙ show_read_lists w n validity bytes s in
    let slots : ReadsLists w flags bytes s.items n a.items = subst (λ (x : Seen). ReadsLists w flags bytes s.items n x.items) (sym shown) (shown_slots w n flags validity bytes s wrapper) in
    record {
      kind = ap (λ (x : Seen). x.kind) shown ∙ ap (kind.lists w) column.kind;
      len = slots.len;
      reads = record {
        flags = flags;
        offsets = offsets;
        child = child;
        given = given;
        numbers = numbers.numbers;
        spelled = numbers.spelled;
        m = length s.items;
        below = s.items;
        inner = column.reads;
        lawful = ap (λ x. lists_fault w x n (offset_bytes w numbers.numbers) (length s.items)) (sym column.kind) ∙ (ap (λ x. lists_fault w s.kind n x (length s.items)) (sym numbers.laid) ∙ lawful);
        slots = subst (λ x. ReadsLists w flags x s.items n a.items) numbers.laid slots;
      };
    }

pub ruleset lists_faults = (lists_no_parts, lists_flags, lists_offsets, lists_child, lists_not_lawful, lists_hold, column_plain)
