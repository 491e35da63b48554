-- Where a fault of a column stands, it isn't read, and two readings of one column are one.
use Rattle.std.proofs.Common.{◌≡◌, ◌∙◌, ℕ, suc, ◌<◌, ◌≤◌, Bool, true, false, List, [], ◌∷◌, Option, Some, None, option_and_then, refl, sym, ap, subst, arith}
use Rattle.std.specs.List.{slice_get}
use Rattle.std.proofs.lemmas.Bool.{false≢true}
use Rattle.std.proofs.lemmas.Bool.Decides.{nat_tests}
use Rattle.std.proofs.lemmas.List.Sums.{sum_by-cons}
use Rattle.std.proofs.lemmas.Option.{slice_get_within}
use Rattle.arrays.specs.Prelude.{Item, Narrow, OffsetWidth, Wide, text_bytes, text_length}
use Rattle.json_base.specs.Data as data'
use Rattle.json_base.specs.Prelude.{Data, Items, ListFault, as_array, as_null, as_object, count_of, get_item, items_len, length_differs, member_of, no_array}
use Rattle.json_base.specs.declared.path.Member.TheVariants as member
use Rattle.json_base.specs.declared.path.Step.{Step}
use Rattle.json_base.specs.declared.fault.JsonFaultKind.{JsonFaultKind}
use Rattle.json_read.specs.Prelude.{ColumnFault, CountFault, FlagsFault, HasFlags, HasSlots, NoSlots, ReadsPlain, ReadsSlots, SlotsFault, Spelling, bad_count, bad_flags, bad_slots, bad_values, flagged_at, flags_of, is_past_offsets, no_column_object, no_count, no_flag, no_flags, no_slots, no_value, other_count, overflows, slot_of, too_long}
use Rattle.json_base.proofs.MemberLaws.{inner, no_object, not_unlike, no_member, under_law, get_item-within, slice_get_some, same_lists}

-- ---- columns

pub count_law : (n : ℕ) (d : Data) (k : JsonFaultKind) (p : List Step) → option_and_then count_of (member_of member.Count d) ≡ Some n → CountFault n d k p → ⊥
count_law n d k p h (no_count k' p' f) = no_member count_of member.Count d n _ _ h f
count_law n d k p h (other_count m found other) =
    let same : m ≡ n = cc (found, h) in
    other same

-- an array of the right length
pub list_law : (n : ℕ) (d : Data) (ds : Items) (k : JsonFaultKind) (p : List Step) → as_array d ≡ Some ds → items_len ds ≡ n → ListFault n d k p → ⊥
list_law n d ds k p h len (no_array none) = cc (none, h)
list_law n d ds k p h len (length_differs es found other) =
    let same : es ≡ ds = cc (found, h) in
    other (ap items_len same ∙ len)

-- flags that are there are an array of them
flags_array : (e : Data) (n : ℕ) (flags : Option Items) → flags_of (Some e) ≡ Some flags → HasFlags n flags → as_null e ≡ None → (fs : Items) × (as_array e ≡ Some fs) × (items_len fs ≡ n)
flags_array data'.null n flags h len none = absurd cc
flags_array (data'.boolean b) n flags h len none = absurd cc
flags_array (data'.number x) n flags h len none = absurd cc
flags_array (data'.string s) n flags h len none = absurd cc
flags_array (data'.array fs) n flags h len none =
    let same : flags ≡ Some fs = cc in
    (fs, refl, subst (λ o. HasFlags n o) same len)
flags_array (data'.object ms) n flags h len none = absurd cc

pub flags_law : (n : ℕ) (d : Data) (flags : Option Items) (k : JsonFaultKind) (p : List Step) → flags_of (member_of member.Validity d) ≡ Some flags → HasFlags n flags → FlagsFault n d k p → ⊥
flags_law n d flags k p h len (no_flags e k' p' found there w) =
    let a = flags_array e n flags (ap flags_of (sym found) ∙ h) len there in
    list_law n e a.0 _ _ a.1 a.2 w

pub valid_law : (s : Spelling) (o : Option Data) (d : Data) (x : Item) → slot_of s (Some true) o ≡ Some x → o ≡ Some d → s.spelled d ≡ None → ⊥
valid_law s o d x h at none =
    let e = ap (slot_of s (Some true)) at ∙ none in
    cc (e, h)

pub no_flag_law : (s : Spelling) (o : Option Data) (x : Item) → slot_of s None o ≡ Some x → ⊥
no_flag_law s None x h = cc
no_flag_law s (Some e) x h = cc

pub slot_read : (s : Spelling) (n : ℕ) (d : Data) (items : List Item) (h : ReadsPlain s n d items) (i : ℕ) (e : Data) → get_item i h.values ≡ Some e
    → (x : Item) × (slot_of s (flagged_at h.flags i) (get_item i h.values) ≡ Some x)
slot_read s n d items h i e found =
    let within : i < n = omega (arith, get_item-within h.values i e found, h.given.whole) in
    let x = slice_get_some items i (omega (arith, h.slots.len)) in
    (x.0, sym (h.slots.each i within) ∙ x.1)

-- a slot that holds something has its place among the values
slot_given : (s : Spelling) (b : Option Bool) (o : Option Data) (x : Item) → slot_of s b o ≡ Some x → (d : Data) × (o ≡ Some d)
slot_given s b (Some d) x h = (d, refl)
slot_given s None None x h = absurd cc
slot_given s (Some true) None x h = absurd cc
slot_given s (Some false) None x h = absurd cc

-- the first items hold no more than all
text_bytes-first : (xs ys : List Item) → ((i : ℕ) (x : Item) → slice_get xs i ≡ Some x → slice_get ys i ≡ Some x) → text_bytes xs ≤ text_bytes ys
text_bytes-first [] ys h = omega arith
text_bytes-first (x ∷ xs) [] h = absurd (let e = h 0 x refl in cc)
text_bytes-first (x ∷ xs) (y ∷ ys) h =
    let e = h 0 x refl in
    let same : text_length y ≡ text_length x = ap text_length cc in
    let rest = text_bytes-first xs ys (λ i z at. h (suc i) z at) in
    omega (arith, sum_by-cons text_length x xs, sum_by-cons text_length y ys, same, rest)

not_past : (o : Option OffsetWidth) (m n : ℕ) → m ≤ n → is_past_offsets o m ≡ true → is_past_offsets o n ≡ false → ⊥
not_past None m n h past within = false≢true past
not_past (Some Narrow) m n h past within = grind (arith, nat_tests)
not_past (Some Wide) m n h past within = false≢true past

long_law : (s : Spelling) (n : ℕ) (d : Data) (items first : List Item) (m : ℕ) → (h : ReadsPlain s n d items) → ReadsSlots s h.flags h.values m first → overflows s first ≡ true → ⊥
long_law s n d items first m h reads full =
    not_past s.offsets (text_bytes first) (text_bytes items)
    (text_bytes-first first items
    (λ i x at.
    let below : i < m = omega (arith, slice_get_within first i x at, reads.len) in
    let slot = sym (reads.each i below) ∙ at in
    let given = slot_given s (flagged_at h.flags i) (get_item i h.values) x slot in
    h.slots.each i (omega (arith, get_item-within h.values i given.0 given.1, h.given.whole)) ∙ slot))
    full h.fits

slots_law : (s : Spelling) (n : ℕ) (d : Data) (items : List Item) (k : JsonFaultKind) (p : List Step) → (h : ReadsPlain s n d items) → SlotsFault s h.flags h.values k p → ⊥
slots_law s n d items k p h (no_flag i e found none) =
    let x = slot_read s n d items h i e found in
    no_flag_law s (get_item i h.values) x.0 (ap (λ o. slot_of s o (get_item i h.values)) (sym none) ∙ x.1)
slots_law s n d items k p h (no_value i e found valid none) =
    let x = slot_read s n d items h i e found in
    valid_law s (get_item i h.values) e x.0 (ap (λ o. slot_of s o (get_item i h.values)) (sym valid) ∙ x.1) found none
slots_law s n d items k p h (too_long m first reads full) = long_law s n d items first m h reads full

pub no_slots_law : (n : ℕ) (d : Data) (flags : Option Items) (values : Items) (k : JsonFaultKind) (p : List Step) → HasSlots n d flags values → NoSlots n d k p → ⊥
no_slots_law n d flags values k p h (no_column_object k' p' u) = no_object count_of member.Count d n h.count (not_unlike as_object d _ _ u)
no_slots_law n d flags values k p h (bad_count k' p' f) = count_law n d _ _ h.count f
no_slots_law n d flags values k p h (bad_flags k' p' f) = flags_law n d flags _ _ h.validity h.flagged f
no_slots_law n d flags values k p h (bad_values k' p' f) =
    let i = inner as_array (member_of member.Data d) values h.listed in
    under_law member.Data (ListFault n) d i.0 _ _ i.1 (λ k p w. list_law n i.0 values k p i.2 h.whole w) f

pub plain_law : (s : Spelling) (n : ℕ) (d : Data) (items : List Item) (k : JsonFaultKind) (p : List Step) → ReadsPlain s n d items → ColumnFault s n d k p → ⊥
plain_law s n d items k p h (no_slots k' p' f) = no_slots_law n d h.flags h.values _ _ h.given f
plain_law s n d items k p h (bad_slots flags values k' p' given f) =
    let a : flags ≡ h.flags = cc (given.validity, h.given.validity) in
    let b : values ≡ h.values = cc (given.listed, h.given.listed) in
    slots_law s n d items k' p' h (subst (λ x. SlotsFault s x h.values k' p') a (subst (λ y. SlotsFault s flags y k' p') b f))

-- two readings of one column are one
pub same_plain : (s : Spelling) (n : ℕ) (d : Data) (xs ys : List Item) → ReadsPlain s n d xs → ReadsPlain s n d ys → xs ≡ ys
same_plain s n d xs ys h g =
    let flags : h.flags ≡ g.flags = cc (h.given.validity, g.given.validity) in
    let values : h.values ≡ g.values = cc (h.given.listed, g.given.listed) in
    same_lists xs ys (h.slots.len ∙ sym g.slots.len)
    (λ i x y at at'.
    let within : i < n = omega (arith, slice_get_within xs i x at, h.slots.len) in
    let slot = ap (λ fs. slot_of s (flagged_at fs i) (get_item i h.values)) flags ∙ ap (λ vs. slot_of s (flagged_at g.flags i) (get_item i vs)) values in
    let e : Some x ≡ Some y = sym at ∙ (h.slots.each i within ∙ (slot ∙ (sym (g.slots.each i within) ∙ at'))) in
    cc)
