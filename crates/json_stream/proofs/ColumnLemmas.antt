-- The members of a column one after another, and the column that they make.
use Rattle.std.proofs.Common.{◌≡◌, ◌≢◌, ◌∙◌, ℕ, ◌^◌, ◌<◌, nat_lt, cond, List, length, get_or, Bool, true, Option, Some, None, option_and_then, drop, refl, sym, ap, subst, arith}
use Rattle.std.specs.Prelude.{IfSome}
use Rattle.std.proofs.lemmas.Bool.Decides.{nat_tests}
use Rattle.arrays.specs.Prelude.{Item, Kind, Seen}
use Rattle.arrays.specs.Kind.{int, boolean, texts, lists, dict}
use Rattle.json_read.specs.Prelude.{Coding, Data, HasFlags, HasSlots, HoldsColumn, HoldsTop, Items, Member, Members, Num, ReadsColumn, ReadsPlain, ReadsSlots, ReadsTop, array, as_array, as_u64, below, count_of, flagged_at, flags_of, get_member, member_name, no_items, number, object, put, spelling_of}
use Rattle.json_read.proofs.Views.{get_member-put, get_member-put_other}
use Rattle.json_read.specs.Members as member
use Rattle.json_scan.specs.Spelling.{SpellsAt, before}
use Rattle.json_scan.proofs.Values.{same_value}
use Rattle.json_stream.specs.Prelude.{HoldsParts, HoldsSlots, IsCountMember, IsValidity, IsValues, StandsOn, coding_in, is_slotted, is_slotwise, kind_in, spelling_at, valid_of}
use Rattle.json_stream.specs.declared.column.Stretch.{Stretch}
use Rattle.json_stream.specs.declared.column.ColumnParts.{ColumnParts}
use Rattle.json_stream.specs.declared.field.EncodedField.{EncodedField}
use Rattle.json_stream.proofs.Flags.{flags_len, flag_at}
use Rattle.json_stream.proofs.SlotLemmas.{items_len-before, reads_slots}

-- ---- a member is taken

pub first_apart : (xs ys : List ℕ) → get_or xs 0 0 ≢ get_or ys 0 0 → xs ≢ ys
first_apart xs ys apart e = apart (ap (λ zs. get_or zs 0 0) e)

count_apart_validity : member_name member.Count ≢ member_name member.Validity
count_apart_validity = first_apart _ _ (λ e. omega (arith, e))

count_apart_data : member_name member.Count ≢ member_name member.Data
count_apart_data = first_apart _ _ (λ e. omega (arith, e))

validity_apart_data : member_name member.Validity ≢ member_name member.Data
validity_apart_data = first_apart _ _ (λ e. omega (arith, e))

-- the member of a name is what was put there
pub here : (m : Member) (name : List ℕ) (d : Data) (ms : Members) → name ≡ member_name m → get_member (member_name m) (put name d ms) ≡ Some d
here m name d ms e = ap (λ n. get_member n (put name d ms)) (sym e) ∙ get_member-put name d ms

-- and that of another name what it was
pub there : (m : Member) (name : List ℕ) (d : Data) (ms : Members) → name ≢ member_name m → get_member (member_name m) (put name d ms) ≡ get_member (member_name m) ms
there m name d ms apart = get_member-put_other (member_name m) name d ms (λ e. apart (sym e))

pub no_member : (m n : Member) (name : List ℕ) → name ≡ member_name m → member_name m ≢ member_name n → name ≢ member_name n
no_member m n name e apart f = apart (sym e ∙ f)

module _ (k : Kind) (c : Option Coding) (depth : ℕ) (text name : List ℕ) (d : Data) (ms : Members) (p : ColumnParts) (h : HoldsParts k c depth text ms p) where
  same_count : name ≢ member_name member.Count → IsCountMember (get_member (member_name member.Count) (put name d ms)) p.count
  same_count apart = subst (λ o. IsCountMember o p.count) (sym (there member.Count name d ms apart)) h.count

  same_validity : name ≢ member_name member.Validity → IsValidity (get_member (member_name member.Validity) (put name d ms)) p.validity
  same_validity apart = subst (λ o. IsValidity o p.validity) (sym (there member.Validity name d ms apart)) h.validity

  same_place : name ≢ member_name member.Data → StandsOn depth text (get_member (member_name member.Data) (put name d ms)) p.place
  same_place apart = subst (λ o. StandsOn depth text o p.place) (sym (there member.Data name d ms apart)) h.place

  same_values : name ≢ member_name member.Data → IsValues k c p.validity (get_member (member_name member.Data) (put name d ms)) p.values
  same_values apart = subst (λ o. IsValues k c p.validity o p.values) (sym (there member.Data name d ms apart)) h.values

  pub count_taken : (n : ℕ) → name ≡ member_name member.Count → count_of d ≡ Some n → HoldsParts k c depth text (put name d ms) (record p { count = Some n })
  count_taken n e is =
      let no_data = no_member member.Count member.Data name e count_apart_data in
      record {
        count = ap (option_and_then count_of) (here member.Count name d ms e) ∙ is;
        validity = same_validity (no_member member.Count member.Validity name e count_apart_validity);
        place = same_place no_data;
        values = same_values no_data;
      }

  pub validity_taken : (bits : Option (List Bool)) → name ≡ member_name member.Validity → IsValidity (Some d) bits → HoldsParts k c depth text (put name d ms) (record p { validity = bits; values = None })
  validity_taken bits e is = record {
    count = same_count (λ f. count_apart_validity (sym f ∙ e));
    validity = subst (λ o. IsValidity o bits) (sym (here member.Validity name d ms e)) is;
    place = same_place (no_member member.Validity member.Data name e validity_apart_data);
    values = tt;
  }

  pub data_taken : (s : Stretch) (values : Option Seen) → name ≡ member_name member.Data → StandsOn depth text (Some d) (Some s)
      → IsValues k c p.validity (Some d) values → HoldsParts k c depth text (put name d ms) (record p { place = Some s; values = values })
  data_taken s values e stands is =
      let found = here member.Data name d ms e in
      record {
        count = same_count (λ f. count_apart_data (sym f ∙ e));
        validity = same_validity (λ f. validity_apart_data (sym f ∙ e));
        place = subst (λ o. StandsOn depth text o (Some s)) (sym found) stands;
        values = subst (λ o. IsValues k c p.validity o values) (sym found) is;
      }

  pub passed : name ≢ member_name member.Count → name ≢ member_name member.Validity → name ≢ member_name member.Data → HoldsParts k c depth text (put name d ms) p
  passed no_count no_validity no_data = record { count = same_count no_count; validity = same_validity no_validity; place = same_place no_data; values = same_values no_data }

pub counted : (n : Num) (m : ℕ) → as_u64 n ≡ Some m → m < 2 ^ 31 → count_of (number n) ≡ Some m
counted n m e small =
    let is : nat_lt m (2 ^ 31) ≡ true = grind (arith, nat_tests) in
    ap (option_and_then (below (2 ^ 31))) e ∙ ap (λ b. cond b (Some m) None) is

-- ---- the values of DATA at their place

pub placed_values : (k : Kind) (c : Option Coding) (depth : ℕ) (text : List ℕ) (validity : Option (List Bool)) (found : Option Data) (s : Stretch) (ds : List Data) (a : Seen) → StandsOn depth text found (Some s)
    → SpellsAt depth (drop s.start text) (array (before ds no_items)) (drop s.end text) → HoldsSlots k c validity ds a → IsValues k c validity found (Some a)
placed_values k c depth text validity found s ds a stands spelled h =
    let same = same_value depth (drop s.start text) (drop s.end text) (drop s.end text) stands.0 (array (before ds no_items)) stands.2 spelled stands.3 stands.3 in
    (ds, stands.1 ∙ ap Some same, h)

-- ---- the column

plain_column : (k : Kind) (n : ℕ) (d : Data) (items : List Item) → is_slotwise k ≡ true → ReadsPlain (spelling_of k) n d items → ReadsColumn k n d items
plain_column (int t) n d items plain h = h
plain_column boolean n d items plain h = h
plain_column (texts w) n d items plain h = h
plain_column (lists w k) n d items plain h = absurd cc
plain_column dict n d items plain h = absurd cc

slotted_column : (k : Kind) (c : Option Coding) (n : ℕ) (d : Data) (items : List Item) → is_slotted k c ≡ true → ReadsPlain (spelling_at k c) n d items → ReadsTop k c n d items
slotted_column k None n d items slotted h = plain_column k n d items slotted h
slotted_column k (Some c) n d items slotted h = h

-- the flags of the member, which are of n slots, and what they say
pub flags_in : (n : ℕ) (found : Option Data) (validity : Option (List Bool)) → IsValidity found validity → IfSome validity (λ bits. length bits ≡ n)
    → (flags : Option Items) × (flags_of found ≡ Some flags) × HasFlags n flags × ((i : ℕ) → flagged_at flags i ≡ valid_of validity i)
flags_in n found None is whole = (None, is, tt, λ i. refl)
flags_in n found (Some bits) is whole = (Some (before is.0 no_items), is.1, items_len-before is.0 ∙ (flags_len is.0 bits is.2 ∙ whole), λ i. flag_at is.0 bits i is.2)

pub column_held : (k : Kind) (c : Option Coding) (depth : ℕ) (text : List ℕ) (ms : Members) (p : ColumnParts) (given a : Seen) → HoldsParts k c depth text ms p → IsValues k c p.validity (get_member (member_name member.Data) ms) (Some given)
    → a ≡ given → p.count ≡ Some (length a.items) → IfSome p.validity (λ bits. length bits ≡ length a.items) → HoldsTop k c (length a.items) (object ms) a
column_held k c depth text ms p given a h found same count whole =
    let values = subst (λ b. IsValues k c p.validity (get_member (member_name member.Data) ms) (Some b)) (sym same) found in
    let n = length a.items in
    let ds = values.0 in
    let slots = values.2 in
    let counted : option_and_then count_of (get_member (member_name member.Count) ms) ≡ Some n = subst (IsCountMember (get_member (member_name member.Count) ms)) count h.count in
    let flags = flags_in n (get_member (member_name member.Validity) ms) p.validity h.validity whole in
    let len : length ds ≡ n = sym slots.slots.len in
    let read : ReadsSlots (spelling_at k c) flags.0 (before ds no_items) n a.items = subst (λ m. ReadsSlots (spelling_at k c) flags.0 (before ds no_items) m a.items) len (reads_slots (spelling_at k c) flags.0 p.validity ds a.items flags.3 slots.slots) in
    let slotted : HasSlots n (object ms) flags.0 (before ds no_items) =
    record { count = counted; validity = flags.1; flagged = flags.2; listed = ap (option_and_then as_array) values.1; whole = items_len-before ds ∙ len } in
    record {
      kind = slots.kind;
      len = refl;
      reads = slotted_column k c n (object ms) a.items slots.slotted (record { flags = flags.0; values = before ds no_items; given = slotted; slots = read; fits = slots.slots.fits });
    }

-- the same column by another name of the field and of the depth
pub column_known : (f g : EncodedField) (depth e : ℕ) (text : List ℕ) (ms : Members) (p : ColumnParts) (a : Seen) → g ≡ f → e ≡ depth
    → (HoldsParts (kind_in g) (coding_in g) e text ms p → HoldsTop (kind_in g) (coding_in g) (length a.items) (object ms) a)
    → HoldsParts (kind_in f) (coding_in f) depth text ms p → HoldsTop (kind_in f) (coding_in f) (length a.items) (object ms) a
column_known f g depth e text ms p a field same made h =
    let deep = subst (λ n. HoldsParts (kind_in f) (coding_in f) n text ms p) (sym same) h in
    subst (λ x. HoldsTop (kind_in x) (coding_in x) (length a.items) (object ms) a) field (made (subst (λ x. HoldsParts (kind_in x) (coding_in x) e text ms p) (sym field) deep))

-- a column without a coding
pub top_plain : (k : Kind) (n : ℕ) (d : Data) (s : Seen) → HoldsTop k None n d s → HoldsColumn k n d s
top_plain k n d s h = record { kind = h.kind; len = h.len; reads = h.reads }

pub plain_top : (k : Kind) (c : Option Coding) (n : ℕ) (d : Data) (s : Seen) → c ≡ None → HoldsColumn k n d s → HoldsTop k c n d s
plain_top k c n d s none h = subst (λ o. HoldsTop k o n d s) (sym none) record { kind = h.kind; len = h.len; reads = h.reads }
