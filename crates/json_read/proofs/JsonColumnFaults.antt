-- Why a fault of a column stands.
use Rattle.std.proofs.Common.{◌≡◌, ◌≢◌, ◌∙◌, ℕ, ◌<◌, false, get_or, length, List, [], ◌∷◌, Option, Some, None, option_and_then, option_map, IfSome, sym, ap, subst}
use Rattle.json_base.specs.Prelude.{Data, IsFault, IsUnder, Items, ListFault, MemberFault, Tells, Unlike, Value, as_array, as_null, as_object, count_of, get_item, items_view, length_differs, member_of, no_array, view, wrong}
use Rattle.json_base.proofs.Views.{items_len-items_view, get_item_within}
use Rattle.json_base.specs.declared.path.Member.{Member}
use Rattle.json_base.specs.declared.path.Member.TheVariants as member
use Rattle.json_base.specs.declared.path.Step.{Step}
use Rattle.json_base.specs.declared.path.Step.TheVariants as step
use Rattle.json_base.specs.declared.fault.JsonFault.{JsonFault}
use Rattle.json_base.specs.declared.fault.JsonFaultKind.{JsonFaultKind}
use Rattle.json_base.specs.declared.fault.JsonFaultKind.TheVariants.{WrongMember, CountDiffers}
use Rattle.arrays.specs.Kind as kind
use Rattle.arrays.specs.Prelude.{IntType, Kind, OffsetWidth, Seen}
use Rattle.json_read.specs.declared.column.Slots.{Slots}
use Rattle.json_read.specs.Prelude.{ColumnFault, CountFault, FlagsFault, HasFlags, HasSlots, HoldsColumn, NoSlots, ReadsColumn, ReadsPlain, ReadsSlots, SlotsFault, Spelling, bad_count, bad_flags, bad_slots, bad_values, flags_in, flags_of, no_column_object, no_count, no_flags, no_slots, numbers, other_count, overflows, texts, truths, values_in}
use Rattle.json_base.proofs.JsonTells.{tells_at, tells_as, tells_under, tells_absent, tells_wants}

pub tells_count : (n : ℕ) (d : Data) (f : JsonFault) → Tells (MemberFault member.Count (Unlike count_of) d) f → Tells (CountFault n d) f
tells_count n d f t = tells_as (MemberFault member.Count (Unlike count_of) d) (CountFault n d) f (λ k p h. no_count k p h) t

pub tells_other_count : (n m : ℕ) (d : Data) (f : JsonFault) → option_and_then count_of (member_of member.Count d) ≡ Some m → m ≢ n → IsFault CountDiffers (step.Member member.Count ∷ []) f
    → Tells (CountFault n d) f
tells_other_count n m d f at other is = tells_at (CountFault n d) CountDiffers (step.Member member.Count ∷ []) f (other_count m at other) is

pub ruleset count_faults = (tells_count, tells_other_count)

pub tells_no_array : (n : ℕ) (d : Data) (f : JsonFault) → as_array d ≡ None → IsFault WrongMember [] f → Tells (ListFault n d) f
tells_no_array n d f h is = tells_at (ListFault n d) WrongMember [] f (no_array h) is

pub tells_length : (n : ℕ) (d : Data) (f : JsonFault) (vs : List Value) → as_array d ≡ Some (items_view vs) → length vs ≢ n → IsFault CountDiffers [] f → Tells (ListFault n d) f
tells_length n d f vs at other is = tells_at (ListFault n d) CountDiffers [] f (length_differs (items_view vs) at (λ e. other (sym (items_len-items_view vs) ∙ e))) is

pub tells_wrong : (m : Member) (W : Data → JsonFaultKind → List Step → Type 0) (d e : Data) (f g : JsonFault) → Tells (W e) f → member_of m d ≡ Some e → IsUnder (step.Member m) f g
    → Tells (MemberFault m W d) g
tells_wrong m W d e f g t at up = tells_under (W e) (MemberFault m W d) (step.Member m) f g (λ k p h. wrong e k p at h) t up

pub tells_list : (m : Member) (n : ℕ) (d e : Data) (f g : JsonFault) → Tells (ListFault n e) f → member_of m d ≡ Some e → IsUnder (step.Member m) f g → Tells (MemberFault m (ListFault n) d) g
tells_list m n d e f g t at up = tells_wrong m (ListFault n) d e f g t at up

pub ruleset list_faults = (tells_no_array, tells_length, tells_absent, tells_list)

pub tells_flags : (n : ℕ) (d e : Data) (f g : JsonFault) → Tells (ListFault n e) f → member_of member.Validity d ≡ Some e → as_null e ≡ None → IsUnder (step.Member member.Validity) f g
    → Tells (FlagsFault n d) g
tells_flags n d e f g t at there up = tells_under (ListFault n e) (FlagsFault n d) (step.Member member.Validity) f g (λ k p h. no_flags e k p at there h) t up

pub ruleset flags_faults = (tells_flags)

-- flags that are there are as many as the slots
pub has_flags : {R : Type 0} (now : R → List Value) (n : ℕ) (flags : Option R) → IfSome flags (λ fs. length (now fs) ≡ n) → HasFlags n (option_map (λ fs. items_view (now fs)) flags)
has_flags now n None h = tt
has_flags now n (Some fs) h = items_len-items_view (now fs) ∙ h

-- the value that a loop reads
pub at_index : (vs : List Value) (i : ℕ) (v : Value) → i < length vs → v ≡ get_or vs i v → get_item i (items_view vs) ≡ Some (view v)
at_index vs i v within is = sym (get_item_within vs i v within) ∙ ap (λ w. Some (view w)) (sym is)

-- ---- no slots

pub slots_object : (n : ℕ) (d : Data) (f : JsonFault) → Tells (Unlike as_object d) f → Tells (NoSlots n d) f
slots_object n d f h = tells_as (Unlike as_object d) (NoSlots n d) f (λ k p w. no_column_object k p w) h

pub slots_count : (n : ℕ) (d : Data) (f : JsonFault) → Tells (CountFault n d) f → Tells (NoSlots n d) f
slots_count n d f h = tells_as (CountFault n d) (NoSlots n d) f (λ k p w. bad_count k p w) h

pub slots_flags : (n : ℕ) (d : Data) (f : JsonFault) → Tells (FlagsFault n d) f → Tells (NoSlots n d) f
slots_flags n d f h = tells_as (FlagsFault n d) (NoSlots n d) f (λ k p w. bad_flags k p w) h

pub slots_values : (n : ℕ) (d : Data) (f : JsonFault) → Tells (MemberFault member.Data (ListFault n) d) f → Tells (NoSlots n d) f
slots_values n d f h = tells_as (MemberFault member.Data (ListFault n) d) (NoSlots n d) f (λ k p w. bad_values k p w) h

-- the flags and values that were found
pub has_slots : (n : ℕ) (d : Data) (s : Slots) → option_and_then count_of (member_of member.Count d) ≡ Some n → flags_of (member_of member.Validity d) ≡ Some (flags_in s)
    → IfSome s.flags (λ fs. length fs.now ≡ n) → option_and_then as_array (member_of member.Data d) ≡ Some (values_in s) → length s.values.now ≡ n → HasSlots n d (flags_in s) (values_in s)
has_slots n d s count validity flagged listed whole = record {
  count = count;
  validity = validity;
  flagged = has_flags (λ fs. fs.now) n s.flags flagged;
  listed = listed;
  whole = items_len-items_view s.values.now ∙ whole;
}

pub ruleset no_slots_faults = (slots_object, slots_count, slots_flags, slots_values, has_slots)

-- ---- columns

pub column_no_slots : (s : Spelling) (n : ℕ) (d : Data) (f : JsonFault) → Tells (NoSlots n d) f → Tells (ColumnFault s n d) f
column_no_slots s n d f h = tells_as (NoSlots n d) (ColumnFault s n d) f (λ k p w. no_slots k p w) h

pub column_slots : (s : Spelling) (n : ℕ) (d : Data) (f : JsonFault) (flags : Option Items) (values : Items) → Tells (SlotsFault s flags values) f → HasSlots n d flags values
    → Tells (ColumnFault s n d) f
column_slots s n d f flags values h given = tells_as (SlotsFault s flags values) (ColumnFault s n d) f (λ k p w. bad_slots flags values k p given w) h

holds : (k : Kind) (s : Spelling) (n : ℕ) (d : Data) (flags : Option Items) (vs : List Value) (a : Seen) → a.kind ≡ k → HasSlots n d flags (items_view vs)
    → ReadsSlots s flags (items_view vs) (length vs) a.items → length vs ≡ n → overflows s a.items ≡ false → (ReadsPlain s n d a.items → ReadsColumn k n d a.items) → HoldsColumn k n d a
holds k s n d flags vs a same given slots whole fits reads =
    let all = subst (λ m. ReadsSlots s flags (items_view vs) m a.items) whole slots in
    record { kind = same; len = all.len; reads = reads record { flags = flags; values = items_view vs; given = given; slots = all; fits = fits } }

pub holds_numbers : (t : IntType) (n : ℕ) (d : Data) (flags : Option Items) (vs : List Value) (a : Seen) → a.kind ≡ kind.int t → HasSlots n d flags (items_view vs)
    → ReadsSlots (numbers t) flags (items_view vs) (length vs) a.items → length vs ≡ n → overflows (numbers t) a.items ≡ false → HoldsColumn (kind.int t) n d a
holds_numbers t n d flags vs a same given slots whole fits = holds (kind.int t) (numbers t) n d flags vs a same given slots whole fits (λ r. r)

pub holds_truths : (n : ℕ) (d : Data) (flags : Option Items) (vs : List Value) (a : Seen) → a.kind ≡ kind.boolean → HasSlots n d flags (items_view vs)
    → ReadsSlots truths flags (items_view vs) (length vs) a.items → length vs ≡ n → overflows truths a.items ≡ false → HoldsColumn kind.boolean n d a
holds_truths n d flags vs a same given slots whole fits = holds kind.boolean truths n d flags vs a same given slots whole fits (λ r. r)

pub holds_texts : (w : OffsetWidth) (n : ℕ) (d : Data) (flags : Option Items) (vs : List Value) (a : Seen) → a.kind ≡ kind.texts w → HasSlots n d flags (items_view vs)
    → ReadsSlots (texts w) flags (items_view vs) (length vs) a.items → length vs ≡ n → overflows (texts w) a.items ≡ false → HoldsColumn (kind.texts w) n d a
holds_texts w n d flags vs a same given slots whole fits = holds (kind.texts w) (texts w) n d flags vs a same given slots whole fits (λ r. r)

pub ruleset column_faults = (column_no_slots, column_slots, holds_numbers, holds_truths, holds_texts, tells_wants)
