-- The slots of a column added one after another.
use Rattle.std.proofs.Common.{◌≡◌, ◌∙◌, ℕ, ◌+◌, ℤ, Bool, List, [], ◌∷◌, ◌++◌, Option, Some, None, true, false, option_map, refl, sym, ap, subst, arith, length-append, below_more}
use Rattle.std.specs.List.{slice_get}
use Rattle.arrays.specs.Prelude.{IntType, Item, OffsetWidth, text_bytes}
use Rattle.arrays.specs.OffsetSize as offsets
use Rattle.arrays.specs.Item as column
use Rattle.json_base.specs.Prelude.{Data, IsFault, Items, Tells, as_str, flag_of, get_item, integer_of}
use Rattle.arrays.specs.LayoutFaults as layout
use Rattle.json_base.specs.declared.path.Member.TheVariants as member
use Rattle.json_base.specs.declared.path.Step.TheVariants as step
use Rattle.json_base.specs.declared.fault.JsonFault.{JsonFault}
use Rattle.json_base.specs.declared.fault.JsonFaultKind.TheVariants.{WrongMember, BadNumber, Layout}
use Rattle.json_read.specs.declared.column.Unfit.{Unfit}
use Rattle.json_read.specs.declared.column.Unfit.TheVariants as unfit
use Rattle.json_read.specs.Prelude.{HasNextItem, IsSlotFault, IsUnfit, ReadsSlots, SlotsFault, Spelling, flagged_at, has_no_room, no_flag, no_value, numbers, refused, slot_of, spells_nothing, texts, too_long, truths}
use Rattle.json_base.proofs.JsonTells.{tells_at, tells_wants}
use Rattle.json_base.proofs.JsonItems.{slice_get-front, slice_get-last}
use Rattle.json_read.proofs.JsonColumnFaults.{at_index}

-- ---- a value is taken

pub number_taken : (t : IntType) (old new : List Item) (d : Data) (z : ℤ) → Some z ≡ integer_of t d → new ≡ old ++ column.int z ∷ [] → HasNextItem (numbers t) old d new
number_taken t old new d z is grown = record { item = column.int z; spelled = ap (option_map column.int) (sym is); grown = grown; fits = refl }

pub truth_taken : (old new : List Item) (d : Data) (b : Bool) → Some b ≡ flag_of d → new ≡ old ++ column.boolean b ∷ [] → HasNextItem truths old d new
truth_taken old new d b is grown = record { item = column.boolean b; spelled = ap (option_map column.boolean) (sym is); grown = grown; fits = refl }

pub text_taken : (w : OffsetWidth) (old new : List Item) (d : Data) (t : List ℕ) → as_str d ≡ Some t → new ≡ old ++ column.text t ∷ [] → offsets.is_full w (text_bytes new) ≡ false
    → HasNextItem (texts w) old d new
text_taken w old new d t is grown fits = record { item = column.text t; spelled = ap (option_map column.text) is; grown = grown; fits = fits }

pub no_number : (t : IntType) (old : List Item) (d : Data) → integer_of t d ≡ None → IsUnfit (numbers t) old d (unfit.Unspelled BadNumber)
no_number t old d none = spells_nothing (ap (option_map column.int) none)

pub no_truth : (old : List Item) (d : Data) → flag_of d ≡ None → IsUnfit truths old d (unfit.Unspelled WrongMember)
no_truth old d none = spells_nothing (ap (option_map column.boolean) none)

pub no_text : (w : OffsetWidth) (old : List Item) (d : Data) → as_str d ≡ None → IsUnfit (texts w) old d (unfit.Unspelled WrongMember)
no_text w old d none = spells_nothing (ap (option_map column.text) none)

pub no_room : (w : OffsetWidth) (old : List Item) (d : Data) (t : List ℕ) → as_str d ≡ Some t → offsets.is_full w (text_bytes (old ++ column.text t ∷ [])) ≡ true
    → IsUnfit (texts w) old d unfit.TooLong
no_room w old d t is past = has_no_room (column.text t) (ap (option_map column.text) is) past

pub number_refused : (t : IntType) (old : List Item) (d : Data) (z : ℤ) → Some z ≡ integer_of t d → IsUnfit (numbers t) old d unfit.NoMemory
number_refused t old d z is = refused (column.int z) (ap (option_map column.int) (sym is))

pub truth_refused : (old : List Item) (d : Data) (b : Bool) → Some b ≡ flag_of d → IsUnfit truths old d unfit.NoMemory
truth_refused old d b is = refused (column.boolean b) (ap (option_map column.boolean) (sym is))

pub text_refused : (w : OffsetWidth) (old : List Item) (d : Data) (t : List ℕ) → as_str d ≡ Some t → IsUnfit (texts w) old d unfit.NoMemory
text_refused w old d t is = refused (column.text t) (ap (option_map column.text) is)

pub ruleset taken = (number_taken, truth_taken, text_taken, no_number, no_truth, no_text, no_room, number_refused, truth_refused, text_refused)

-- ---- a slot is added

pub slots_pushed : (s : Spelling) (flags : Option Items) (values : Items) (n : ℕ) (items : List Item) (x : Item) → ReadsSlots s flags values n items
    → slot_of s (flagged_at flags n) (get_item n values) ≡ Some x → ReadsSlots s flags values (n + 1) (items ++ x ∷ [])
slots_pushed s flags values n items x h at = record {
  len = omega (arith, length-append items (x ∷ []), h.len);
  each = below_more (λ k. slice_get (items ++ x ∷ []) k ≡ slot_of s (flagged_at flags k) (get_item k values)) n
      (λ k within. slice_get-front items (x ∷ []) k (omega (arith, h.len)) ∙ h.each k within)
      (ap (slice_get (items ++ x ∷ [])) (sym h.len) ∙ (slice_get-last items x ∙ sym at));
}

pub valid_slot : (s : Spelling) (flags : Option Items) (values : Items) (i : ℕ) (d : Data) (x : Item) → flagged_at flags i ≡ Some true → get_item i values ≡ Some d → s.spelled d ≡ Some x
    → slot_of s (flagged_at flags i) (get_item i values) ≡ Some x
valid_slot s flags values i d x valid found is = rw (valid, found) is

pub null_slot : (s : Spelling) (flags : Option Items) (values : Items) (i : ℕ) (d : Data) → flagged_at flags i ≡ Some false → get_item i values ≡ Some d
    → slot_of s (flagged_at flags i) (get_item i values) ≡ Some column.null
null_slot s flags values i d null found = rw (null, found) refl

pub value_pushed : (s : Spelling) (flags : Option Items) (values : Items) (i : ℕ) (old new : List Item) (d : Data) → ReadsSlots s flags values i old → flagged_at flags i ≡ Some true
    → get_item i values ≡ Some d → HasNextItem s old d new → ReadsSlots s flags values (i + 1) new
value_pushed s flags values i old new d h valid found added =
    subst (λ xs. ReadsSlots s flags values (i + 1) xs) (sym added.grown) (slots_pushed s flags values i old added.item h (valid_slot s flags values i d added.item valid found added.spelled))

pub null_pushed : (s : Spelling) (flags : Option Items) (values : Items) (i : ℕ) (old new : List Item) (d : Data) → ReadsSlots s flags values i old → flagged_at flags i ≡ Some false
    → get_item i values ≡ Some d → new ≡ old ++ column.null ∷ [] → ReadsSlots s flags values (i + 1) new
null_pushed s flags values i old new d h null found grown =
    subst (λ xs. ReadsSlots s flags values (i + 1) xs) (sym grown) (slots_pushed s flags values i old column.null h (null_slot s flags values i d null found))

-- ---- a slot is refused

pub tells_no_flag : (s : Spelling) (flags : Option Items) (values : Items) (i : ℕ) (d : Data) (f : JsonFault) → get_item i values ≡ Some d → flagged_at flags i ≡ None
    → IsFault WrongMember (step.Member member.Validity ∷ step.Item i ∷ []) f → Tells (SlotsFault s flags values) f
tells_no_flag s flags values i d f found none is = tells_at (SlotsFault s flags values) WrongMember (step.Member member.Validity ∷ step.Item i ∷ []) f (no_flag i d found none) is

pub tells_unfit : (s : Spelling) (flags : Option Items) (values : Items) (i : ℕ) (items : List Item) (d : Data) (u : Unfit) (f : JsonFault) → ReadsSlots s flags values i items
    → flagged_at flags i ≡ Some true → get_item i values ≡ Some d → IsUnfit s items d u → IsSlotFault i u f → Tells (SlotsFault s flags values) f
tells_unfit s flags values i items d u f h valid found (spells_nothing none) reported =
    tells_at (SlotsFault s flags values) s.bad (step.Member member.Data ∷ step.Item i ∷ []) f (no_value i d found valid none) reported
tells_unfit s flags values i items d u f h valid found (has_no_room x is full) reported =
    tells_at (SlotsFault s flags values) (Layout layout.TooLong) [] f
    (too_long (i + 1) (items ++ x ∷ []) (slots_pushed s flags values i items x h (valid_slot s flags values i d x valid found is)) full) reported
tells_unfit s flags values i items d u f h valid found (refused x is) reported = tells_wants (SlotsFault s flags values) f reported

-- ---- none yet

pub no_slots_yet : (s : Spelling) (flags : Option Items) (values : Items) (items : List Item) → items ≡ [] → ReadsSlots s flags values 0 items
no_slots_yet s flags values items none = subst (λ xs. ReadsSlots s flags values 0 xs) (sym none) record { len = refl; each = λ i below. absurd (omega (arith, below)) }

pub ruleset slots_faults = (tells_wants)

pub ruleset flags_read = (at_index)
