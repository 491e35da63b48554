-- What a column of indices is, and why its faults stand.
use Rattle.std.proofs.Common.{◌≡◌, ◌∙◌, ℕ, ◌+◌, ◌≤◌, ℤ, pos, negsuc, true, false, List, [], ◌∷◌, ◌++◌, length, get_or, map, Option, Some, None, option_and_then, refl, sym, ap, subst, arith}
use Rattle.std.specs.List.{All}
use Rattle.std.proofs.lemmas.Bool.Decides.{nat_tests}
use Rattle.std.proofs.lemmas.Int.{ints}
use Rattle.std.proofs.lemmas.List.{length-map, map-append}
use Rattle.std.proofs.lemmas.List.Elements.{All-push}
use Rattle.std.proofs.lemmas.Option.{slice_get-get_or, slice_get_past}
use Rattle.arrays.specs.Prelude.{Column, IntType, IsOfType, Item, int, int32, is_code, looked_up, natural, null}
use Rattle.arrays.specs.LayoutFaults as layout
use Rattle.json_base.specs.Prelude.{Data, IsFault, Items, Tells, get_item, integer_of}
use Rattle.json_base.specs.declared.path.Member.TheVariants as member
use Rattle.json_base.specs.declared.path.Step.TheVariants as step
use Rattle.json_base.specs.declared.fault.JsonFault.{JsonFault}
use Rattle.json_base.specs.declared.fault.JsonFaultKind.TheVariants.{WrongMember, BadNumber, Layout}
use Rattle.json_read.specs.Prelude.{CodesFault, HasSlots, HoldsCodes, IndicesFault, NoSlots, ReadsCodes, ReadsSlots, bad_codes, entry_at, flagged_at, indices, no_code_slots, no_index, no_index_flag, past_dictionary}
use Rattle.json_base.proofs.JsonTells.{tells_at, tells_as, tells_wants}
use Rattle.json_read.proofs.JsonSlots.{no_slots_yet, slots_pushed, valid_slot, null_slot}

-- ---- entries

-- a code names an entry
entry_named : (entries : List Item) (z : ℤ) → is_code (length entries) (int z) ≡ true → entry_at entries z ≡ Some (get_or entries (natural z) null)
entry_named entries (pos n) h = slice_get-get_or entries n null (grind (arith, nat_tests))
entry_named entries (negsuc n) h = absurd cc

-- another number doesn't
no_entry : (entries : List Item) (z : ℤ) → is_code (length entries) (int z) ≡ false → entry_at entries z ≡ None
no_entry entries (pos n) h = slice_get_past entries n (grind (arith, nat_tests))
no_entry entries (negsuc n) h = refl

-- codes of an array are numbers of 32 bits
pub code_fits : (n : ℕ) (z : ℤ) → is_code n (int z) ≡ true → n ≤ 2147483647 → IsOfType int32 z
code_fits n (pos m) h few = grind (arith, nat_tests, ints)
code_fits n (negsuc m) h few = absurd cc

-- ---- a slot is added

shown_more : (entries xs : List Item) (x : Item) → map (looked_up entries) (xs ++ x ∷ []) ≡ map (looked_up entries) xs ++ looked_up entries x ∷ []
shown_more entries xs x = map-append (looked_up entries) xs (x ∷ [])

code_added : (t : IntType) (entries : List Item) (flags : Option Items) (values : Items) (i : ℕ) (old new : Column) (x : Item) → HoldsCodes t entries flags values i old → new.ty ≡ old.ty
    → new.items ≡ old.items ++ x ∷ [] → is_code (length entries) x ≡ true → ReadsSlots (indices t entries) flags values (i + 1) (map (looked_up entries) old.items ++ looked_up entries x ∷ [])
    → HoldsCodes t entries flags values (i + 1) new
code_added t entries flags values i old new x h kept grown code slots = record {
  ty = kept ∙ h.ty;
  codes = subst (All (λ y. is_code (length entries) y ≡ true)) (sym grown) (All-push (λ y. is_code (length entries) y ≡ true) old.items x h.codes code);
  slots = subst (λ (xs : List Item). ReadsSlots (indices t entries) flags values (i + 1) xs) (sym (ap (map (looked_up entries)) grown ∙ shown_more entries old.items x)) slots;
}

pub index_added : (t : IntType) (entries : List Item) (flags : Option Items) (values : Items) (i : ℕ) (old new : Column) (d : Data) (z : ℤ) → HoldsCodes t entries flags values i old
    → flagged_at flags i ≡ Some true → get_item i values ≡ Some d → integer_of t d ≡ Some z → is_code (length entries) (int z) ≡ true → new.ty ≡ old.ty → new.items ≡ old.items ++ int z ∷ []
    → HoldsCodes t entries flags values (i + 1) new
index_added t entries flags values i old new d z h valid found number code kept grown =
    code_added t entries flags values i old new (int z) h kept grown code
    (slots_pushed (indices t entries) flags values i (map (looked_up entries) old.items) (get_or entries (natural z) null) h.slots
    (valid_slot (indices t entries) flags values i d (get_or entries (natural z) null) valid found (ap (option_and_then (entry_at entries)) number ∙ entry_named entries z code)))

pub null_added : (t : IntType) (entries : List Item) (flags : Option Items) (values : Items) (i : ℕ) (old new : Column) (d : Data) → HoldsCodes t entries flags values i old
    → flagged_at flags i ≡ Some false → get_item i values ≡ Some d → new.ty ≡ old.ty → new.items ≡ old.items ++ null ∷ [] → HoldsCodes t entries flags values (i + 1) new
null_added t entries flags values i old new d h invalid found kept grown =
    code_added t entries flags values i old new null h kept grown refl
    (slots_pushed (indices t entries) flags values i (map (looked_up entries) old.items) null h.slots (null_slot (indices t entries) flags values i d invalid found))

pub codes_count : (t : IntType) (entries : List Item) (flags : Option Items) (values : Items) (i : ℕ) (c : Column) → HoldsCodes t entries flags values i c → length c.items ≡ i
codes_count t entries flags values i c h = sym (length-map c.items (looked_up entries)) ∙ h.slots.len

pub no_codes_yet : (t : IntType) (entries : List Item) (flags : Option Items) (values : Items) (c : Column) → c.ty ≡ int32 → c.items ≡ [] → HoldsCodes t entries flags values 0 c
no_codes_yet t entries flags values c ty none = record {
  ty = ty;
  codes = subst (All (λ y. is_code (length entries) y ≡ true)) (sym none) (λ i x within. absurd (omega (arith, within)));
  slots = no_slots_yet (indices t entries) flags values (map (looked_up entries) c.items) (ap (map (looked_up entries)) none);
}

-- ---- a slot is refused

pub tells_no_index_flag : (t : IntType) (entries : List Item) (flags : Option Items) (values : Items) (i : ℕ) (d : Data) (f : JsonFault) → get_item i values ≡ Some d → flagged_at flags i ≡ None
    → IsFault WrongMember (step.Member member.Validity ∷ step.Item i ∷ []) f → Tells (IndicesFault t entries flags values) f
tells_no_index_flag t entries flags values i d f found none is =
    tells_at (IndicesFault t entries flags values) WrongMember (step.Member member.Validity ∷ step.Item i ∷ []) f (no_index_flag i d found none) is

pub tells_no_index : (t : IntType) (entries : List Item) (flags : Option Items) (values : Items) (i : ℕ) (d : Data) (f : JsonFault) → get_item i values ≡ Some d → flagged_at flags i ≡ Some true
    → integer_of t d ≡ None → IsFault BadNumber (step.Member member.Data ∷ step.Item i ∷ []) f → Tells (IndicesFault t entries flags values) f
tells_no_index t entries flags values i d f found valid none is =
    tells_at (IndicesFault t entries flags values) BadNumber (step.Member member.Data ∷ step.Item i ∷ []) f (no_index i d found valid none) is

pub tells_past : (t : IntType) (entries : List Item) (flags : Option Items) (values : Items) (i : ℕ) (c : Column) (d : Data) (z : ℤ) (f : JsonFault) → HoldsCodes t entries flags values i c
    → get_item i values ≡ Some d → flagged_at flags i ≡ Some true → integer_of t d ≡ Some z → is_code (length entries) (int z) ≡ false → IsFault (Layout (layout.IndexPastDictionary i)) [] f
    → Tells (IndicesFault t entries flags values) f
tells_past t entries flags values i c d z f h found valid number past is =
    tells_at (IndicesFault t entries flags values) (Layout (layout.IndexPastDictionary i)) [] f
    (past_dictionary i d z (map (looked_up entries) c.items) h.slots found valid number (no_entry entries z past)) is

pub ruleset codes_faults = (code_fits, codes_count, no_codes_yet, tells_wants)

-- ---- a column

pub codes_no_slots : (t : IntType) (entries : List Item) (n : ℕ) (d : Data) (f : JsonFault) → Tells (NoSlots n d) f → Tells (CodesFault t entries n d) f
codes_no_slots t entries n d f h = tells_as (NoSlots n d) (CodesFault t entries n d) f (λ k p w. no_code_slots k p w) h

pub codes_slots : (t : IntType) (entries : List Item) (n : ℕ) (d : Data) (f : JsonFault) (flags : Option Items) (values : Items) → Tells (IndicesFault t entries flags values) f
    → HasSlots n d flags values → Tells (CodesFault t entries n d) f
codes_slots t entries n d f flags values h given = tells_as (IndicesFault t entries flags values) (CodesFault t entries n d) f (λ k p w. bad_codes flags values k p given w) h

pub codes_read : (t : IntType) (entries : List Item) (n m : ℕ) (d : Data) (flags : Option Items) (values : Items) (c : Column) (items : List Item) → HoldsCodes t entries flags values m c
    → HasSlots n d flags values → m ≡ n → items ≡ map (looked_up entries) c.items → ReadsCodes t entries n d items
codes_read t entries n m d flags values c items h given whole shown =
    let slots = subst (λ (xs : List Item). ReadsSlots (indices t entries) flags values n xs) (sym shown) (subst (λ k. ReadsSlots (indices t entries) flags values k (map (looked_up entries) c.items)) whole h.slots) in
    record { flags = flags; values = values; given = given; slots = slots; fits = refl }

pub ruleset column_faults = (codes_no_slots, codes_slots, tells_wants)
