-- Slots one after another.
use Rattle.std.proofs.Common.{◌≡◌, ◌∙◌, ℕ, zero, suc, ◌+◌, ◌<◌, List, [], ◌∷◌, ◌++◌, length, Bool, false, Option, Some, None, refl, sym, ap, ap₂, subst, arith, length-append, below_more}
use Rattle.std.specs.List.{slice_get}
use Rattle.arrays.specs.Prelude.{Item, Narrow, OffsetWidth, Wide}
use Rattle.json_read.specs.Prelude.{Data, Items, ReadsSlots, Spelling, flagged_at, get_item, is_past_offsets, items_len, no_items, slot_of}
use Rattle.json_read.proofs.JsonItems.{slice_get-front, slice_get-last}
use Rattle.json_scan.specs.Spelling.{before}
use Rattle.json_stream.specs.Prelude.{AreSlots, IsSlotAdded, valid_of}

pub items_len-before : (ds : List Data) → items_len (before ds no_items) ≡ length ds
items_len-before [] = refl
items_len-before (d ∷ ds) = ap suc (items_len-before ds)

pub get_item-before : (ds : List Data) (i : ℕ) → get_item i (before ds no_items) ≡ slice_get ds i
get_item-before [] i = refl
get_item-before (d ∷ ds) zero = refl
get_item-before (d ∷ ds) (suc i) = get_item-before ds i

nothing_fits : (offsets : Option OffsetWidth) → is_past_offsets offsets 0 ≡ false
nothing_fits None = refl
nothing_fits (Some Narrow) = refl
nothing_fits (Some Wide) = refl

pub no_slots : (s : Spelling) (validity : Option (List Bool)) (items : List Item) → items ≡ [] → AreSlots s validity [] items
no_slots s validity items none =
    subst (λ xs. AreSlots s validity [] xs) (sym none) record { len = refl; each = λ i within. absurd (omega (arith, within)); fits = nothing_fits s.offsets }

pub slots_more : (s : Spelling) (validity : Option (List Bool)) (ds : List Data) (d : Data) (old new : List Item) → AreSlots s validity ds old → IsSlotAdded s (valid_of validity (length ds)) d old new → AreSlots s validity (ds ++ d ∷ []) new
slots_more s validity ds d old new h added =
    let x = added.item in
    let upto : (i : ℕ) → i < length ds + 1 → slice_get (old ++ x ∷ []) i ≡ slot_of s (valid_of validity i) (slice_get (ds ++ d ∷ []) i) =
    below_more (λ k. slice_get (old ++ x ∷ []) k ≡ slot_of s (valid_of validity k) (slice_get (ds ++ d ∷ []) k)) (length ds)
    (λ k within. slice_get-front old (x ∷ []) k (omega (arith, h.len)) ∙ (h.each k within ∙ ap (slot_of s (valid_of validity k)) (sym (slice_get-front ds (d ∷ []) k within))))
    (ap (slice_get (old ++ x ∷ [])) (sym h.len) ∙ (slice_get-last old x ∙ (sym added.slot ∙ ap (slot_of s (valid_of validity (length ds))) (sym (slice_get-last ds d))))) in
    record {
      len = ap length added.grown ∙ omega (arith, length-append old (x ∷ []), length-append ds (d ∷ []), h.len);
      each = λ i within. ap (λ xs. slice_get xs i) added.grown ∙ upto i (omega (arith, within, length-append ds (d ∷ [])));
      fits = added.fits h.fits;
    }

pub reads_slots : (s : Spelling) (flags : Option Items) (validity : Option (List Bool)) (ds : List Data) (items : List Item) → ((i : ℕ) → flagged_at flags i ≡ valid_of validity i) → AreSlots s validity ds items
    → ReadsSlots s flags (before ds no_items) (length ds) items
reads_slots s flags validity ds items same h = record { len = h.len; each = λ i within. h.each i within ∙ sym (ap₂ (slot_of s) (same i) (get_item-before ds i)) }

-- the same where the spelling and the validity are those from before, and the slot is the one behind the items
pub slot_taken : (s t : Spelling) (v w : Option (List Bool)) (ds : List Data) (d : Data) (old new : List Item) (n : ℕ) (valid : Option Bool) → t ≡ s → v ≡ w → valid ≡ valid_of v n → length old ≡ n
    → AreSlots s w ds old → IsSlotAdded t valid d old new → AreSlots s w (ds ++ d ∷ []) new
slot_taken s t v w ds d old new n valid spelling validity is count h added =
    let place : valid ≡ valid_of w (length ds) = is ∙ ap₂ valid_of validity (sym count ∙ h.len) in
    let same = subst (λ x. IsSlotAdded x valid d old new) spelling added in
    slots_more s w ds d old new h (subst (λ x. IsSlotAdded s x d old new) place same)
