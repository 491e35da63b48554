-- A column that was built slot by slot, as an array.
use Rattle.std.proofs.Common.{◌≡◌, ◌∙◌, ℕ, ◌+◌, ◌<◌, List, [], map, Bool, false, not, length, cond, get_or, Option, option_map, ap, sym, zero-add}
use Rattle.std.specs.List.{range_with_len}
use Rattle.std.proofs.lemmas.Simd.{map-map}
use Rattle.colbits.specs.Bit.{bits}
use Rattle.colbits.proofs.BitLemmas.{listed}
use Rattle.layout.specs.Prelude.{Item, Seen, is_null, is_valid_in, no_entries, null}
use Rattle.types.specs.Kind.{Kind}
use Rattle.arrays.specs.Prelude.{IsBufferOf, kept, show_slots, shown}
use Rattle.layout.proofs.RangeLists.{map-range-below}
use Rattle.arrays.proofs.ValidityLemmas.{IsKept, kept_buffer, is_there, slot_same}

-- the value of a slot where it is valid, else null
abbrev pub slot : (ℕ → Item) → List Bool → ℕ → Item
slot value valid j = cond (get_or valid j false) (value j) null

pub made : Kind → Option (List Bool) → List Item → Seen
made k validity items = record { kind = k; validity = validity; items = items; codes = []; entries = no_entries }

-- the buffer of what is kept of the slots
pub kept_slots : (n : ℕ) (valid : List Bool) (validity : Option (List Bool)) (buffer : Option (List ℕ)) → n ≡ length valid → validity ≡ kept valid → IsBufferOf buffer validity
    → IsKept n (λ j. get_or valid j false) buffer
kept_slots n valid validity buffer size is holds =
    let bit : ℕ → Bool = λ j. get_or valid j false in
    let all : map bit (range_with_len 0 n) ≡ valid = ap (λ m. map bit (range_with_len 0 m)) size ∙ listed valid in
    kept_buffer n bit buffer validity (is ∙ ap kept (sym all)) holds

pub slots_shown : (k : Kind) (value packed : ℕ → Item) (n : ℕ) (valid : List Bool) (validity : Option (List Bool)) (buffer : Option (List ℕ)) → n ≡ length valid → validity ≡ kept valid
    → IsBufferOf buffer validity → ((j : ℕ) → is_null (value j) ≡ false) → ((j : ℕ) → j < n → packed j ≡ value j)
    → show_slots k n buffer packed ≡ shown k (map (slot value valid) (range_with_len 0 (length valid)))
unfolding made
slots_shown k value packed n valid validity buffer size is holds not_null same =
    let bit : ℕ → Bool = λ j. get_or valid j false in
    let kept_is = kept_slots n valid validity buffer size is holds in
    let here : ℕ → Item = λ j. cond (is_valid_in buffer j) (packed j) null in
    let there : ℕ → Item = slot value valid in
    let items : map here (range_with_len 0 n) ≡ map there (range_with_len 0 (length valid)) =
    map-range-below here there 0 n
    (λ j below.
    ap here (zero-add j)
    ∙ slot_same (is_valid_in buffer j) (bit j) (packed j) (value j) (kept_is.each j below) (λ _. same j below)
    ∙ ap there (sym (zero-add j)))
    ∙ ap (λ m. map there (range_with_len 0 m)) size in
    let flags : map (λ x. not (is_null x)) (map there (range_with_len 0 n)) ≡ map bit (range_with_len 0 n) =
    map-map (λ x. not (is_null x)) there (range_with_len 0 n)
    ∙ map-range-below (λ j. not (is_null (there j))) bit 0 n (λ j below. is_there (bit (0 + j)) (value (0 + j)) (not_null (0 + j))) in
    let validities : option_map (λ bytes. bits bytes 0 n) buffer ≡ kept (map (λ x. not (is_null x)) (map there (range_with_len 0 (length valid)))) =
    kept_is.shown
    ∙ ap kept (sym flags)
    ∙ ap (λ m. kept (map (λ x. not (is_null x)) (map there (range_with_len 0 m)))) size in
    ap (λ v. made k v (map here (range_with_len 0 n))) validities
    ∙ ap (made k (kept (map (λ x. not (is_null x)) (map there (range_with_len 0 (length valid)))))) items
