-- Where a column has no item, as truth values given place by place.
use Rattle.std.proofs.Common.{◌≡◌, ◌∙◌, ℕ, ◌+◌, ◌<◌, List, Bool, true, false, not, cond, length, get_or, Option, All, is_some, map, pos, slice_index_or, ap, sym, subst, refl, zero-add}
use Rattle.std.specs.List.{range_with_len}
use Rattle.std.proofs.lemmas.List.FromFn.{get_or-map-range_with_len}
use Rattle.std.proofs.lemmas.Simd.{map-map}
use Rattle.arrays.specs.Prelude.{HasNumbers, HasTexts, Item, Seen, boolean, codes_of, dictionary_of, encoded, holds_at, int, int32, is_code, is_null, looked_up, natural, null, number_at, of_slot, text, valid_at, valid_in, valid_values}
use Rattle.arrays.proofs.DictionaryViews.{named_item, valid_code}
use Rattle.arrays.proofs.ValidityLemmas.{valid-none}
use Rattle.std.proofs.lemmas.List.{get_or-map, length-map}
use Rattle.std.proofs.lemmas.Option.{get_or_from_slice_get}
use Rattle.arrays.proofs.RangeLists.{map-range-below}
use Rattle.truths.specs.Truth.{truth_at, truths_of}
use Rattle.truths.proofs.TruthLemmas.{listed}
use Rattle.kernels.specs.Nulls.{nulls}

not_not : (b : Bool) → not (not b) ≡ b
not_not true = refl
not_not false = refl

pub truths-nulls : (s : Seen) → truths_of (λ i. true) (λ i. not (holds_at s i)) (length s.items) ≡ nulls s.items
truths-nulls s =
    let item_at : ℕ → Item = λ i. get_or s.items i null in
    map-range-below (truth_at (λ i. true) (λ i. not (holds_at s i))) (λ i. boolean (is_null (item_at i))) 0 (length s.items)
    (λ i below. ap boolean (not_not (is_null (item_at (0 + i)))))
    ∙ sym (map-map (λ x. boolean (is_null x)) item_at (range_with_len 0 (length s.items)))
    ∙ ap nulls (listed s.items null)

-- ---- slots that are valid

there : (v : Bool) (x : Item) → is_null x ≡ false → not (is_null (cond v x null)) ≡ v
there true x h = ap not h
there false x h = refl

-- a slot of a column whose valid slots have values
pub holds_valid : (value : ℕ → Item) (s : Seen) → s.items ≡ valid_values value s → ((j : ℕ) → is_null (value j) ≡ false) → (i : ℕ) → i < length s.items → holds_at s i ≡ valid_at s i
holds_valid value s are is i below =
    ap (λ items. not (is_null (get_or items i null))) are
    ∙ ap (λ x. not (is_null x)) (get_or-map-range_with_len (λ j. cond (valid_at s j) (value j) null) 0 (length s.items) i i null below (zero-add i))
    ∙ there (valid_at s i) (value i) (is i)

pub truths-invalid : (s : Seen) (validity : Option (List Bool)) (n : ℕ) → validity ≡ s.validity → n ≡ length s.items → ((i : ℕ) → i < length s.items → holds_at s i ≡ valid_at s i)
    → truths_of (λ i. true) (λ i. not (valid_in validity i)) n ≡ nulls s.items
truths-invalid s validity n same count valid =
    (λ k. truths_of (λ i. true) (λ i. not (valid_in (same k) i)) (count k))
    ∙ map-range-below (truth_at (λ i. true) (λ i. not (valid_at s i))) (truth_at (λ i. true) (λ i. not (holds_at s i))) 0 (length s.items)
    (λ i below. ap (λ b. boolean (not b)) (sym (valid (0 + i) (subst (λ j. j < length s.items) (sym (zero-add i)) below))))
    ∙ truths-nulls s

-- a slot of a dictionary-encoded column whose dictionary has no null
pub holds_named : (s codes : Seen) (bytes offsets texts : List ℕ) → codes ≡ codes_of s → s ≡ encoded (codes_of s) (dictionary_of s) → All (λ c. is_code (length s.entries.items) c ≡ true) s.codes
    → HasNumbers int32 bytes codes → HasTexts offsets texts (dictionary_of s) → is_some s.entries.validity ≡ false → (i : ℕ) → i < length s.items → holds_at s i ≡ valid_at s i
holds_named s codes bytes offsets texts codes_are named within has_codes has_texts none i below = by_valid (valid_at s i) refl where
  entries : List Item
  entries = s.entries.items

  has : HasNumbers int32 bytes (codes_of s)
  has = subst (HasNumbers int32 bytes) codes_are has_codes

  items_are : s.items ≡ map (looked_up entries) s.codes
  items_are = ap (λ (q : Seen). q.items) named

  inside : i < length s.codes
  inside = subst (λ n. i < n) (ap length items_are ∙ length-map s.codes (looked_up entries)) below

  code_is : get_or s.codes i null ≡ cond (valid_at s i) (int (number_at int32 bytes i)) null
  code_is =
      ap (λ items. get_or items i null) has.numbers
      ∙ get_or-map-range_with_len (λ j. cond (valid_at (codes_of s) j) (int (number_at int32 bytes j)) null) 0 (length s.codes) i i null inside (zero-add i)

  by_valid : (v : Bool) → valid_at s i ≡ v → holds_at s i ≡ v
  by_valid true is =
      let code = valid_code s (codes_of s) bytes i refl has within inside is in
      let k = natural (number_at int32 bytes i) in
      ap (λ x. not (is_null x)) (get_or_from_slice_get s.items i (slice_index_or entries k null) null (named_item s i (int (pos k)) named code.code))
      ∙ holds_valid (λ j. text (of_slot offsets texts j)) (dictionary_of s) has_texts.texts (λ j. refl) k code.below
      ∙ valid-none s.entries.validity k none
  by_valid false is =
      ap (λ x. not (is_null x))
      (ap (λ items. get_or items i null) items_are
      ∙ get_or-map (looked_up entries) s.codes i null null inside
      ∙ ap (looked_up entries) (code_is ∙ ap (λ b. cond b (int (number_at int32 bytes i)) null) is))
