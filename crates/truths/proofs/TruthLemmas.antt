-- Truth values, given place by place.
use Rattle.std.proofs.Common.{◌≡◌, ◌∙◌, ℕ, ◌+◌, ◌<◌, List, [], map, Bool, true, false, not, cond, length, Option, Some, slice_index_or, get_or, ap, sym, refl, arith, zero-add, le-ltb}
use Rattle.std.specs.List.{range_with_len}
use Rattle.std.proofs.lemmas.List.FromFn.{fill_by_all, length-map-range_with_len, get_or-map-range_with_len}
use Rattle.std.proofs.lemmas.Simd.{map-map}
use Rattle.colbits.specs.Prelude.{IsBitmapOf, bit, bits}
use Rattle.colbits.proofs.BitLemmas.{get_or-bits}
use Rattle.arrays.specs.Prelude.{Item, Seen, boolean, bytes_for, is_null, is_valid_in, is_validity_short, kept, no_entries, null, show_bits, shown, validity_of}
use Rattle.arrays.specs.Kind as kind
use Rattle.arrays.proofs.RangeLists.{map-range-below}
use Rattle.truths.specs.Truth.{truth_at, truths_of}
use Rattle.arrays.proofs.ValidityLemmas.{IsKept}

-- ---- bits of values

-- a bitmap of values has a bit for each place
pub packed_enough : (f : ℕ → Bool) (n m : ℕ) (bytes : List ℕ) (values : List Bool) → m ≡ n → values ≡ map f (range_with_len 0 n) → IsBitmapOf bytes values
    → is_validity_short m (Some bytes) ≡ false
packed_enough f n m bytes values count e is =
    le-ltb (length bytes) (bytes_for m) (omega (arith, is.bitmap.length_is, count, ap length e, length-map-range_with_len f 0 n))

packed_bit : (f : ℕ → Bool) (n i : ℕ) (bytes : List ℕ) (values : List Bool) → values ≡ map f (range_with_len 0 n) → IsBitmapOf bytes values → i < n → bit bytes i ≡ f i
packed_bit f n i bytes values e is below =
    let size : length values ≡ n = ap length e ∙ length-map-range_with_len f 0 n in
    let packed : bits bytes 0 n ≡ map f (range_with_len 0 n) = ap (bits bytes 0) (sym size) ∙ is.values_are ∙ e in
    ap (bit bytes) (sym (zero-add i))
    ∙ sym (get_or-bits bytes 0 n i false below)
    ∙ ap (λ v. slice_index_or v i false) packed
    ∙ get_or-map-range_with_len f 0 n i i false below (zero-add i)

-- ---- arrays of truth values

known_by_item : (known value : ℕ → Bool) (i : ℕ) → not (is_null (truth_at known value i)) ≡ known i
known_by_item known value i = by_case (known i)
  where
    by_case : (b : Bool) → not (is_null (cond b (boolean (value i)) null)) ≡ b
    by_case true = refl
    by_case false = refl

pub validity_of-truths : (known value : ℕ → Bool) (n : ℕ) → validity_of (truths_of known value n) ≡ kept (map known (range_with_len 0 n))
validity_of-truths known value n =
    ap kept
    (map-map (λ x. not (is_null x)) (truth_at known value) (range_with_len 0 n)
    ∙ map-range-below (λ i. not (is_null (truth_at known value i))) known 0 n (λ i below. known_by_item known value (0 + i)))

column : Option (List Bool) → List Item → Seen
column v items = record { kind = kind.boolean; validity = v; items = items; codes = []; entries = no_entries }

pub shown-truths : (known value : ℕ → Bool) (n m : ℕ) (validity : Option (List ℕ)) (packed : List ℕ) (values : List Bool) → m ≡ n
    → IsKept n known validity → values ≡ map value (range_with_len 0 n) → IsBitmapOf packed values
    → show_bits m validity packed ≡ shown kind.boolean (truths_of known value n)
unfolding column
shown-truths known value n m validity packed values count is e bitmap =
    let slot : ℕ → Item = λ j. cond (is_valid_in validity j) (boolean (bit packed j)) null in
    let same : (j : ℕ) → j < n → slot (0 + j) ≡ truth_at known value (0 + j) =
    λ j below.
    ap slot (zero-add j)
    ∙ ap (λ b. cond b (boolean (bit packed j)) null) (is.each j below)
    ∙ ap (λ b. cond (known j) (boolean b) null) (packed_bit value n j packed values e bitmap below)
    ∙ ap (truth_at known value) (sym (zero-add j)) in
    let items : map slot (range_with_len 0 n) ≡ truths_of known value n = map-range-below slot (truth_at known value) 0 n same in
    ap (λ k. show_bits k validity packed) count
    ∙ ap (λ (v : Option (List Bool)). column v (map slot (range_with_len 0 n))) (is.shown ∙ sym (validity_of-truths known value n))
    ∙ ap (column (validity_of (truths_of known value n))) items

-- a list, read place by place
pub listed : {X : Type 0} (xs : List X) (d : X) → map (λ i. get_or xs i d) (range_with_len 0 (length xs)) ≡ xs
listed xs d = sym (fill_by_all (λ i. get_or xs i d) xs (length xs) d refl (λ k h. refl))
