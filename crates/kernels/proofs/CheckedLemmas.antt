-- 64 results at a time, and the least of them that is outside the type.
use Rattle.std.proofs.Common.{◌≡◌, ◌≢◌, ◌∙◌, ℕ, zero, suc, ◌+◌, ◌-◌, ◌*◌, ◌%◌, ◌^◌, ◌<◌, ◌≤◌, ◌&&◌, ℤ, pos, List, [], ◌∷◌, ◌++◌, Bool, true, false, not, cond, nat_lt, nat_eq, bit_and, bit_or, Option, Some, None, IfSome, IfNone, unwrap_or, is_some, to_z, of_z, w64, ap, sym, subst, refl, arith, add-one, add-zero, inl, inr, lt-ltb, le-ltb}
use Rattle.std.specs.Int.{from_bool, trailing_zeros, w128}
use Rattle.std.specs.List.{flat_map, range_with_len}
use Rattle.std.proofs.lemmas.Bool.{cases_lt}
use Rattle.std.proofs.lemmas.Grind.{flat_map-append}
use Rattle.std.proofs.lemmas.Int.{to_z-of_z}
use Rattle.std.proofs.lemmas.List.{append-nil, append_assoc, map-id}
use Rattle.std.proofs.lemmas.List.FromFn.{map-range_with_len_more}
use Rattle.std.proofs.lemmas.Nat.{and_le_r}
use Rattle.std.proofs.lemmas.Nat.Bits.{bit_at-trailing_zeros, bit_at-zero}
use Rattle.colbits.specs.Bit.{bit_in}
use Rattle.colbits.proofs.WordLemmas.{bit_in-and}
use Rattle.arrays.specs.Prelude.{IntType, bytes_of_number, is_of_type}
use Rattle.kernels.specs.Computed.{AreOfType, AreOutside, AreResults, IsLeastOutside, bytes_of_results, result_or_zero}
use Rattle.kernels.proofs.NumberLemmas.{AreResults-more, FitsSigned-from_test, is_of_type-zero}
use Rattle.kernels.proofs.PackedLemmas.{bits-reported}

-- ---- one result more

present_by : (t : IntType) (z : ℤ) (b : Bool) → is_of_type t z ≡ b → is_of_type t (cond b z (pos 0)) ≡ true
present_by t z true is = is
present_by t z false is = is_of_type-zero t

pub is_of_type-result_or_zero : (t : IntType) (result : ℕ → ℤ) (j : ℕ) → is_of_type t (result_or_zero t result j) ≡ true
is_of_type-result_or_zero t result j = present_by t (result j) (is_of_type t (result j)) refl

-- what is pushed of a result, and whether it is outside the type
pub record IsResult (t : IntType) (result : ℕ → ℤ) (j : ℕ) (number : Option ℤ) : Type 0 where
  pub pushed : unwrap_or number (pos 0) ≡ result_or_zero t result j
  pub outside : is_some number ≡ is_of_type t (result j)

pub present : (t : IntType) (result : ℕ → ℤ) (j : ℕ) (number : Option ℤ) → IfSome number (λ z. (z ≡ result j) × (is_of_type t z ≡ true)) → IfNone number (is_of_type t (result j) ≡ false)
    → IsResult t result j number
present t result j None some none = record { pushed = sym (ap (λ b. cond b (result j) (pos 0)) none); outside = sym none }
present t result j (Some z) some none =
    let of_type = sym (ap (is_of_type t) some.0) ∙ some.1 in
    record { pushed = some.0 ∙ sym (ap (λ b. cond b (result j) (pos 0)) of_type); outside = sym of_type }

-- the number that is pushed, as `i128` has it
pub pushed_is : (t : IntType) (result : ℕ → ℤ) (j : ℕ) (number : Option ℤ) (pushed : ℤ) → IsResult t result j number → pushed ≡ unwrap_or number (pos 0)
    → to_z w128 (of_z w128 pushed) ≡ result_or_zero t result j
pushed_is t result j number pushed is unwrapped =
    let z = result_or_zero t result j in
    ap (λ x. to_z w128 (of_z w128 x)) (unwrapped ∙ is.pushed) ∙ to_z-of_z w128 z (FitsSigned-from_test t z (is_of_type-result_or_zero t result j))

range-more : (a n : ℕ) → range_with_len a (n + 1) ≡ range_with_len a n ++ (a + n) ∷ []
range-more a n =
    sym (map-id (range_with_len a (n + 1))) ∙ map-range_with_len_more (λ k. k) a n (a + n) refl ∙ ap (λ ks. ks ++ (a + n) ∷ []) (map-id (range_with_len a n))

bytes_of_results-more : (t : IntType) (result : ℕ → ℤ) (start n : ℕ)
    → bytes_of_results t result start (n + 1) ≡ bytes_of_results t result start n ++ bytes_of_number t (result_or_zero t result (start + n))
unfolding bytes_of_results
bytes_of_results-more t result start n =
    let f : ℕ → List ℕ = λ j. bytes_of_number t (result_or_zero t result j) in
    ap (flat_map f) (range-more start n)
    ∙ flat_map-append f (range_with_len start n) ((start + n) ∷ [])
    ∙ ap (λ bytes. flat_map f (range_with_len start n) ++ bytes) (append-nil (f (start + n)))

-- one number more behind the results
pub results_grown : (t : IntType) (result : ℕ → ℤ) (start n : ℕ) (old bytes longer : List ℕ) (pushed : ℤ) → bytes ≡ old ++ bytes_of_results t result start n → longer ≡ bytes ++ bytes_of_number t pushed
    → pushed ≡ result_or_zero t result (start + n) → longer ≡ old ++ bytes_of_results t result start (n + 1)
results_grown t result start n old bytes longer pushed so_far grows is =
    grows
    ∙ ap (λ xs. xs ++ bytes_of_number t pushed) so_far
    ∙ ap (λ z. (old ++ bytes_of_results t result start n) ++ bytes_of_number t z) is
    ∙ append_assoc old (bytes_of_results t result start n) (bytes_of_number t (result_or_zero t result (start + n)))
    ∙ ap (λ more. old ++ more) (sym (bytes_of_results-more t result start n))

-- no results yet
pub bytes_of_results-none : (t : IntType) (result : ℕ → ℤ) (start : ℕ) → bytes_of_results t result start 0 ≡ []
unfolding bytes_of_results
bytes_of_results-none t result start = refl

other : (p b : Bool) → p ≡ not b → b ≡ not p
other p true h = sym (ap not h)
other p false h = sym (ap not h)

-- the bit of one slot more
pub AreOutside-more : (t : IntType) (result : ℕ → ℤ) (start n word reported : ℕ) (p b : Bool) → n < 64 → reported ≡ from_bool b → p ≡ not b → p ≡ is_of_type t (result (start + n))
    → AreOutside t result start n word → AreOutside t result start (n + 1) (bit_or word (reported * 2 ^ n % 2 ^ 64))
AreOutside-more t result start n word reported p b small from flag is are = record {
  each = bits-reported w64 (λ k. not (is_of_type t (result (start + k)))) word n reported b small from (other p b flag ∙ ap not is) are.each;
}

-- ---- the results of a word of slots

pub AreResults-word : (t : IntType) (result : ℕ → ℤ) (valid : ℕ → Bool) (start n : ℕ) (bytes : List ℕ) → AreResults t result valid start bytes
    → ((j : ℕ) → j < n → valid (start + j) ≡ true → is_of_type t (result (start + j)) ≡ true) → AreResults t result valid (start + n) (bytes ++ bytes_of_results t result start n)
AreResults-word t result valid start zero bytes are fine =
    let same : bytes ≡ bytes ++ bytes_of_results t result start 0 = sym (ap (λ more. bytes ++ more) (bytes_of_results-none t result start) ∙ append-nil bytes) in
    subst (λ m. AreResults t result valid m (bytes ++ bytes_of_results t result start 0)) (sym (add-zero start)) (subst (AreResults t result valid start) same are)
AreResults-word t result valid start (suc n) bytes are fine =
    let so_far = bytes ++ bytes_of_results t result start n in
    let number = result_or_zero t result (start + n) in
    let before = AreResults-word t result valid start n bytes are (λ j below. fine j (omega arith)) in
    let grows : bytes ++ bytes_of_results t result start (suc n) ≡ so_far ++ bytes_of_number t number =
    ap (λ m. bytes ++ bytes_of_results t result start m) (sym (add-one n))
    ∙ ap (λ more. bytes ++ more) (bytes_of_results-more t result start n)
    ∙ sym (append_assoc bytes (bytes_of_results t result start n) (bytes_of_number t number)) in
    let here : valid (start + n) ≡ true → number ≡ result (start + n) = λ is_valid. ap (λ b. cond b (result (start + n)) (pos 0)) (fine n (omega arith) is_valid) in
    let next : start + n + 1 ≡ start + suc n = omega arith in
    subst (λ m. AreResults t result valid m (bytes ++ bytes_of_results t result start (suc n))) next
    (AreResults-more t result valid (start + n) so_far (bytes ++ bytes_of_results t result start (suc n)) number number before grows refl (is_of_type-result_or_zero t result (start + n)) here)

-- ---- the least that is outside

both_hold : (p q : Bool) → p ≡ true → q ≡ true → (p && q) ≡ true
both_hold true true p q = refl
both_hold true false p q = q
both_hold false q p h = p

first_holds : (p q : Bool) → (p && q) ≡ true → p ≡ true
first_holds true q h = refl
first_holds false q h = h

second_holds : (p q : Bool) → (p && q) ≡ true → q ≡ true
second_holds true q h = h
second_holds false q h = absurd cc

fails : (b : Bool) → not b ≡ true → b ≡ false
fails true h = cc
fails false h = refl

holds : (b : Bool) → (not b ≡ true → ⊥) → b ≡ true
holds true h = refl
holds false h = absurd (h refl)

below_from_test : (j n : ℕ) → nat_lt j n ≡ true → j < n
below_from_test j n h =
    elim (cases_lt j n) [
      | inl below ↦ below
      | inr past ↦ absurd (let unset = le-ltb j n past in cc)
    ]

-- the slots of a word whose results are outside the type, and those that are valid
module _ (t : IntType) (result : ℕ → ℤ) (valid : ℕ → Bool) (start n : ℕ) (outside word bad : ℕ) (small : n ≤ 64) (are : AreOutside t result start n outside)
    (reported : (j : ℕ) → j < 64 → bit_in word j ≡ valid (start + j)) (is : bad ≡ bit_and outside word) where
  bad_at : (j : ℕ) → bit_in bad j ≡ (bit_in outside j && bit_in word j)
  bad_at j = ap (λ b. bit_in b j) is ∙ bit_in-and outside word j

  -- a slot whose bit is 0 has its result, if it is valid
  of_type_at : (j : ℕ) → j < n → bit_in bad j ≡ false → valid (start + j) ≡ true → is_of_type t (result (start + j)) ≡ true
  of_type_at j below unset is_valid =
      let is_reported : bit_in word j ≡ true = reported j (omega arith) ∙ is_valid in
      holds (is_of_type t (result (start + j))) (λ past.
      let out : bit_in outside j ≡ true = are.each j ∙ both_hold (nat_lt j n) (not (is_of_type t (result (start + j)))) (lt-ltb j n below) past in
      let set : bit_in bad j ≡ true = bad_at j ∙ both_hold (bit_in outside j) (bit_in word j) out is_reported in
      cc)

  pub none_bad : bad ≡ 0 → (j : ℕ) → j < n → valid (start + j) ≡ true → is_of_type t (result (start + j)) ≡ true
  none_bad none j below is_valid = of_type_at j below (ap (λ b. bit_in b j) none ∙ ap (λ b. nat_eq b 1) (bit_at-zero j)) is_valid

  pub least_bad : bad ≢ 0 → word < 2 ^ 64 → AreOfType t result valid start → IsLeastOutside t result valid (start + n) (start + trailing_zeros w64 bad)
  least_bad set_somewhere fits before =
      let few : bad < 2 ^ 64 = omega (arith, is, and_le_r outside word) in
      let some : 0 < bad = omega arith in
      let first = bit_at-trailing_zeros w64 bad some few in
      let k = trailing_zeros w64 bad in
      let set : (bit_in outside k && bit_in word k) ≡ true = sym (bad_at k) ∙ ap (λ b. nat_eq b 1) first.1 in
      let out = sym (are.each k) ∙ first_holds (bit_in outside k) (bit_in word k) set in
      let within : k < n = below_from_test k n (first_holds (nat_lt k n) _ out) in
      let early : (j : ℕ) → j < start + k → valid j ≡ true → is_of_type t (result j) ≡ true =
      λ j low is_valid.
      elim (cases_lt j start) [
        | inl old ↦ before.each j old is_valid
        | inr new ↦ (
            let at : start + (j - start) ≡ j = omega arith in
            let unset : bit_in bad (j - start) ≡ false = ap (λ b. nat_eq b 1) (first.2 (j - start) (omega arith)) in
            subst (λ i. is_of_type t (result i) ≡ true) at (of_type_at (j - start) (omega arith) unset (ap valid at ∙ is_valid)))
      ] in
      record {
        within = omega arith;
        is_valid = sym (reported k first.0) ∙ second_holds (bit_in outside k) (bit_in word k) set;
        outside = fails (is_of_type t (result (start + k))) (second_holds (nat_lt k n) _ out);
        before = record { each = early };
      }
