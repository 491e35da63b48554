-- A column and one number.
use Rattle.std.proofs.Common.{◌≡◌, ◌∙◌, ℕ, ◌+◌, ◌<◌, ◌==◌, ◌&&◌, ℤ, List, map, Bool, true, false, not, length, cond, Option, Some, None, option_map, ap, sym, subst, refl, position, inl, inr}
use Rattle.std.specs.List.{range_with_len}
use Rattle.std.specs.Option.{option_or}
use Rattle.std.proofs.lemmas.List.{get_or-replicate, length-replicate}
use Rattle.arrays.specs.Prelude.{HasNumbers, IntType, Item, Kind, Seen, boolean, int, is_of_type, item_at, kept, list, null, number_at, text, valid_at}
use Rattle.arrays.specs.Kind as kind
use Rattle.truths.specs.Valid.{both_valid, valid_in_both}
use Rattle.arrays.proofs.RangeLists.{map-range-below}
use Rattle.kernels.specs.Prelude.{IsKernelFault, are_one_int, arithmetic_fault, exact, fault_from, fault_with, first_bad, has_number, is_outside, lifted, number_beside, number_fault, operands_fault, results, type_fault}
use Rattle.kernels.specs.declared.fault.KernelFault.{KernelFault}
use Rattle.kernels.specs.declared.fault.KernelFault.TheVariants.{TypesDiffer, LengthsDiffer, Overflow}
use Rattle.kernels.proofs.ResultLemmas.{AreNumbers, AreOperands, column_numbers}

-- ---- the column that has the number at each slot

pub beside_size : (s : Seen) (z : ℤ) → length (number_beside s z).items ≡ length s.items
beside_size s z = length-replicate (length s.items) (int z)

pub beside_item : (s : Seen) (z : ℤ) (j : ℕ) → j < length s.items → item_at (number_beside s z).items j ≡ int z
beside_item s z j below = get_or-replicate (length s.items) j (int z) null below

pub beside_numbers : (s : Seen) (z present : ℤ) → present ≡ z → AreNumbers (λ j. present) (number_beside s z)
beside_numbers s z present is j below = beside_item s z j (subst (λ n. j < n) (beside_size s z) below) ∙ ap int (sym is)

both_itself : (p : Bool) → (p && p) ≡ (p && true)
both_itself true = refl
both_itself false = refl

-- the validity of the results
pub kept_beside : (s : Seen) (z : ℤ) → kept (both_valid s s) ≡ kept (both_valid s (number_beside s z))
kept_beside s z =
    ap kept (map-range-below (valid_in_both s s) (valid_in_both s (number_beside s z)) 0 (length s.items) (λ i below. both_itself (valid_at s (0 + i))))

pub column_beside : (t : IntType) (x : List ℕ) (s : Seen) (z present : ℤ) → s.kind ≡ kind.int t → HasNumbers t x s → present ≡ z → AreOperands t (number_at t x) (λ j. present) s (number_beside s z)
column_beside t x s z present kind_is has is = record {
  kind_a = kind_is;
  kind_b = kind_is;
  lengths = sym (beside_size s z);
  of_a = column_numbers t x s has;
  of_b = beside_numbers s z present is;
}

-- ---- faults

pub number_fits : (t : IntType) (s : Seen) (z : ℤ) → s.kind ≡ kind.int t → is_of_type t z ≡ true → number_fault s z ≡ None
number_fits t s z kind_is has = ap (λ k. type_fault (has_number k z)) kind_is ∙ ap type_fault has

pub fault_beside : (f : ℤ → ℤ → ℤ) (s : Seen) (z : ℤ) → number_fault s z ≡ None → fault_with f s z ≡ arithmetic_fault f s (number_beside s z)
fault_beside f s z fits = ap (λ o. option_or o (arithmetic_fault f s (number_beside s z))) fits

pub reported_beside : (f : ℤ → ℤ → ℤ) (s : Seen) (z : ℤ) (e : KernelFault) → number_fault s z ≡ None
    → IsKernelFault (operands_fault s (number_beside s z)) (arithmetic_fault f s (number_beside s z)) e → IsKernelFault (number_fault s z) (fault_with f s z) e
reported_beside f s z e fits (inl reported) = inl (fault_beside f s z fits ∙ reported)
reported_beside f s z e fits (inr want) = inr (want.0, fits)

-- ---- the number first

abbrev pub flipped : (ℤ → ℤ → ℤ) → ℤ → ℤ → ℤ
flipped f x y = f y x

lifted_flipped : (f : ℤ → ℤ → ℤ) (x y : Item) → lifted (exact (flipped f)) x y ≡ lifted (exact f) y x
lifted_flipped f null null = refl
lifted_flipped f (int p) null = refl
lifted_flipped f (boolean p) null = refl
lifted_flipped f (text p) null = refl
lifted_flipped f (list p) null = refl
lifted_flipped f x y = refl

pub results_flipped : (f : ℤ → ℤ → ℤ) (s : Seen) (z : ℤ) → results (flipped f) s.items (number_beside s z).items ≡ results f (number_beside s z).items s.items
results_flipped f s z =
    let xs = s.items in
    let ys = (number_beside s z).items in
    map-range-below (λ i. lifted (exact (flipped f)) (item_at xs i) (item_at ys i)) (λ i. lifted (exact f) (item_at ys i) (item_at xs i)) 0 (length xs)
    (λ i below. lifted_flipped f (item_at xs (0 + i)) (item_at ys (0 + i)))
    ∙ ap (λ n. map (λ i. lifted (exact f) (item_at ys i) (item_at xs i)) (range_with_len 0 n)) (sym (beside_size s z))

first_bad_flipped : (f : ℤ → ℤ → ℤ) (k : Kind) (s : Seen) (z : ℤ) → first_bad (flipped f) k s.items (number_beside s z).items ≡ first_bad f k (number_beside s z).items s.items
first_bad_flipped f (kind.int t) s z = ap (position (is_outside t)) (results_flipped f s z)
first_bad_flipped f kind.boolean s z = refl
first_bad_flipped f (kind.texts w) s z = refl
first_bad_flipped f (kind.lists w k) s z = refl
first_bad_flipped f kind.dict s z = refl

operands_flipped : (s : Seen) (z : ℤ) → operands_fault s (number_beside s z) ≡ operands_fault (number_beside s z) s
operands_flipped s z =
    let n = length s.items in
    let suit = are_one_int s.kind s.kind in
    ap (λ m. cond (not suit) (Some TypesDiffer) (cond (not (n == m)) (Some LengthsDiffer) None)) (beside_size s z)
    ∙ sym (ap (λ m. cond (not suit) (Some TypesDiffer) (cond (not (m == n)) (Some LengthsDiffer) None)) (beside_size s z))

pub fault_flipped : (f : ℤ → ℤ → ℤ) (s : Seen) (z : ℤ) → fault_with (flipped f) s z ≡ fault_from f z s
fault_flipped f s z =
    let bad : Option ℕ → Option KernelFault = option_map (λ row. Overflow row) in
    ap (λ o. option_or (number_fault s z) (option_or o (bad (first_bad (flipped f) s.kind s.items (number_beside s z).items)))) (operands_flipped s z)
    ∙ ap (λ o. option_or (number_fault s z) (option_or (operands_fault (number_beside s z) s) (bad o))) (first_bad_flipped f s.kind s z)
