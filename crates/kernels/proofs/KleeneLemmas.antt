-- Three-valued logic, place by place.
use Rattle.std.proofs.Common.{◌≡◌, ◌∙◌, ℕ, ◌+◌, ◌<◌, List, Bool, true, false, not, ◌&&◌, ◌||◌, cond, length, map, Option, Some, None, option_map, ap, sym, refl, arith}
use Rattle.std.specs.List.{range_with_len}
use Rattle.std.proofs.lemmas.Simd.{map-map}
use Rattle.colbits.specs.Bitmap.{bit_of}
use Rattle.arrays.specs.Prelude.{Kind, Seen, bool_in, boolean, item_at, item_of_bool, null, same_kind, valid_in}
use Rattle.arrays.specs.Kind as kind
use Rattle.arrays.proofs.RangeLists.{map-range-below}
use Rattle.arrays.proofs.TruthLemmas.{bool_items-slot}
use Rattle.kernels.specs.Prelude.{HasTruths, and_known, at_each_place, conjunction, disjunction, negation, or_known, truth_of, truths_fault}
use Rattle.truths.specs.Truth.{truth_at, truths_of}
use Rattle.kernels.specs.declared.fault.KernelFault.{KernelFault}
use Rattle.kernels.specs.declared.fault.KernelFault.TheVariants.{TypesDiffer}
use Rattle.truths.proofs.TruthLemmas.{listed}

-- ---- views of truth values

pub kind_of_truths : (k : Kind) → same_kind k kind.boolean ≡ true → k ≡ kind.boolean
kind_of_truths (kind.int t) e = cc
kind_of_truths kind.boolean e = refl
kind_of_truths (kind.texts w) e = cc
kind_of_truths (kind.lists w k) e = cc
kind_of_truths kind.dict e = cc

tests_passed : (left right : Bool) (lengths : Option KernelFault) → cond (not (left && right)) (Some TypesDiffer) lengths ≡ None → (left ≡ true) × (right ≡ true)
tests_passed true true lengths e = (refl, refl)
tests_passed true false lengths e = cc
tests_passed false right lengths e = cc

-- two views that nothing keeps from being operands
pub kinds-from_no_fault : (a b : Seen) → truths_fault a b ≡ None → (a.kind ≡ kind.boolean) × (b.kind ≡ kind.boolean)
kinds-from_no_fault a b e =
    let passed = tests_passed (same_kind a.kind kind.boolean) (same_kind b.kind kind.boolean) _ e in
    (kind_of_truths a.kind passed.0, kind_of_truths b.kind passed.1)

truth_again : (o : Option Bool) → truth_of (item_of_bool o) ≡ o
truth_again None = refl
truth_again (Some b) = refl

-- the truth value of a slot is that of its item
truth_is : (bits : List Bool) (validity : Option (List Bool)) (s : Seen) (i : ℕ) → HasTruths bits validity s → i < length s.items → bool_in bits validity i ≡ truth_of (item_at s.items i)
truth_is bits validity s i has within =
    ap (λ v. bool_in bits v i) has.validity_is
    ∙ sym (ap truth_of (ap (λ l. item_at l i) has.values.values ∙ bool_items-slot bits s.validity (length s.items) i within) ∙ truth_again (bool_in bits s.validity i))

-- ---- the connectives at one place

not_place : (p x : Bool) → cond p (boolean (not x)) null ≡ item_of_bool (option_map not (cond p (Some x) None))
not_place true x = refl
not_place false x = refl

-- two bits tell whether both are 1 where both are valid, or a valid one is 0
abbrev pub tells_and : Bool → Bool → Bool → Bool → Bool
tells_and p x q y = (p && q) || ((p && not x) || (q && not y))

and_place : (p x q y : Bool) → cond (tells_and p x q y) (boolean (x && y)) null ≡ item_of_bool (and_known (cond p (Some x) None) (cond q (Some y) None))
and_place true true true y = refl
and_place true false true y = refl
and_place false true true true = refl
and_place false false true true = refl
and_place p x q y = refl

-- and whether either is 1 where both are valid, or a valid one is 1
abbrev pub tells_or : Bool → Bool → Bool → Bool → Bool
tells_or p x q y = (p && q) || ((p && x) || (q && y))

or_place : (p x q y : Bool) → cond (tells_or p x q y) (boolean (x || y)) null ≡ item_of_bool (or_known (cond p (Some x) None) (cond q (Some y) None))
or_place true true true y = refl
or_place true false true y = refl
or_place false true true true = refl
or_place false false true true = refl
or_place p x q y = refl

-- ---- columns

-- two columns, place by place
connected : (tells : Bool → Bool → Bool → Bool → Bool) (value : Bool → Bool → Bool) (f : Option Bool → Option Bool → Option Bool)
    → ((p x q y : Bool) → cond (tells p x q y) (boolean (value x y)) null ≡ item_of_bool (f (cond p (Some x) None) (cond q (Some y) None)))
    → (xs ys : List Bool) (v w : Option (List Bool)) (a b : Seen) → length xs ≡ length ys → HasTruths xs v a → HasTruths ys w b
    → truths_of (λ i. tells (valid_in v i) (bit_of xs i) (valid_in w i) (bit_of ys i)) (λ i. value (bit_of xs i) (bit_of ys i)) (length xs)
    ≡ at_each_place (λ x y. item_of_bool (f (truth_of x) (truth_of y))) a.items b.items
connected tells value f place xs ys v w a b same has_a has_b =
    let n = has_a.values.size in
    let m = has_b.values.size in
    map-range-below (truth_at (λ i. tells (valid_in v i) (bit_of xs i) (valid_in w i) (bit_of ys i)) (λ i. value (bit_of xs i) (bit_of ys i)))
    (λ i. item_of_bool (f (truth_of (item_at a.items i)) (truth_of (item_at b.items i)))) 0 (length xs)
    (λ i below.
    place (valid_in v (0 + i)) (bit_of xs (0 + i)) (valid_in w (0 + i)) (bit_of ys (0 + i))
    ∙ (λ j. item_of_bool (f (truth_is xs v a (0 + i) has_a (omega (arith, below, n)) j) (truth_is ys w b (0 + i) has_b (omega (arith, below, same, m)) j))))
    ∙ ap (λ k. map (λ i. item_of_bool (f (truth_of (item_at a.items i)) (truth_of (item_at b.items i)))) (range_with_len 0 k)) n

pub truths-conjunction : (xs ys : List Bool) (v w : Option (List Bool)) (a b : Seen) → length xs ≡ length ys → HasTruths xs v a → HasTruths ys w b
    → truths_of (λ i. tells_and (valid_in v i) (bit_of xs i) (valid_in w i) (bit_of ys i)) (λ i. bit_of xs i && bit_of ys i) (length xs) ≡ conjunction a.items b.items
truths-conjunction = connected tells_and ◌&&◌ and_known and_place

pub truths-disjunction : (xs ys : List Bool) (v w : Option (List Bool)) (a b : Seen) → length xs ≡ length ys → HasTruths xs v a → HasTruths ys w b
    → truths_of (λ i. tells_or (valid_in v i) (bit_of xs i) (valid_in w i) (bit_of ys i)) (λ i. bit_of xs i || bit_of ys i) (length xs) ≡ disjunction a.items b.items
truths-disjunction = connected tells_or ◌||◌ or_known or_place

pub truths-negation : (bits : List Bool) (v : Option (List Bool)) (s : Seen) → HasTruths bits v s → truths_of (valid_in v) (λ i. not (bit_of bits i)) (length bits) ≡ negation s.items
truths-negation bits v s has =
    let n = has.values.size in
    map-range-below (truth_at (valid_in v) (λ i. not (bit_of bits i))) (λ i. item_of_bool (option_map not (truth_of (item_at s.items i)))) 0 (length bits)
    (λ i below. not_place (valid_in v (0 + i)) (bit_of bits (0 + i)) ∙ ap (λ o. item_of_bool (option_map not o)) (truth_is bits v s (0 + i) has (omega (arith, below, n))))
    ∙ ap (λ k. map (λ i. item_of_bool (option_map not (truth_of (item_at s.items i)))) (range_with_len 0 k)) n
    ∙ sym (map-map (λ x. item_of_bool (option_map not (truth_of x))) (λ i. item_at s.items i) (range_with_len 0 (length s.items)))
    ∙ ap negation (listed s.items null)
