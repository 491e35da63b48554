-- Two columns of numbers, computed place by place.
use Rattle.std.proofs.Common.{◌≡◌, ◌∙◌, ℕ, ◌+◌, ◌<◌, ◌&&◌, ◌==◌, ℤ, List, [], map, Bool, true, false, not, length, cond, get_or, Option, Some, None, option_map, Result, Ok, Err, IfErr, IsErrAnd, ap, sym, subst, refl, arith, zero-add, position, inl, inr}
use Rattle.std.specs.List.{range_with_len}
use Rattle.std.proofs.lemmas.Bool.Decides.{nat_tests}
use Rattle.std.proofs.lemmas.Simd.{map-map}
use Rattle.std.proofs.lemmas.List.FromFn.{get_or-map-range_with_len}
use Rattle.std.specs.Option.{option_or}
use Rattle.colbits.specs.Bit.{bits}
use Rattle.arrays.specs.Prelude.{HasNumbers, IntType, IsBufferOf, Item, Kind, Seen, W16, W32, W64, W8, Width, int, is_null, is_of_type, is_valid_in, item_at, kept, least_row, no_entries, null, number_at, same_int, show_numbers, shown, valid_at, valid_in}
use Rattle.arrays.specs.Kind as kind
use Rattle.arrays.proofs.RangeLists.{map-range-below}
use Rattle.arrays.proofs.RowLemmas.{least_found, least_none}
use Rattle.arrays.proofs.SchemaLemmas.{position-map}
use Rattle.kernels.specs.Prelude.{AreOfType, AreResults, IsKernelFault, IsLeastOutside, StopsAt, are_one_int, arithmetic_fault, exact, first_bad, is_outside, lifted, operands_fault, result_at, results, shape_fault}
use Rattle.truths.specs.Valid.{valid_in_both, both_valid}
use Rattle.arrays.proofs.ValidityLemmas.{valid-kept-places, kept_buffer}
use Rattle.kernels.specs.declared.fault.KernelFault.{KernelFault}
use Rattle.kernels.specs.declared.fault.KernelFault.TheVariants.{TypesDiffer, LengthsDiffer, Overflow, NoMemory}

-- the validity of the results at a slot
valid_in-kept : (a b : Seen) (j : ℕ) → j < length a.items → valid_in (kept (both_valid a b)) j ≡ valid_in_both a b j
valid_in-kept a b j below = valid-kept-places (valid_in_both a b) (length a.items) j below

-- ---- items

-- the number of a slot where it is valid, else null
slot : (ℕ → Bool) → (ℕ → ℤ) → ℕ → Item
slot valid number j = cond (valid j) (int (number j)) null

-- the items are these numbers where the slot is valid, else null
abbrev pub AreNumbers : (ℕ → ℤ) → Seen → Type 0
AreNumbers x s = (j : ℕ) → j < length s.items → item_at s.items j ≡ cond (valid_at s j) (int (x j)) null

-- the numbers of a column
pub column_numbers : (t : IntType) (bytes : List ℕ) (s : Seen) → HasNumbers t bytes s → AreNumbers (number_at t bytes) s
column_numbers t bytes s has j below =
    ap (λ items. get_or items j null) has.numbers
    ∙ get_or-map-range_with_len (λ k. cond (valid_at s k) (int (number_at t bytes k)) null) 0 (length s.items) j j null below (zero-add j)

lifted_slots : (f : ℤ → ℤ → ℤ) (p q : Bool) (x y : ℤ) → lifted (exact f) (cond p (int x) null) (cond q (int y) null) ≡ cond (p && q) (int (f x y)) null
lifted_slots f true true x y = refl
lifted_slots f true false x y = refl
lifted_slots f false true x y = refl
lifted_slots f false false x y = refl

-- the results of two columns of numbers
results_slots : (f : ℤ → ℤ → ℤ) (t : IntType) (x y : ℕ → ℤ) (a b : Seen) → AreNumbers x a → AreNumbers y b → length a.items ≡ length b.items
    → results f a.items b.items ≡ map (slot (valid_in_both a b) (result_at f x y)) (range_with_len 0 (length a.items))
unfolding slot
results_slots f t x y a b of_a of_b lengths =
    let n = length a.items in
    let each : ℕ → Item = λ j. lifted (exact f) (item_at a.items j) (item_at b.items j) in
    let same : (j : ℕ) → j < n → each j ≡ slot (valid_in_both a b) (result_at f x y) j =
    λ j below.
    ap (λ i. lifted (exact f) i (item_at b.items j)) (of_a j below)
    ∙ ap (lifted (exact f) (cond (valid_at a j) (int (x j)) null)) (of_b j (omega arith))
    ∙ lifted_slots f (valid_at a j) (valid_at b j) (x j) (y j) in
    map-range-below each (slot (valid_in_both a b) (result_at f x y)) 0 n (λ j below. ap each (zero-add j) ∙ same j below ∙ ap (slot (valid_in_both a b) (result_at f x y)) (sym (zero-add j)))

-- ---- the least slot whose result is outside the type

outside_slot : (t : IntType) (v : Bool) (z : ℤ) → is_outside t (cond v (int z) null) ≡ (v && not (is_of_type t z))
outside_slot t true z = refl
outside_slot t false z = refl

first_bad_slots : (f : ℤ → ℤ → ℤ) (t : IntType) (x y : ℕ → ℤ) (a b : Seen) → AreNumbers x a → AreNumbers y b → length a.items ≡ length b.items
    → first_bad f (kind.int t) a.items b.items ≡ least_row (λ j. valid_in_both a b j && not (is_of_type t (result_at f x y j))) (length a.items)
unfolding slot
first_bad_slots f t x y a b of_a of_b lengths =
    ap (position (is_outside t)) (results_slots f t x y a b of_a of_b lengths)
    ∙ position-map (is_outside t) (λ j. valid_in_both a b j && not (is_of_type t (result_at f x y j))) (slot (valid_in_both a b) (result_at f x y))
    (λ j. outside_slot t (valid_in_both a b j) (result_at f x y j)) (range_with_len 0 (length a.items))

within : (v fits : Bool) → (v ≡ true → fits ≡ true) → (v && not fits) ≡ false
within false fits h = refl
within true fits h = ap not (h refl)

first_bad-none : (f : ℤ → ℤ → ℤ) (t : IntType) (x y : ℕ → ℤ) (a b : Seen) → AreNumbers x a → AreNumbers y b → length a.items ≡ length b.items
    → AreOfType t (result_at f x y) (valid_in (kept (both_valid a b))) (length a.items) → first_bad f (kind.int t) a.items b.items ≡ None
first_bad-none f t x y a b of_a of_b lengths are =
    first_bad_slots f t x y a b of_a of_b lengths
    ∙ least_none (λ j. valid_in_both a b j && not (is_of_type t (result_at f x y j))) (length a.items)
    (λ j below. within (valid_in_both a b j) (is_of_type t (result_at f x y j)) (λ is_valid. are.each j below (valid_in-kept a b j below ∙ is_valid)))

first_bad-some : (f : ℤ → ℤ → ℤ) (t : IntType) (x y : ℕ → ℤ) (a b : Seen) (row : ℕ) → AreNumbers x a → AreNumbers y b → length a.items ≡ length b.items
    → IsLeastOutside t (result_at f x y) (valid_in (kept (both_valid a b))) (length a.items) row → first_bad f (kind.int t) a.items b.items ≡ Some row
first_bad-some f t x y a b row of_a of_b lengths is =
    let here : (valid_in_both a b row && not (is_of_type t (result_at f x y row))) ≡ true =
    ap (λ v. v && not (is_of_type t (result_at f x y row))) (sym (valid_in-kept a b row is.within) ∙ is.is_valid) ∙ ap not is.outside in
    first_bad_slots f t x y a b of_a of_b lengths
    ∙ least_found (λ j. valid_in_both a b j && not (is_of_type t (result_at f x y j))) (length a.items) row is.within here
    (λ j before. within (valid_in_both a b j) (is_of_type t (result_at f x y j)) (λ is_valid. is.before.each j before (valid_in-kept a b j (before_all j before) ∙ is_valid)))
  where
    before_all : (j : ℕ) → j < row → j < length a.items
    before_all j before = let below = is.within in omega arith

-- ---- faults

one_int : (w : Width) (signed : Bool) → same_int (record { bits = w; signed = signed }) (record { bits = w; signed = signed }) ≡ true
one_int W8 true = refl
one_int W16 true = refl
one_int W32 true = refl
one_int W64 true = refl
one_int w signed = refl

same_length : (m n : ℕ) → m ≡ n → (m == n) ≡ true
same_length m n h = grind (arith, nat_tests)

operands_fit : (t : IntType) (a b : Seen) → a.kind ≡ kind.int t → b.kind ≡ kind.int t → length a.items ≡ length b.items → operands_fault a b ≡ None
operands_fit t a b kind_a kind_b lengths =
    ap (λ k. shape_fault (are_one_int k b.kind) a b) kind_a
    ∙ ap (λ k. shape_fault (are_one_int (kind.int t) k) a b) kind_b
    ∙ ap (λ s. shape_fault s a b) (one_int t.bits t.signed)
    ∙ ap (λ s. cond (not s) (Some LengthsDiffer) None) (same_length (length a.items) (length b.items) lengths)

-- two columns of numbers of one type, and of one length
pub record AreOperands (t : IntType) (x y : ℕ → ℤ) (a b : Seen) : Type 0 where
  pub kind_a : a.kind ≡ kind.int t
  pub kind_b : b.kind ≡ kind.int t
  pub lengths : length a.items ≡ length b.items
  pub of_a : AreNumbers x a
  pub of_b : AreNumbers y b

pub two_columns : (t : IntType) (x y : List ℕ) (a b : Seen) → a.kind ≡ kind.int t → b.kind ≡ kind.int t → length a.items ≡ length b.items → HasNumbers t x a → HasNumbers t y b
    → AreOperands t (number_at t x) (number_at t y) a b
two_columns t x y a b kind_a kind_b lengths of_a of_b = record {
  kind_a = kind_a;
  kind_b = kind_b;
  lengths = lengths;
  of_a = column_numbers t x a of_a;
  of_b = column_numbers t y b of_b;
}

fault_at : (f : ℤ → ℤ → ℤ) (t : IntType) (x y : ℕ → ℤ) (a b : Seen) (row : Option ℕ) → AreOperands t x y a b → first_bad f (kind.int t) a.items b.items ≡ row
    → arithmetic_fault f a b ≡ option_map (λ row. Overflow row) row
fault_at f t x y a b row are is =
    ap (λ s. option_or s (option_map (λ row. Overflow row) (first_bad f a.kind a.items b.items))) (operands_fit t a b are.kind_a are.kind_b are.lengths)
    ∙ ap (λ k. option_map (λ row. Overflow row) (first_bad f k a.items b.items)) are.kind_a
    ∙ ap (option_map (λ row. Overflow row)) is

pub reported : (f : ℤ → ℤ → ℤ) (t : IntType) (x y : ℕ → ℤ) (a b : Seen) (valid : Option (List Bool)) (n : ℕ) (e : KernelFault) → AreOperands t x y a b → valid ≡ kept (both_valid a b)
    → n ≡ length a.items → StopsAt t (result_at f x y) (valid_in valid) n e → IsKernelFault (operands_fault a b) (arithmetic_fault f a b) e
reported f t x y a b valid n (Overflow row) are kept_is size stops =
    let least = subst (λ v. IsLeastOutside t (result_at f x y) (valid_in v) n row) kept_is stops in
    let least = subst (λ m. IsLeastOutside t (result_at f x y) (valid_in (kept (both_valid a b))) m row) size least in
    inl (fault_at f t x y a b (Some row) are (first_bad-some f t x y a b row are.of_a are.of_b are.lengths least))
reported f t x y a b valid n NoMemory are kept_is size stops = inr (refl, operands_fit t a b are.kind_a are.kind_b are.lengths)
reported f t x y a b valid n TypesDiffer are kept_is size stops = absurd stops
reported f t x y a b valid n LengthsDiffer are kept_is size stops = absurd stops

-- an error that is passed on
pub reported_on : {T : Type 0} (r : Result T KernelFault) (shape all : Option KernelFault) (e : KernelFault) → IsErrAnd r (λ x. x ≡ e) → IsKernelFault shape all e → IfErr r (IsKernelFault shape all)
reported_on (Ok v) shape all e same h = tt
reported_on (Err x) shape all e same h = subst (IsKernelFault shape all) (sym same) h

-- ---- the array of the results

made : Kind → Option (List Bool) → List Item → Seen
made k valid items = record { kind = k; validity = valid; items = items; codes = []; entries = no_entries }

is_there : (v : Bool) (z : ℤ) → not (is_null (cond v (int z) null)) ≡ v
is_there true z = refl
is_there false z = refl

slots_there : (valid : ℕ → Bool) (number : ℕ → ℤ) (n : ℕ) → map (λ x. not (is_null x)) (map (slot valid number) (range_with_len 0 n)) ≡ map valid (range_with_len 0 n)
unfolding slot
slots_there valid number n =
    map-map (λ x. not (is_null x)) (slot valid number) (range_with_len 0 n)
    ∙ map-range-below (λ j. not (is_null (slot valid number j))) valid 0 n (λ j below. is_there (valid (0 + j)) (number (0 + j)))

slot_same : (p q : Bool) (x y : ℤ) → p ≡ q → (q ≡ true → x ≡ y) → cond p (int x) null ≡ cond q (int y) null
slot_same p true x y same is = ap (λ v. cond v (int x) null) same ∙ ap int (is refl)
slot_same p false x y same is = ap (λ v. cond v (int x) null) same

-- the array has the results, and no fault stands
pub record IsComputed (f : ℤ → ℤ → ℤ) (a b r : Seen) : Type 0 where
  pub faultless : arithmetic_fault f a b ≡ None
  pub shows : r ≡ shown a.kind (results f a.items b.items)

pub computed : (f : ℤ → ℤ → ℤ) (t : IntType) (x y : ℕ → ℤ) (a b : Seen) (valid : Option (List Bool)) (n : ℕ) (bitmap : Option (List ℕ)) (numbers : List ℕ) → AreOperands t x y a b
    → valid ≡ kept (both_valid a b) → n ≡ length a.items → IsBufferOf bitmap valid → AreResults t (result_at f x y) (valid_in valid) n numbers
    → IsComputed f a b (show_numbers t n bitmap numbers)
unfolding slot made
computed f t x y a b valid n bitmap numbers are kept_is size holds results_are =
    let value = result_at f x y in
    let both = valid_in_both a b in
    let fine = subst (λ m. AreOfType t value (valid_in (kept (both_valid a b))) m) size (subst (λ v. AreOfType t value (valid_in v) n) kept_is results_are.of_type) in
    let packed = kept_buffer n both bitmap valid (kept_is ∙ ap (λ m. kept (map both (range_with_len 0 m))) (sym size)) holds in
    let known : (j : ℕ) → j < n → valid_in valid j ≡ both j = λ j below. ap (λ v. valid_in v j) kept_is ∙ valid_in-kept a b j (omega arith) in
    let here : ℕ → Item = λ j. cond (is_valid_in bitmap j) (int (number_at t numbers j)) null in
    let same : (j : ℕ) → j < n → here j ≡ slot both value j =
    λ j below.
    slot_same (is_valid_in bitmap j) (both j) (number_at t numbers j) (value j) (packed.each j below)
    (λ is_valid. results_are.numbers j below (known j below ∙ is_valid)) in
    let slots = results_slots f t x y a b are.of_a are.of_b are.lengths in
    let items : map here (range_with_len 0 n) ≡ results f a.items b.items =
    map-range-below here (slot both value) 0 n (λ j below. ap here (zero-add j) ∙ same j below ∙ ap (slot both value) (sym (zero-add j)))
    ∙ ap (λ m. map (slot both value) (range_with_len 0 m)) size
    ∙ sym slots in
    let validity : option_map (λ bytes. bits bytes 0 n) bitmap ≡ kept (map (λ x. not (is_null x)) (results f a.items b.items)) =
    packed.shown
    ∙ ap (λ m. kept (map both (range_with_len 0 m))) size
    ∙ ap kept (sym (ap (map (λ x. not (is_null x))) slots ∙ slots_there both value (length a.items))) in
    record {
      faultless = fault_at f t x y a b None are (first_bad-none f t x y a b are.of_a are.of_b are.lengths fine);
      shows =
          ap (λ v. made (kind.int t) v (map here (range_with_len 0 n))) validity
          ∙ ap (made (kind.int t) (kept (map (λ x. not (is_null x)) (results f a.items b.items)))) items
          ∙ ap (λ k. made k (kept (map (λ x. not (is_null x)) (results f a.items b.items))) (results f a.items b.items)) (sym are.kind_a);
    }
