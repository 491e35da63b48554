-- What kernels make, place by place.
use Rattle.std.proofs.Common.{◌≡◌, ◌∙◌, ℕ, ◌<◌, ◌≤◌, nat_lt, arith, inl, inr, ℤ, List, map, length, Bool, true, false, not, cond, eqb, position, Option, Some, None, option_map, ap, sym, refl, zero-add, true≢false, eq-eqb}
use Rattle.std.specs.List.{position_or_len}
use Rattle.std.specs.Option.{option_or}
use Rattle.std.specs.Prelude.{⊤}
use Rattle.std.proofs.lemmas.Bool.{ltb-false}
use Rattle.std.proofs.lemmas.List.{get_or-map, length-map}
use Rattle.std.proofs.lemmas.List.FromFn.{get_or-map-range_with_len, length-map-range_with_len}
use Rattle.std.proofs.lemmas.List.Quantifiers.{position-Some}
use Rattle.std.proofs.lemmas.List.Sums.{fails_before_first}
use Rattle.arrays.specs.Prelude.{IntType, Item, Kind, Seen, item_at, null, shown}
use Rattle.arrays.specs.Kind as kind
use Rattle.kernels.specs.Prelude.{IsKernelFault, are_one_int, arithmetic_fault, at_each_place, exact, first_bad, is_outside, lifted, operands_fault, results}
use Rattle.kernels.specs.declared.fault.KernelFault.{KernelFault}
use Rattle.kernels.specs.declared.fault.KernelFault.TheVariants.{LengthsDiffer, NoMemory, Overflow, TypesDiffer}
use Rattle.query.specs.Sorts.{sort_of_kind}
use Rattle.evaluate.specs.Prelude.{bounded, is_of_operands, stop_of}
use Rattle.evaluate.specs.declared.stop.Stop.{Stop}
use Rattle.evaluate.specs.declared.stop.Stop.TheVariants as stop

-- ---- columns in the making

-- The array has what is made at each of n places.
pub record IsPlaced (k : Kind) (made : ℕ → Item) (n : ℕ) (a : Seen) : Type 0 where
  pub kind : a.kind ≡ k
  pub len : length a.items ≡ n
  pub each : (i : ℕ) → i < n → item_at a.items i ≡ made i

-- An item of the kind: it isn't outside an integer type.
abbrev pub bounded_of : Kind → Item → Option Item
bounded_of k x = bounded (sort_of_kind k) x

-- The same, and none of the items is outside the kind.
pub record IsPlacedIn (k : Kind) (made : ℕ → Item) (n : ℕ) (a : Seen) : Type 0 where
  pub kind : a.kind ≡ k
  pub len : length a.items ≡ n
  pub each : (i : ℕ) → i < n → bounded_of k (made i) ≡ Some (item_at a.items i)

abbrev pub StopsOutside : Kind → (ℕ → Item) → ℕ → Stop → Type 0
StopsOutside k made n (stop.Bad row) = (row < n) × (bounded_of k (made row) ≡ None)
StopsOutside k made n stop.NoMemory = ⊤

-- ---- items one by one

pub unary_placed : (k : Kind) (g : Item → Item) (xs : List Item) → IsPlaced k (λ i. g (item_at xs i)) (length xs) (shown k (map g xs))
unary_placed k g xs = record { kind = refl; len = length-map xs g; each = λ i below. get_or-map g xs i null null below }

pub binary_placed : (k : Kind) (f : Item → Item → Item) (xs ys : List Item) → IsPlaced k (λ i. f (item_at xs i) (item_at ys i)) (length xs) (shown k (at_each_place f xs ys))
binary_placed k f xs ys =
    let made : ℕ → Item = λ i. f (item_at xs i) (item_at ys i) in
    record { kind = refl; len = length-map-range_with_len made 0 (length xs); each = λ i below. get_or-map-range_with_len made 0 (length xs) i i null below (zero-add i) }

-- ---- exact results

pub all_before : {X : Type 0} (p : X → Bool) (xs : List X) → position p xs ≡ None → length xs ≤ position_or_len p xs
all_before p xs is = go (nat_lt (position_or_len p xs) (length xs)) refl where
  go : (b : Bool) → nat_lt (position_or_len p xs) (length xs) ≡ b → length xs ≤ position_or_len p xs
  go true h = let never : ◌≡◌ {A = Option ℕ} None (Some (position_or_len p xs)) = sym is ∙ ap (λ b. cond b (Some (position_or_len p xs)) None) h in absurd (cc never)
  go false h = omega (arith, ltb-false (position_or_len p xs) (length xs) h)

none_outside : (t : IntType) (xs : List Item) → position (is_outside t) xs ≡ None → (i : ℕ) → i < length xs → is_outside t (item_at xs i) ≡ false
none_outside t xs is i below = fails_before_first (is_outside t) xs i null (omega (arith, below, all_before (is_outside t) xs is))

pub one_length : (a b : Seen) → length a.items ≡ length b.items → are_one_int a.kind b.kind ≡ true → operands_fault a b ≡ None
one_length a b lengths kinds =
    ap (λ k. cond (not k) (Some TypesDiffer) (cond (not (eqb (length a.items) (length b.items))) (Some LengthsDiffer) None)) kinds
    ∙ ap (λ k. cond (not k) (Some LengthsDiffer) None) (eq-eqb (length a.items) (length b.items) lengths)

only_rows : (f : ℤ → ℤ → ℤ) (a b : Seen) → length a.items ≡ length b.items → are_one_int a.kind b.kind ≡ true
    → arithmetic_fault f a b ≡ option_map (λ row. Overflow row) (first_bad f a.kind a.items b.items)
only_rows f a b lengths kinds = ap (λ o. option_or o (option_map (λ row. Overflow row) (first_bad f a.kind a.items b.items))) (one_length a b lengths kinds)

results_at : (f : ℤ → ℤ → ℤ) (xs ys : List Item) (i : ℕ) → i < length xs → item_at (results f xs ys) i ≡ lifted (exact f) (item_at xs i) (item_at ys i)
results_at f xs ys i below = get_or-map-range_with_len (λ j. lifted (exact f) (item_at xs j) (item_at ys j)) 0 (length xs) i i null below (zero-add i)

results_long : (f : ℤ → ℤ → ℤ) (xs ys : List Item) → length (results f xs ys) ≡ length xs
results_long f xs ys = length-map-range_with_len (λ j. lifted (exact f) (item_at xs j) (item_at ys j)) 0 (length xs)

no_row : (o : Option ℕ) → option_map (λ row. Overflow row) o ≡ None → o ≡ None
no_row None h = refl
no_row (Some row) h = absurd cc

some_row : (o : Option ℕ) (row : ℕ) → option_map (λ r. Overflow r) o ≡ Some (Overflow row) → o ≡ Some row
some_row None row h = absurd cc
some_row (Some r) row h = cc

-- The exact results of two columns of one integer type, where none is outside it.
pub exact_placed : (f : ℤ → ℤ → ℤ) (a b : Seen) → length a.items ≡ length b.items → are_one_int a.kind b.kind ≡ true → arithmetic_fault f a b ≡ None
    → IsPlacedIn a.kind (λ i. lifted (exact f) (item_at a.items i) (item_at b.items i)) (length a.items) (shown a.kind (results f a.items b.items))
exact_placed f a b lengths kinds none = record {
  kind = refl;
  len = results_long f a.items b.items;
  each = λ i below. inside a.kind b.kind kinds (no_row (first_bad f a.kind a.items b.items) (sym (only_rows f a b lengths kinds) ∙ none)) i below;
} where
  inside : (k l : Kind) → are_one_int k l ≡ true → first_bad f k a.items b.items ≡ None → (i : ℕ) → i < length a.items
      → bounded_of k (lifted (exact f) (item_at a.items i) (item_at b.items i)) ≡ Some (item_at (results f a.items b.items) i)
  inside (kind.int t) l one is i below =
      let here = results_at f a.items b.items i below in
      let within : i < length (results f a.items b.items) = omega (arith, below, results_long f a.items b.items) in
      ap (λ x. bounded_of (kind.int t) x) (sym here)
      ∙ ap (λ p. cond p None (Some (item_at (results f a.items b.items) i))) (none_outside t (results f a.items b.items) is i within)
  inside kind.boolean l one is i below = absurd (true≢false (sym one))
  inside (kind.texts w) l one is i below = absurd (true≢false (sym one))
  inside (kind.lists w k) l one is i below = absurd (true≢false (sym one))
  inside kind.dict l one is i below = absurd (true≢false (sym one))

outside_at : (f : ℤ → ℤ → ℤ) (a b : Seen) (row : ℕ) → length a.items ≡ length b.items → are_one_int a.kind b.kind ≡ true
    → IsKernelFault (operands_fault a b) (arithmetic_fault f a b) (Overflow row)
    → (row < length a.items) × (bounded_of a.kind (lifted (exact f) (item_at a.items row) (item_at b.items row)) ≡ None)
outside_at f a b row lengths kinds (inr wanting) = absurd (cc (wanting.0))
outside_at f a b row lengths kinds (inl is) =
    outside a.kind b.kind kinds (some_row (first_bad f a.kind a.items b.items) row (sym (only_rows f a b lengths kinds) ∙ is)) where
      outside : (k l : Kind) → are_one_int k l ≡ true → first_bad f k a.items b.items ≡ Some row
          → (row < length a.items) × (bounded_of k (lifted (exact f) (item_at a.items row) (item_at b.items row)) ≡ None)
      outside (kind.int t) l one found =
          let h = position-Some (is_outside t) (results f a.items b.items) row null found in
          let below : row < length a.items = omega (arith, h.0, results_long f a.items b.items) in
          (below, ap (λ x. bounded_of (kind.int t) x) (sym (results_at f a.items b.items row below)) ∙ ap (λ p. cond p None (Some (item_at (results f a.items b.items) row))) h.1)
      outside kind.boolean l one found = absurd (true≢false (sym one))
      outside (kind.texts w) l one found = absurd (true≢false (sym one))
      outside (kind.lists w k) l one found = absurd (true≢false (sym one))
      outside kind.dict l one found = absurd (true≢false (sym one))

-- A fault of these two columns is a row, or want of memory.
pub sole_fault : (f : ℤ → ℤ → ℤ) (a b : Seen) → length a.items ≡ length b.items → are_one_int a.kind b.kind ≡ true → (e : KernelFault)
    → IsKernelFault (operands_fault a b) (arithmetic_fault f a b) e → StopsOutside a.kind (λ i. lifted (exact f) (item_at a.items i) (item_at b.items i)) (length a.items) (stop_of e)
sole_fault f a b lengths kinds (Overflow row) reported = outside_at f a b row lengths kinds reported
sole_fault f a b lengths kinds TypesDiffer reported = tt
sole_fault f a b lengths kinds LengthsDiffer reported = tt
sole_fault f a b lengths kinds NoMemory reported = tt

pub sole_row : (f : ℤ → ℤ → ℤ) (a b : Seen) → length a.items ≡ length b.items → are_one_int a.kind b.kind ≡ true → (e : KernelFault)
    → IsKernelFault (operands_fault a b) (arithmetic_fault f a b) e → is_of_operands e ≡ false
sole_row f a b lengths kinds e (inr wanting) = ap is_of_operands wanting.0
sole_row f a b lengths kinds e (inl is) = of_row (first_bad f a.kind a.items b.items) (sym (only_rows f a b lengths kinds) ∙ is) where
  of_row : (o : Option ℕ) → option_map (λ row. Overflow row) o ≡ Some e → is_of_operands e ≡ false
  of_row None h = absurd cc
  of_row (Some row) h =
      let same : Overflow row ≡ e = cc in
      ap is_of_operands (sym same)
