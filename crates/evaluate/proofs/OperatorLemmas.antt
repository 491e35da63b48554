-- What operators make of columns.
use Rattle.std.proofs.Common.{◌≡◌, ◌∙◌, ℕ, ◌&&◌, ℤ, List, map, length, Bool, true, false, not, cond, eqb, is_some, replicate, zero-add, Option, Some, None, Result, Ok, Err, IfErr, IfOk, ap, sym, refl, subst, true≢false, eq-eqb, inl, inr}
use Rattle.arrays.specs.Prelude.{IntType, Item, Kind, Seen, boolean, holds_at, int, int64, is_null, is_of_type, item_at, list, null, order, same_kind, shown, text}
use Rattle.kernels.specs.Prelude.{IsKernelFault, are_comparable, arithmetic_fault, compared, comparison_fault, conjunction, disjunction, exact, lifted, meets, negation, nulls, operands_fault, results, truth_at, truth_fault, truths_fault, truths_of}
use Rattle.std.proofs.lemmas.List.{length-replicate, get_or-replicate}
use Rattle.std.specs.List.{range_with_len}
use Rattle.std.proofs.lemmas.List.FromFn.{get_or-map-range_with_len, length-map-range_with_len}
use Rattle.std.specs.Prelude.{option_and_then}
use Rattle.arrays.specs.Kind as kind
use Rattle.kernels.specs.declared.comparison.CmpOp.{CmpOp}
use Rattle.kernels.specs.declared.comparison.CmpOp.TheVariants as cmp
use Rattle.kernels.specs.declared.fault.KernelFault.{KernelFault}
use Rattle.kernels.specs.declared.fault.KernelFault.TheVariants as faults
use Rattle.kernels.specs.declared.fault.KernelFault.TheVariants.{LengthsDiffer, TypesDiffer}
use Rattle.query.specs.Sorts as sorts
use Rattle.query.specs.Sorts.{is_alike, is_int, is_truth, sort_of_kind}
use Rattle.query.specs.declared.expr.Op.{Op}
use Rattle.query.specs.declared.expr.Op.TheVariants as op
use Rattle.query.specs.declared.sort.Sort.{Sort}
use Rattle.query.specs.declared.sort.Sort.TheVariants.{Int, Literal, Text, Truth}
use Rattle.evaluate.proofs.PlaceLemmas.{IsPlaced, IsPlacedIn, StopsOutside, binary_placed, exact_placed, sole_fault, sole_row, unary_placed}
use Rattle.evaluate.proofs.SortLemmas.{comparable, one_int, truths}
use Rattle.evaluate.specs.Prelude.{AreMade, Gives, StopsMaking, bounded_by, comparison, comparison_of, in_order, is_of_operands, of_one, of_two, stop_of, values_of}
use Rattle.evaluate.specs.declared.stop.Stop as stop
use Rattle.evaluate.specs.declared.stop.Stop.TheVariants as stops
use Rattle.evaluate.specs.declared.values.Operand.TheVariants.{Made}
use Rattle.evaluate.specs.declared.values.Values.{Values}
use Rattle.evaluate.specs.declared.values.Values.TheVariants.{Column}

-- ---- truth values

sole : (b : Bool) (s : Sort) → is_some (cond b (Some s) None) ≡ true → cond b (Some s) None ≡ Some s
sole true s h = refl
sole false s h = absurd (true≢false (sym h))

pub truth_made : (s : Option Sort) (made : ℕ → Item) (n : ℕ) (a : Seen) → s ≡ Some Truth → IsPlaced kind.boolean made n a → AreMade s made n (Column (Made a))
truth_made s made n a is placed = record {
  sort = is ∙ ap (λ k. Some (sort_of_kind k)) (sym placed.kind);
  enough = placed.len;
  each = λ i below. ap (λ o. bounded_by o (made i)) is ∙ ap (λ x. Some x) (sym (placed.each i below));
}

no_fault : (suit : Bool) (n m : ℕ) (e : KernelFault) → suit ≡ true → n ≡ m
    → IsKernelFault (cond (not suit) (Some TypesDiffer) (cond (not (eqb n m)) (Some LengthsDiffer) None)) (cond (not suit) (Some TypesDiffer) (cond (not (eqb n m)) (Some LengthsDiffer) None)) e → e ≡ faults.NoMemory
no_fault suit n m e fine same (inr wanting) = wanting.0
no_fault suit n m e fine same (inl is) =
    let none : cond (not suit) (Some TypesDiffer) (cond (not (eqb n m)) (Some LengthsDiffer) None) ≡ None =
    ap (λ b. cond (not b) (Some TypesDiffer) (cond (not (eqb n m)) (Some LengthsDiffer) None)) fine ∙ ap (λ b. cond (not b) (Some LengthsDiffer) None) (eq-eqb n m same) in
    let never : ◌≡◌ {A = Option KernelFault} None (Some e) = sym none ∙ is in absurd (cc never)

pub no_type_fault : (suit : Bool) (e : KernelFault) → suit ≡ true → IsKernelFault (cond suit None (Some TypesDiffer)) (cond suit None (Some TypesDiffer)) e → e ≡ faults.NoMemory
no_type_fault suit e fine (inr wanting) = wanting.0
no_type_fault suit e fine (inl is) =
    let never : ◌≡◌ {A = Option KernelFault} None (Some e) = sym (ap (λ b. cond b None (Some TypesDiffer)) fine) ∙ is in absurd (cc never)

-- ---- what a kernel gives

pub given_values : (P : Seen → Type 0) (Q : Values → Type 0) (k : Result Seen KernelFault) (r : Result Values stop.Stop) → r ≡ values_of k → IfOk k P → ((a : Seen) → P a → Q (Column (Made a))) → IfOk r Q
given_values P Q (Ok a) r is h f = subst (λ r. IfOk r Q) (sym is) (f a h)
given_values P Q (Err e) r is h f = subst (λ r. IfOk r Q) (sym is) tt

pub given_stop : (P : KernelFault → Type 0) (Q : stop.Stop → Type 0) (k : Result Seen KernelFault) (r : Result Values stop.Stop) → r ≡ values_of k → IfErr k P → ((e : KernelFault) → P e → Q (stop_of e)) → IfErr r Q
given_stop P Q (Ok a) r is h f = subst (λ r. IfErr r Q) (sym is) tt
given_stop P Q (Err e) r is h f = subst (λ r. IfErr r Q) (sym is) (f e h)

pub given_rows : (P : KernelFault → Type 0) (k : Result Seen KernelFault) → IfErr k P → ((e : KernelFault) → P e → is_of_operands e ≡ false) → IfErr k (λ e. is_of_operands e ≡ false)
given_rows P (Ok a) h f = tt
given_rows P (Err e) h f = f e h

module _ (s : Option Sort) (made : ℕ → Item) (n : ℕ) where
  pub gives : (P : Seen → Type 0) (Q : KernelFault → Type 0) (k : Result Seen KernelFault) → IfOk k P → IfErr k Q → ((e : KernelFault) → Q e → is_of_operands e ≡ false)
      → ((a : Seen) → P a → AreMade s made n (Column (Made a))) → ((e : KernelFault) → Q e → StopsMaking s made n (stop_of e)) → Gives s made n k
  gives P Q (Ok a) ok err fits values stops = record { fits = tt; ok = values a ok; err = tt }
  gives P Q (Err e) ok err fits values stops = record { fits = fits e err; ok = tt; err = stops e err }

  -- No row is bad.
  pub gives_all : (P : Seen → Type 0) (Q : KernelFault → Type 0) (k : Result Seen KernelFault) → IfOk k P → IfErr k Q → ((a : Seen) → P a → AreMade s made n (Column (Made a)))
      → ((e : KernelFault) → Q e → e ≡ faults.NoMemory) → Gives s made n k
  gives_all P Q k ok err values stops =
      gives P Q k ok err (λ e fault. ap is_of_operands (stops e fault)) values (λ e fault. subst (λ f. StopsMaking s made n (stop_of f)) (sym (stops e fault)) tt)

  pub given_ok : (k : Result Seen KernelFault) (r : Result Values stop.Stop) → r ≡ values_of k → Gives s made n k → IfOk r (AreMade s made n)
  given_ok k r is given = given_values _ _ k r is given.ok (λ a made. made)

  pub given_err : (k : Result Seen KernelFault) (r : Result Values stop.Stop) → r ≡ values_of k → Gives s made n k → IfErr r (StopsMaking s made n)
  given_err k r is given = given_stop _ _ k r is given.err (λ e at. at)

-- ---- one column

module _ (k : Kind) (xs : List Item) (r : Seen) where
  pub not_made : is_some (sorts.of_one op.Not (sort_of_kind k)) ≡ true → r ≡ shown kind.boolean (negation xs)
      → AreMade (sorts.of_one op.Not (sort_of_kind k)) (λ i. of_one op.Not (item_at xs i)) (length xs) (Column (Made r))
  not_made h is =
      truth_made (sorts.of_one op.Not (sort_of_kind k)) (λ i. of_one op.Not (item_at xs i)) (length xs) r (sole (is_truth (sort_of_kind k)) Truth h)
      (subst (IsPlaced kind.boolean (λ i. of_one op.Not (item_at xs i)) (length xs)) (sym is) (unary_placed kind.boolean (of_one op.Not) xs))

  pub nulls_made : r ≡ shown kind.boolean (nulls xs) → AreMade (sorts.of_one op.IsNull (sort_of_kind k)) (λ i. of_one op.IsNull (item_at xs i)) (length xs) (Column (Made r))
  nulls_made is =
      truth_made (Some Truth) (λ i. of_one op.IsNull (item_at xs i)) (length xs) r refl
      (subst (IsPlaced kind.boolean (λ i. of_one op.IsNull (item_at xs i)) (length xs)) (sym is) (unary_placed kind.boolean (of_one op.IsNull) xs))

pub not_stops : (a : Seen) (e : KernelFault) → is_some (sorts.of_one op.Not (sort_of_kind a.kind)) ≡ true → IsKernelFault (truth_fault a) (truth_fault a) e → e ≡ faults.NoMemory
not_stops a e h reported = no_type_fault (same_kind a.kind kind.boolean) e (one_truth a.kind h) reported where
  one_truth : (k : Kind) → is_some (sorts.of_one op.Not (sort_of_kind k)) ≡ true → same_kind k kind.boolean ≡ true
  one_truth (kind.int t) h = h
  one_truth kind.boolean h = refl
  one_truth (kind.texts w) h = h
  one_truth (kind.lists w k) h = h
  one_truth kind.dict h = h

-- ---- two columns

module _ (a b r : Seen) where
  abbrev left : ℕ → Item
  left i = item_at a.items i

  abbrev right : ℕ → Item
  right i = item_at b.items i

  pub and_made : is_some (sorts.of_two op.And (sort_of_kind a.kind) (sort_of_kind b.kind)) ≡ true → r ≡ shown kind.boolean (conjunction a.items b.items)
      → AreMade (sorts.of_two op.And (sort_of_kind a.kind) (sort_of_kind b.kind)) (λ i. of_two op.And (item_at a.items i) (item_at b.items i)) (length a.items) (Column (Made r))
  and_made h is =
      truth_made (sorts.of_two op.And (sort_of_kind a.kind) (sort_of_kind b.kind)) (λ i. of_two op.And (left i) (right i)) (length a.items) r (sole (is_truth (sort_of_kind a.kind) && is_truth (sort_of_kind b.kind)) Truth h)
      (subst (IsPlaced kind.boolean (λ i. of_two op.And (left i) (right i)) (length a.items)) (sym is) (binary_placed kind.boolean (of_two op.And) a.items b.items))

  pub or_made : is_some (sorts.of_two op.Or (sort_of_kind a.kind) (sort_of_kind b.kind)) ≡ true → r ≡ shown kind.boolean (disjunction a.items b.items)
      → AreMade (sorts.of_two op.Or (sort_of_kind a.kind) (sort_of_kind b.kind)) (λ i. of_two op.Or (item_at a.items i) (item_at b.items i)) (length a.items) (Column (Made r))
  or_made h is =
      truth_made (sorts.of_two op.Or (sort_of_kind a.kind) (sort_of_kind b.kind)) (λ i. of_two op.Or (left i) (right i)) (length a.items) r (sole (is_truth (sort_of_kind a.kind) && is_truth (sort_of_kind b.kind)) Truth h)
      (subst (IsPlaced kind.boolean (λ i. of_two op.Or (left i) (right i)) (length a.items)) (sym is) (binary_placed kind.boolean (of_two op.Or) a.items b.items))

pub truths_stop : (a b : Seen) (e : KernelFault) → is_some (sorts.junction (sort_of_kind a.kind) (sort_of_kind b.kind)) ≡ true → length a.items ≡ length b.items → IsKernelFault (truths_fault a b) (truths_fault a b) e → e ≡ faults.NoMemory
truths_stop a b e h lengths reported =
    let both = truths a.kind b.kind h in
    no_fault (same_kind a.kind kind.boolean && same_kind b.kind kind.boolean) (length a.items) (length b.items) e (ap (λ k. k && same_kind b.kind kind.boolean) both.0 ∙ both.1) lengths reported

-- ---- comparisons

comparison_sort : (o : Op) (c : CmpOp) (s t : Sort) → comparison_of o ≡ Some c → sorts.of_two o s t ≡ sorts.comparison s t
comparison_sort op.Add c s t h = absurd cc
comparison_sort op.Sub c s t h = absurd cc
comparison_sort op.Mul c s t h = absurd cc
comparison_sort op.Eq c s t h = refl
comparison_sort op.Ne c s t h = refl
comparison_sort op.Lt c s t h = refl
comparison_sort op.Le c s t h = refl
comparison_sort op.Gt c s t h = refl
comparison_sort op.Ge c s t h = refl
comparison_sort op.And c s t h = absurd cc
comparison_sort op.Or c s t h = absurd cc
comparison_sort op.Not c s t h = absurd cc
comparison_sort op.IsNull c s t h = absurd cc

same_some : (c d : CmpOp) → ◌≡◌ {A = Option CmpOp} (Some c) (Some d) → c ≡ d
same_some c d h = cc

pub comparison_value : (o : Op) (c : CmpOp) (x y : Item) → comparison_of o ≡ Some c → comparison c x y ≡ of_two o x y
comparison_value op.Add c x y h = absurd cc
comparison_value op.Sub c x y h = absurd cc
comparison_value op.Mul c x y h = absurd cc
comparison_value op.Eq c x y h = ap (λ d. comparison d x y) (sym (same_some cmp.Eq c h))
comparison_value op.Ne c x y h = ap (λ d. comparison d x y) (sym (same_some cmp.Ne c h))
comparison_value op.Lt c x y h = ap (λ d. comparison d x y) (sym (same_some cmp.Lt c h))
comparison_value op.Le c x y h = ap (λ d. comparison d x y) (sym (same_some cmp.Le c h))
comparison_value op.Gt c x y h = ap (λ d. comparison d x y) (sym (same_some cmp.Gt c h))
comparison_value op.Ge c x y h = ap (λ d. comparison d x y) (sym (same_some cmp.Ge c h))
comparison_value op.And c x y h = absurd cc
comparison_value op.Or c x y h = absurd cc
comparison_value op.Not c x y h = absurd cc
comparison_value op.IsNull c x y h = absurd cc

pub comparison_made : (a b r : Seen) (o : Op) (c : CmpOp) → comparison_of o ≡ Some c → is_some (sorts.of_two o (sort_of_kind a.kind) (sort_of_kind b.kind)) ≡ true → r ≡ shown kind.boolean (compared c a.items b.items)
    → AreMade (sorts.of_two o (sort_of_kind a.kind) (sort_of_kind b.kind)) (λ i. of_two o (item_at a.items i) (item_at b.items i)) (length a.items) (Column (Made r))
comparison_made a b r o c named h is =
    let same = comparison_sort o c (sort_of_kind a.kind) (sort_of_kind b.kind) named in
    let placed = subst (IsPlaced kind.boolean (λ i. comparison c (item_at a.items i) (item_at b.items i)) (length a.items)) (sym is) (binary_placed kind.boolean (comparison c) a.items b.items) in
    truth_made (sorts.of_two o (sort_of_kind a.kind) (sort_of_kind b.kind)) (λ i. of_two o (item_at a.items i) (item_at b.items i)) (length a.items) r
    (same ∙ sole (is_alike (sort_of_kind a.kind) (sort_of_kind b.kind)) Truth (ap is_some (sym same) ∙ h))
    (record { kind = placed.kind; len = placed.len; each = λ i below. placed.each i below ∙ comparison_value o c (item_at a.items i) (item_at b.items i) named })

pub comparison_stops : (a b : Seen) (o : Op) (c : CmpOp) (e : KernelFault) → comparison_of o ≡ Some c → is_some (sorts.of_two o (sort_of_kind a.kind) (sort_of_kind b.kind)) ≡ true → length a.items ≡ length b.items
    → IsKernelFault (comparison_fault a b) (comparison_fault a b) e → e ≡ faults.NoMemory
comparison_stops a b o c e named h lengths reported =
    no_fault (are_comparable a.kind b.kind) (length a.items) (length b.items) e (comparable a.kind b.kind (ap is_some (sym (comparison_sort o c (sort_of_kind a.kind) (sort_of_kind b.kind) named)) ∙ h)) lengths reported

-- ---- exact results

sole_int : (k l : Kind) → is_some (sorts.arithmetic (sort_of_kind k) (sort_of_kind l)) ≡ true → sorts.arithmetic (sort_of_kind k) (sort_of_kind l) ≡ Some (sort_of_kind k)
sole_int k l h = sole (is_int (sort_of_kind k) && is_alike (sort_of_kind k) (sort_of_kind l)) (sort_of_kind k) h

pub results_made : (f : ℤ → ℤ → ℤ) (a b r : Seen) → is_some (sorts.arithmetic (sort_of_kind a.kind) (sort_of_kind b.kind)) ≡ true → length a.items ≡ length b.items → arithmetic_fault f a b ≡ None
    → r ≡ shown a.kind (results f a.items b.items)
    → AreMade (sorts.arithmetic (sort_of_kind a.kind) (sort_of_kind b.kind)) (λ i. lifted (exact f) (item_at a.items i) (item_at b.items i)) (length a.items) (Column (Made r))
results_made f a b r h lengths none is =
    let made : ℕ → Item = λ i. lifted (exact f) (item_at a.items i) (item_at b.items i) in
    let placed = subst (IsPlacedIn a.kind made (length a.items)) (sym is) (exact_placed f a b lengths (one_int a.kind b.kind h) none) in
    let sort = sole_int a.kind b.kind h in
    record {
      sort = sort ∙ ap (λ k. Some (sort_of_kind k)) (sym placed.kind);
      enough = placed.len;
      each = λ i below. ap (λ o. bounded_by o (made i)) sort ∙ placed.each i below;
    }

pub results_fit : (f : ℤ → ℤ → ℤ) (a b : Seen) (e : KernelFault) → is_some (sorts.arithmetic (sort_of_kind a.kind) (sort_of_kind b.kind)) ≡ true → length a.items ≡ length b.items
    → IsKernelFault (operands_fault a b) (arithmetic_fault f a b) e → is_of_operands e ≡ false
results_fit f a b e h lengths reported = sole_row f a b lengths (one_int a.kind b.kind h) e reported

pub results_stop : (f : ℤ → ℤ → ℤ) (a b : Seen) (e : KernelFault) → is_some (sorts.arithmetic (sort_of_kind a.kind) (sort_of_kind b.kind)) ≡ true → length a.items ≡ length b.items
    → IsKernelFault (operands_fault a b) (arithmetic_fault f a b) e
    → StopsMaking (sorts.arithmetic (sort_of_kind a.kind) (sort_of_kind b.kind)) (λ i. lifted (exact f) (item_at a.items i) (item_at b.items i)) (length a.items) (stop_of e)
results_stop f a b e h lengths reported =
    bounded_as (sorts.arithmetic (sort_of_kind a.kind) (sort_of_kind b.kind)) a.kind (λ i. lifted (exact f) (item_at a.items i) (item_at b.items i)) (length a.items) (stop_of e) (sole_int a.kind b.kind h)
    (sole_fault f a b lengths (one_int a.kind b.kind h) e reported) where
      bounded_as : (s : Option Sort) (k : Kind) (made : ℕ → Item) (n : ℕ) (e : stop.Stop) → s ≡ Some (sort_of_kind k) → StopsOutside k made n e → StopsMaking s made n e
      bounded_as s k made n (stops.Bad row) is at = (at.0, ap (λ o. bounded_by o (made row)) is ∙ at.1)
      bounded_as s k made n stops.NoMemory is at = tt

-- ---- what kernels give of two columns

module _ (a b : Seen) (k : Result Seen KernelFault) where
  -- What an operator gives, where it has a sort.
  abbrev pub GivesOf : Op → Type 0
  GivesOf o =
      is_some (sorts.of_two o (sort_of_kind a.kind) (sort_of_kind b.kind)) ≡ true
      → Gives (sorts.of_two o (sort_of_kind a.kind) (sort_of_kind b.kind)) (λ i. of_two o (item_at a.items i) (item_at b.items i)) (length a.items) k

  module _ (lengths : length a.items ≡ length b.items) where
    pub gives_results : (f : ℤ → ℤ → ℤ) → IfOk k (λ r. (arithmetic_fault f a b ≡ None) × (r ≡ shown a.kind (results f a.items b.items)))
        → IfErr k (IsKernelFault (operands_fault a b) (arithmetic_fault f a b)) → is_some (sorts.arithmetic (sort_of_kind a.kind) (sort_of_kind b.kind)) ≡ true
        → Gives (sorts.arithmetic (sort_of_kind a.kind) (sort_of_kind b.kind)) (λ i. lifted (exact f) (item_at a.items i) (item_at b.items i)) (length a.items) k
    gives_results f ok err h =
        gives (sorts.arithmetic (sort_of_kind a.kind) (sort_of_kind b.kind)) (λ i. lifted (exact f) (item_at a.items i) (item_at b.items i)) (length a.items) _ _ k ok err
        (λ e. results_fit f a b e h lengths) (λ r is. results_made f a b r h lengths is.0 is.1) (λ e. results_stop f a b e h lengths)

    pub gives_and : IfOk k (λ r. (truths_fault a b ≡ None) × (r ≡ shown kind.boolean (conjunction a.items b.items))) → IfErr k (IsKernelFault (truths_fault a b) (truths_fault a b)) → GivesOf op.And
    gives_and ok err h =
        gives_all (sorts.of_two op.And (sort_of_kind a.kind) (sort_of_kind b.kind)) (λ i. of_two op.And (item_at a.items i) (item_at b.items i)) (length a.items) _ _ k ok err
        (λ r is. and_made a b r h is.1) (λ e. truths_stop a b e h lengths)

    pub gives_or : IfOk k (λ r. (truths_fault a b ≡ None) × (r ≡ shown kind.boolean (disjunction a.items b.items))) → IfErr k (IsKernelFault (truths_fault a b) (truths_fault a b)) → GivesOf op.Or
    gives_or ok err h =
        gives_all (sorts.of_two op.Or (sort_of_kind a.kind) (sort_of_kind b.kind)) (λ i. of_two op.Or (item_at a.items i) (item_at b.items i)) (length a.items) _ _ k ok err
        (λ r is. or_made a b r h is.1) (λ e. truths_stop a b e h lengths)

    pub gives_comparison : (o : Op) (c : CmpOp) → comparison_of o ≡ Some c → IfOk k (λ r. (comparison_fault a b ≡ None) × (r ≡ shown kind.boolean (compared c a.items b.items)))
        → IfErr k (IsKernelFault (comparison_fault a b) (comparison_fault a b)) → GivesOf o
    gives_comparison o c named ok err h =
        gives_all (sorts.of_two o (sort_of_kind a.kind) (sort_of_kind b.kind)) (λ i. of_two o (item_at a.items i) (item_at b.items i)) (length a.items) _ _ k ok err
        (λ r is. comparison_made a b r o c named h is.1) (λ e. comparison_stops a b o c e named h lengths)

-- ---- literals

pub settled_kind : (t : IntType) (k : Kind) → sorts.settled t (sort_of_kind k) ≡ Some (sort_of_kind k)
settled_kind t (kind.int s) = refl
settled_kind t kind.boolean = refl
settled_kind t (kind.texts w) = refl
settled_kind t (kind.lists w k) = refl
settled_kind t kind.dict = refl

constant_placed : (x : Item) (n : ℕ) (r : Seen) → r ≡ shown kind.boolean (replicate n x) → IsPlaced kind.boolean (λ i. x) n r
constant_placed x n r is = subst (IsPlaced kind.boolean (λ i. x) n) (sym is) (record { kind = refl; len = length-replicate n x; each = λ i below. get_or-replicate n i x null below })

-- ---- beside a text

text_first : (o : Op) (k : Kind) → sorts.sort_of_two o Text (sort_of_kind k) ≡ sorts.of_two o Text (sort_of_kind k)
text_first o k = ap (λ s. option_and_then (λ b. sorts.of_two o Text b) s) (settled_kind int64 k)

text_last : (o : Op) (k : Kind) → sorts.sort_of_two o (sort_of_kind k) Text ≡ sorts.of_two o (sort_of_kind k) Text
text_last o k = ap (λ s. option_and_then (λ a. sorts.of_two o a Text) s) (settled_kind int64 k)

compared_sort : (first : Bool) (o : Op) (c : CmpOp) (k : Kind) → comparison_of o ≡ Some c → is_some (in_order first (sorts.sort_of_two o) Text (sort_of_kind k)) ≡ true
    → in_order first (sorts.sort_of_two o) Text (sort_of_kind k) ≡ Some Truth
compared_sort true o c k named h =
    let same = text_first o k ∙ comparison_sort o c Text (sort_of_kind k) named in same ∙ sole (is_alike Text (sort_of_kind k)) Truth (ap is_some (sym same) ∙ h)
compared_sort false o c k named h =
    let same = text_last o k ∙ comparison_sort o c (sort_of_kind k) Text named in same ∙ sole (is_alike (sort_of_kind k) Text) Truth (ap is_some (sym same) ∙ h)

compared_item : (first : Bool) (o : Op) (c : CmpOp) (t : List ℕ) (x : Item) → comparison_of o ≡ Some c
    → cond (not (is_null x)) (boolean (meets c (in_order first order (text t) x))) null ≡ in_order first (of_two o) (text t) x
compared_item true o c t null named = comparison_value o c (text t) null named
compared_item true o c t (int z) named = comparison_value o c (text t) (int z) named
compared_item true o c t (boolean b) named = comparison_value o c (text t) (boolean b) named
compared_item true o c t (text u) named = comparison_value o c (text t) (text u) named
compared_item true o c t (list l) named = comparison_value o c (text t) (list l) named
compared_item false o c t null named = comparison_value o c null (text t) named
compared_item false o c t (int z) named = comparison_value o c (int z) (text t) named
compared_item false o c t (boolean b) named = comparison_value o c (boolean b) (text t) named
compared_item false o c t (text u) named = comparison_value o c (text u) (text t) named
compared_item false o c t (list l) named = comparison_value o c (list l) (text t) named

-- A column of texts beside a text.
pub beside_made : (first : Bool) (o : Op) (c : CmpOp) (t : List ℕ) (v r : Seen) (n : ℕ) → n ≡ length v.items → comparison_of o ≡ Some c → is_some (in_order first (sorts.sort_of_two o) Text (sort_of_kind v.kind)) ≡ true
    → r ≡ shown kind.boolean (truths_of (λ i. holds_at v i) (λ i. meets c (in_order first order (text t) (item_at v.items i))) n)
    → AreMade (in_order first (sorts.sort_of_two o) Text (sort_of_kind v.kind)) (λ i. in_order first (of_two o) (text t) (item_at v.items i)) (length v.items) (Column (Made r))
beside_made first o c t v r n size named h is =
    let made : ℕ → Item = truth_at (λ i. holds_at v i) (λ i. meets c (in_order first order (text t) (item_at v.items i))) in
    truth_made (in_order first (sorts.sort_of_two o) Text (sort_of_kind v.kind)) (λ i. in_order first (of_two o) (text t) (item_at v.items i)) (length v.items) r (compared_sort first o c v.kind named h)
    (subst (IsPlaced kind.boolean (λ i. in_order first (of_two o) (text t) (item_at v.items i)) (length v.items)) (sym (is ∙ ap (λ m. shown kind.boolean (map made (range_with_len 0 m))) size)) (record {
      kind = refl;
      len = length-map-range_with_len made 0 (length v.items);
      each = λ i below. get_or-map-range_with_len made 0 (length v.items) i i null below (zero-add i) ∙ compared_item first o c t (item_at v.items i) named;
    }))

-- Two texts.
pub texts_made : (o : Op) (c : CmpOp) (t u : List ℕ) (n : ℕ) (r : Seen) → comparison_of o ≡ Some c → is_some (sorts.sort_of_two o Text Text) ≡ true
    → r ≡ shown kind.boolean (replicate n (boolean (meets c (order (text t) (text u)))))
    → AreMade (sorts.sort_of_two o Text Text) (λ i. of_two o (text t) (text u)) n (Column (Made r))
texts_made o c t u n r named h is =
    let x : Item = boolean (meets c (order (text t) (text u))) in
    let placed = constant_placed x n r is in
    truth_made (sorts.sort_of_two o Text Text) (λ i. of_two o (text t) (text u)) n r (compared_sort true o c kind.utf8 named h)
    (record { kind = placed.kind; len = placed.len; each = λ i below. placed.each i below ∙ compared_item true o c t (text u) named })

-- ---- literals and columns

pub number_fits : (t : IntType) (z : ℤ) → is_some (sorts.settled t (Literal z)) ≡ true → is_of_type t z ≡ true
number_fits t z h = go (is_of_type t z) h where
  go : (b : Bool) → is_some (cond b (Some (Int t)) None) ≡ true → b ≡ true
  go true h = refl
  go false h = h

-- What an operator makes of what two operands become.
pub settled_sort : (o : Op) (s t a b : Sort) → sorts.settled (sorts.type_beside t) s ≡ Some a → sorts.settled (sorts.type_beside s) t ≡ Some b → sorts.sort_of_two o s t ≡ sorts.of_two o a b
settled_sort o s t a b left right =
    ap (λ x. option_and_then (λ a. option_and_then (λ b. sorts.of_two o a b) (sorts.settled (sorts.type_beside s) t)) x) left ∙ ap (λ y. option_and_then (λ b. sorts.of_two o a b) y) right

pub left_fits : (o : Op) (s t : Sort) → is_some (sorts.sort_of_two o s t) ≡ true → is_some (sorts.settled (sorts.type_beside t) s) ≡ true
left_fits o s t h = go (sorts.settled (sorts.type_beside t) s) h where
  go : (a : Option Sort) → is_some (option_and_then (λ a. option_and_then (λ b. sorts.of_two o a b) (sorts.settled (sorts.type_beside s) t)) a) ≡ true → is_some a ≡ true
  go None h = h
  go (Some a) h = refl

-- Two columns.
pub columns_sort : (o : Op) (k l : Kind) → sorts.sort_of_two o (sort_of_kind k) (sort_of_kind l) ≡ sorts.of_two o (sort_of_kind k) (sort_of_kind l)
columns_sort o k l = settled_sort o (sort_of_kind k) (sort_of_kind l) (sort_of_kind k) (sort_of_kind l) (settled_kind (sorts.type_beside (sort_of_kind l)) k) (settled_kind (sorts.type_beside (sort_of_kind k)) l)
