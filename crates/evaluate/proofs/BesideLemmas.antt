-- A column and a number that stands beside it.
use Rattle.std.proofs.Common.{◌≡◌, ◌∙◌, ℕ, ◌<◌, ◌&&◌, ℤ, length, Bool, true, false, cond, is_some, replicate, Option, Some, None, Result, Ok, Err, IfErr, IfOk, ap, ap₂, sym, refl, subst, true≢false, inl, inr}
use Rattle.std.specs.Prelude.{option_and_then}
use Rattle.std.specs.Option.{option_or}
use Rattle.std.specs.Ordering.{int_cmp, ordering_reverse}
use Rattle.std.specs.declared.cmp.Ordering.{Ordering}
use Rattle.std.specs.declared.cmp.Ordering.TheVariants.{Less, Equal, Greater}
use Rattle.std.proofs.lemmas.Cmp.{int_cmp_total}
use Rattle.std.proofs.lemmas.List.{get_or-replicate, length-replicate}
use Rattle.arrays.specs.Kind as kind
use Rattle.arrays.specs.Prelude.{Item, Kind, Seen, W16, W32, W64, W8, Width, boolean, int, int64, is_of_type, item_at, list, null, same_int, shown, text}
use Rattle.kernels.specs.Prelude.{IsKernelFault, arithmetic_fault, compared, exact, fault_from, fault_with, has_number, lifted, meets, number_beside, number_fault, operands_fault, results, type_fault}
use Rattle.kernels.specs.declared.comparison.CmpOp.{CmpOp}
use Rattle.kernels.specs.declared.comparison.CmpOp.TheVariants as cmp
use Rattle.kernels.specs.declared.fault.KernelFault.{KernelFault}
use Rattle.kernels.specs.declared.fault.KernelFault.TheVariants as faults
use Rattle.kernels.proofs.BesideLemmas.{beside_item, beside_size}
use Rattle.query.specs.Sorts as sorts
use Rattle.query.specs.Sorts.{is_alike, is_int, is_truth, sort_of_kind}
use Rattle.query.specs.declared.expr.Op.{Op}
use Rattle.query.specs.declared.expr.Op.TheVariants as op
use Rattle.query.specs.declared.sort.Sort.{Sort}
use Rattle.query.specs.declared.sort.Sort.TheVariants as sort
use Rattle.query.specs.declared.sort.Sort.TheVariants.{Int, Literal, Text, Truth}
use Rattle.evaluate.proofs.PlaceLemmas.{IsPlaced, binary_placed, one_length}
use Rattle.evaluate.proofs.SortLemmas.{one_int}
use Rattle.evaluate.proofs.OperatorLemmas.{comparison_value, left_fits, number_fits, no_type_fault, results_fit, results_made, results_stop, truth_made}
use Rattle.evaluate.specs.Prelude.{AreMade, StopsMaking, bounded_by, comparison, comparison_of, in_order, is_of_operands, of_two, stop_of, turned}
use Rattle.evaluate.specs.declared.stop.Stop as stop
use Rattle.evaluate.specs.declared.stop.Stop.TheVariants as stops
use Rattle.evaluate.specs.declared.values.Operand.TheVariants.{Made}
use Rattle.evaluate.specs.declared.values.Values.{Values}
use Rattle.evaluate.specs.declared.values.Values.TheVariants.{Column}

-- ---- sorts

there : (g : Sort → Option Sort) (b : Bool) (s : Sort) → is_some (option_and_then g (cond b (Some s) None)) ≡ true → (b ≡ true) × (option_and_then g (cond b (Some s) None) ≡ g s)
there g true s h = (refl, refl)
there g false s h = absurd (true≢false (sym h))

reported : (b : Bool) (s : Sort) → is_some (cond b (Some s) None) ≡ true → b ≡ true
reported true s h = refl
reported false s h = h

second_holds : (p q : Bool) → (p && q) ≡ true → q ≡ true
second_holds true q h = h
second_holds false q h = absurd (true≢false (sym h))

both_truths : (s t : Sort) → (is_truth s && is_truth t) ≡ true → is_alike s t ≡ true
both_truths (Literal z) t h = absurd (true≢false (sym h))
both_truths (Int u) t h = absurd (true≢false (sym h))
both_truths Truth (Literal z) h = h
both_truths Truth (Int u) h = h
both_truths Truth Truth h = refl
both_truths Truth Text h = h
both_truths Truth sort.List h = h
both_truths Text t h = absurd (true≢false (sym h))
both_truths sort.List t h = absurd (true≢false (sym h))

two_alike : (o : Op) (s t : Sort) → is_some (sorts.of_two o s t) ≡ true → is_alike s t ≡ true
two_alike op.Add s t h = second_holds (is_int s) (is_alike s t) (reported (is_int s && is_alike s t) s h)
two_alike op.Sub s t h = second_holds (is_int s) (is_alike s t) (reported (is_int s && is_alike s t) s h)
two_alike op.Mul s t h = second_holds (is_int s) (is_alike s t) (reported (is_int s && is_alike s t) s h)
two_alike op.Eq s t h = reported (is_alike s t) Truth h
two_alike op.Ne s t h = reported (is_alike s t) Truth h
two_alike op.Lt s t h = reported (is_alike s t) Truth h
two_alike op.Le s t h = reported (is_alike s t) Truth h
two_alike op.Gt s t h = reported (is_alike s t) Truth h
two_alike op.Ge s t h = reported (is_alike s t) Truth h
two_alike op.And s t h = both_truths s t (reported (is_truth s && is_truth t) Truth h)
two_alike op.Or s t h = both_truths s t (reported (is_truth s && is_truth t) Truth h)
two_alike op.Not s t h = absurd (true≢false (sym h))
two_alike op.IsNull s t h = absurd (true≢false (sym h))

-- an operator between a number and a column has a sort where the column is of an integer type that has the number
pub record IsBeside (first : Bool) (o : Op) (k : Kind) (z : ℤ) : Type 0 where
  pub has : has_number k z ≡ true
  pub sort : in_order first (sorts.sort_of_two o) (Literal z) (sort_of_kind k) ≡ sorts.of_two o (sort_of_kind k) (sort_of_kind k)
  pub some : is_some (sorts.of_two o (sort_of_kind k) (sort_of_kind k)) ≡ true

pub beside : (first : Bool) (o : Op) (k : Kind) (z : ℤ) → is_some (in_order first (sorts.sort_of_two o) (Literal z) (sort_of_kind k)) ≡ true → IsBeside first o k z
beside true o (kind.int t) z h =
    let is = there (λ a. sorts.of_two o a (Int t)) (is_of_type t z) (Int t) h in record { has = is.0; sort = is.1; some = ap is_some (sym is.1) ∙ h }
beside false o (kind.int t) z h =
    let is = there (λ b. sorts.of_two o (Int t) b) (is_of_type t z) (Int t) h in record { has = is.0; sort = is.1; some = ap is_some (sym is.1) ∙ h }
beside true o kind.boolean z h = absurd (true≢false (sym (two_alike o (Int int64) Truth (ap is_some (sym (there (λ a. sorts.of_two o a Truth) (is_of_type int64 z) (Int int64) h).1) ∙ h))))
beside true o (kind.texts w) z h = absurd (true≢false (sym (two_alike o (Int int64) Text (ap is_some (sym (there (λ a. sorts.of_two o a Text) (is_of_type int64 z) (Int int64) h).1) ∙ h))))
beside true o (kind.lists w k) z h = absurd (true≢false (sym (two_alike o (Int int64) sort.List (ap is_some (sym (there (λ a. sorts.of_two o a sort.List) (is_of_type int64 z) (Int int64) h).1) ∙ h))))
beside true o kind.dict z h = absurd (true≢false (sym (two_alike o (Int int64) Text (ap is_some (sym (there (λ a. sorts.of_two o a Text) (is_of_type int64 z) (Int int64) h).1) ∙ h))))
beside false o kind.boolean z h = absurd (true≢false (sym (two_alike o Truth (Int int64) (ap is_some (sym (there (λ b. sorts.of_two o Truth b) (is_of_type int64 z) (Int int64) h).1) ∙ h))))
beside false o (kind.texts w) z h = absurd (true≢false (sym (two_alike o Text (Int int64) (ap is_some (sym (there (λ b. sorts.of_two o Text b) (is_of_type int64 z) (Int int64) h).1) ∙ h))))
beside false o (kind.lists w k) z h = absurd (true≢false (sym (two_alike o sort.List (Int int64) (ap is_some (sym (there (λ b. sorts.of_two o sort.List b) (is_of_type int64 z) (Int int64) h).1) ∙ h))))
beside false o kind.dict z h = absurd (true≢false (sym (two_alike o Text (Int int64) (ap is_some (sym (there (λ b. sorts.of_two o Text b) (is_of_type int64 z) (Int int64) h).1) ∙ h))))

one_type : (w : Width) (signed : Bool) → same_int (record { bits = w; signed = signed }) (record { bits = w; signed = signed }) ≡ true
one_type W8 true = refl
one_type W8 false = refl
one_type W16 true = refl
one_type W16 false = refl
one_type W32 true = refl
one_type W32 false = refl
one_type W64 true = refl
one_type W64 false = refl

-- two of an integer type
exact_sort : (k : Kind) (z : ℤ) → has_number k z ≡ true → sorts.arithmetic (sort_of_kind k) (sort_of_kind k) ≡ Some (sort_of_kind k)
exact_sort (kind.int t) z h = ap (λ b. cond b (Some (Int t)) None) (one_type t.bits t.signed)
exact_sort kind.boolean z h = absurd (true≢false (sym h))
exact_sort (kind.texts w) z h = absurd (true≢false (sym h))
exact_sort (kind.lists w k) z h = absurd (true≢false (sym h))
exact_sort kind.dict z h = absurd (true≢false (sym h))

-- ---- the same values

pub made_as : (s t : Option Sort) (made same : ℕ → Item) (n : ℕ) (v : Values) → t ≡ s → ((i : ℕ) → i < n → same i ≡ made i) → AreMade s made n v → AreMade t same n v
made_as s t made same n v sort_is items_are are = record {
  sort = sort_is ∙ are.sort;
  enough = are.enough;
  each = λ i below. ap₂ bounded_by sort_is (items_are i below) ∙ are.each i below;
}

pub stops_as : (s t : Option Sort) (made same : ℕ → Item) (n : ℕ) (e : stop.Stop) → t ≡ s → ((i : ℕ) → i < n → same i ≡ made i) → StopsMaking s made n e → StopsMaking t same n e
stops_as s t made same n (stops.Bad row) sort_is items_are at = (at.0, ap₂ bounded_by sort_is (items_are row at.0) ∙ at.1)
stops_as s t made same n stops.NoMemory sort_is items_are at = tt

pub made_on : (r : Result Values stop.Stop) (P Q : Values → Type 0) → ((v : Values) → P v → Q v) → IfOk r P → IfOk r Q
made_on (Ok v) P Q f h = f v h
made_on (Err e) P Q f h = tt

pub stopped_on : (r : Result Values stop.Stop) (P Q : stop.Stop → Type 0) → ((e : stop.Stop) → P e → Q e) → IfErr r P → IfErr r Q
stopped_on (Ok v) P Q f h = tt
stopped_on (Err e) P Q f h = f e h

-- ---- exact results

-- The number is passed on as w.
module _ (f : ℤ → ℤ → ℤ) (a : Seen) (z w : ℤ) (same : w ≡ z) (has : has_number a.kind z ≡ true) where
  fits : number_fault a z ≡ None
  fits = ap type_fault has

  one_sort : is_some (sorts.arithmetic (sort_of_kind a.kind) (sort_of_kind a.kind)) ≡ true
  one_sort = ap is_some (exact_sort a.kind z has)

  behind_fault : fault_with f a z ≡ arithmetic_fault f a (number_beside a z)
  behind_fault = ap (λ o. option_or o (arithmetic_fault f a (number_beside a z))) fits

  before_fault : fault_from f z a ≡ arithmetic_fault f (number_beside a z) a
  before_fault = ap (λ o. option_or o (arithmetic_fault f (number_beside a z) a)) fits

  -- the number behind the column
  pub behind_made : (r : Seen) → fault_with f a w ≡ None → r ≡ shown a.kind (results f a.items (number_beside a w).items)
      → AreMade (Some (sort_of_kind a.kind)) (λ i. lifted (exact f) (item_at a.items i) (int z)) (length a.items) (Column (Made r))
  behind_made r none is =
      let b = number_beside a z in
      made_as (sorts.arithmetic (sort_of_kind a.kind) (sort_of_kind a.kind)) (Some (sort_of_kind a.kind)) (λ i. lifted (exact f) (item_at a.items i) (item_at b.items i)) (λ i. lifted (exact f) (item_at a.items i) (int z)) (length a.items) (Column (Made r))
      (sym (exact_sort a.kind z has)) (λ i below. ap (lifted (exact f) (item_at a.items i)) (sym (beside_item a z i below)))
      (results_made f a b r one_sort (sym (beside_size a z)) (sym behind_fault ∙ subst (λ v. fault_with f a v ≡ None) same none) (subst (λ v. r ≡ shown a.kind (results f a.items (number_beside a v).items)) same is))

  behind_columns : (e : KernelFault) → IsKernelFault (number_fault a z) (fault_with f a z) e → IsKernelFault (operands_fault a (number_beside a z)) (arithmetic_fault f a (number_beside a z)) e
  behind_columns e (inl is) = inl (sym behind_fault ∙ is)
  behind_columns e (inr wanting) = inr (wanting.0, one_length a (number_beside a z) (sym (beside_size a z)) (one_int a.kind a.kind one_sort))

  pub behind_fits : (e : KernelFault) → IsKernelFault (number_fault a w) (fault_with f a w) e → is_of_operands e ≡ false
  behind_fits e fault = results_fit f a (number_beside a z) e one_sort (sym (beside_size a z)) (behind_columns e (subst (λ v. IsKernelFault (number_fault a v) (fault_with f a v) e) same fault))

  pub behind_stops : (e : KernelFault) → IsKernelFault (number_fault a w) (fault_with f a w) e
      → StopsMaking (Some (sort_of_kind a.kind)) (λ i. lifted (exact f) (item_at a.items i) (int z)) (length a.items) (stop_of e)
  behind_stops e fault =
      let b = number_beside a z in
      stops_as (sorts.arithmetic (sort_of_kind a.kind) (sort_of_kind a.kind)) (Some (sort_of_kind a.kind)) (λ i. lifted (exact f) (item_at a.items i) (item_at b.items i)) (λ i. lifted (exact f) (item_at a.items i) (int z)) (length a.items) (stop_of e)
      (sym (exact_sort a.kind z has)) (λ i below. ap (lifted (exact f) (item_at a.items i)) (sym (beside_item a z i below)))
      (results_stop f a b e one_sort (sym (beside_size a z)) (behind_columns e (subst (λ v. IsKernelFault (number_fault a v) (fault_with f a v) e) same fault)))

  -- the number before it
  pub before_made : (r : Seen) → fault_from f w a ≡ None → r ≡ shown a.kind (results f (number_beside a w).items a.items)
      → AreMade (Some (sort_of_kind a.kind)) (λ i. lifted (exact f) (int z) (item_at a.items i)) (length a.items) (Column (Made r))
  before_made r none is =
      let b = number_beside a z in
      let made = results_made f b a r one_sort (beside_size a z) (sym before_fault ∙ subst (λ v. fault_from f v a ≡ None) same none) (subst (λ v. r ≡ shown a.kind (results f (number_beside a v).items a.items)) same is) in
      made_as (sorts.arithmetic (sort_of_kind a.kind) (sort_of_kind a.kind)) (Some (sort_of_kind a.kind)) (λ i. lifted (exact f) (item_at b.items i) (item_at a.items i)) (λ i. lifted (exact f) (int z) (item_at a.items i)) (length a.items) (Column (Made r))
      (sym (exact_sort a.kind z has)) (λ i below. ap (λ x. lifted (exact f) x (item_at a.items i)) (sym (beside_item a z i below)))
      (subst (λ n. AreMade (sorts.arithmetic (sort_of_kind a.kind) (sort_of_kind a.kind)) (λ i. lifted (exact f) (item_at b.items i) (item_at a.items i)) n (Column (Made r))) (beside_size a z) made)

  before_columns : (e : KernelFault) → IsKernelFault (number_fault a z) (fault_from f z a) e → IsKernelFault (operands_fault (number_beside a z) a) (arithmetic_fault f (number_beside a z) a) e
  before_columns e (inl is) = inl (sym before_fault ∙ is)
  before_columns e (inr wanting) = inr (wanting.0, one_length (number_beside a z) a (beside_size a z) (one_int a.kind a.kind one_sort))

  pub before_fits : (e : KernelFault) → IsKernelFault (number_fault a w) (fault_from f w a) e → is_of_operands e ≡ false
  before_fits e fault = results_fit f (number_beside a z) a e one_sort (beside_size a z) (before_columns e (subst (λ v. IsKernelFault (number_fault a v) (fault_from f v a) e) same fault))

  pub before_stops : (e : KernelFault) → IsKernelFault (number_fault a w) (fault_from f w a) e
      → StopsMaking (Some (sort_of_kind a.kind)) (λ i. lifted (exact f) (int z) (item_at a.items i)) (length a.items) (stop_of e)
  before_stops e fault =
      let b = number_beside a z in
      let at = results_stop f b a e one_sort (beside_size a z) (before_columns e (subst (λ v. IsKernelFault (number_fault a v) (fault_from f v a) e) same fault)) in
      stops_as (sorts.arithmetic (sort_of_kind a.kind) (sort_of_kind a.kind)) (Some (sort_of_kind a.kind)) (λ i. lifted (exact f) (item_at b.items i) (item_at a.items i)) (λ i. lifted (exact f) (int z) (item_at a.items i)) (length a.items) (stop_of e)
      (sym (exact_sort a.kind z has)) (λ i below. ap (λ x. lifted (exact f) x (item_at a.items i)) (sym (beside_item a z i below)))
      (subst (λ n. StopsMaking (sorts.arithmetic (sort_of_kind a.kind) (sort_of_kind a.kind)) (λ i. lifted (exact f) (item_at b.items i) (item_at a.items i)) n (stop_of e)) (beside_size a z) at)

-- ---- comparisons

turned_meets : (c : CmpOp) (o : Ordering) → meets (turned c) o ≡ meets c (ordering_reverse o)
turned_meets cmp.Eq Less = refl
turned_meets cmp.Eq Equal = refl
turned_meets cmp.Eq Greater = refl
turned_meets cmp.Ne Less = refl
turned_meets cmp.Ne Equal = refl
turned_meets cmp.Ne Greater = refl
turned_meets cmp.Lt Less = refl
turned_meets cmp.Lt Equal = refl
turned_meets cmp.Lt Greater = refl
turned_meets cmp.Le Less = refl
turned_meets cmp.Le Equal = refl
turned_meets cmp.Le Greater = refl
turned_meets cmp.Gt Less = refl
turned_meets cmp.Gt Equal = refl
turned_meets cmp.Gt Greater = refl
turned_meets cmp.Ge Less = refl
turned_meets cmp.Ge Equal = refl
turned_meets cmp.Ge Greater = refl

turned_value : (c : CmpOp) (x : Item) (z : ℤ) → comparison (turned c) x (int z) ≡ comparison c (int z) x
turned_value c (int w) z = ap (λ b. boolean b) (turned_meets c (int_cmp w z) ∙ ap (meets c) (sym (int_cmp_total.antisymm z w)))
turned_value c null z = refl
turned_value c (boolean b) z = ap (λ b. boolean b) (turned_meets c Equal)
turned_value c (text t) z = ap (λ b. boolean b) (turned_meets c Equal)
turned_value c (list l) z = ap (λ b. boolean b) (turned_meets c Equal)

compared_number : (first : Bool) (o : Op) (c : CmpOp) (x : Item) (z : ℤ) → comparison_of o ≡ Some c → comparison (cond first (turned c) c) x (int z) ≡ in_order first (of_two o) (int z) x
compared_number true o c x z named = turned_value c x z ∙ comparison_value o c (int z) x named
compared_number false o c x z named = comparison_value o c x (int z) named

pub number_compared : (first : Bool) (o : Op) (c d : CmpOp) (a : Seen) (z : ℤ) (r : Seen) → comparison_of o ≡ Some c → d ≡ cond first (turned c) c → r ≡ shown kind.boolean (compared d a.items (number_beside a z).items)
    → AreMade (Some Truth) (λ i. in_order first (of_two o) (int z) (item_at a.items i)) (length a.items) (Column (Made r))
number_compared first o c d a z r named placed_is is =
    let b = number_beside a z in
    let placed = subst (IsPlaced kind.boolean (λ i. comparison d (item_at a.items i) (item_at b.items i)) (length a.items)) (sym is) (binary_placed kind.boolean (comparison d) a.items b.items) in
    truth_made (Some Truth) (λ i. in_order first (of_two o) (int z) (item_at a.items i)) (length a.items) r refl (record {
      kind = placed.kind;
      len = placed.len;
      each = λ i below.
          placed.each i below
          ∙ ap (comparison d (item_at a.items i)) (beside_item a z i below)
          ∙ ap (λ e. comparison e (item_at a.items i) (int z)) placed_is
          ∙ compared_number first o c (item_at a.items i) z named;
    })

no_junction : (k : Kind) (z : ℤ) → has_number k z ≡ true → is_some (sorts.junction (sort_of_kind k) (sort_of_kind k)) ≡ true → ⊥
no_junction (kind.int t) z has h = true≢false (sym h)
no_junction kind.boolean z has h = true≢false (sym has)
no_junction (kind.texts w) z has h = true≢false (sym has)
no_junction (kind.lists w k) z has h = true≢false (sym has)
no_junction kind.dict z has h = true≢false (sym has)

-- what stands between a number and a column compares them, if it computes nothing
pub compares : (first : Bool) (o : Op) (k : Kind) (z : ℤ) → is_some (in_order first (sorts.sort_of_two o) (Literal z) (sort_of_kind k)) ≡ true → (o ≡ op.Add → ⊥) → (o ≡ op.Sub → ⊥) → (o ≡ op.Mul → ⊥)
    → is_some (comparison_of o) ≡ true
compares first op.Add k z h no_add no_sub no_mul = absurd (no_add refl)
compares first op.Sub k z h no_add no_sub no_mul = absurd (no_sub refl)
compares first op.Mul k z h no_add no_sub no_mul = absurd (no_mul refl)
compares first op.Eq k z h no_add no_sub no_mul = refl
compares first op.Ne k z h no_add no_sub no_mul = refl
compares first op.Lt k z h no_add no_sub no_mul = refl
compares first op.Le k z h no_add no_sub no_mul = refl
compares first op.Gt k z h no_add no_sub no_mul = refl
compares first op.Ge k z h no_add no_sub no_mul = refl
compares first op.And k z h no_add no_sub no_mul = let is = beside first op.And k z h in absurd (no_junction k z is.has is.some)
compares first op.Or k z h no_add no_sub no_mul = let is = beside first op.Or k z h in absurd (no_junction k z is.has is.some)
compares first op.Not k z h no_add no_sub no_mul = let is = beside first op.Not k z h in absurd (true≢false (sym is.some))
compares first op.IsNull k z h no_add no_sub no_mul = let is = beside first op.IsNull k z h in absurd (true≢false (sym is.some))

sole : (b : Bool) (s : Sort) → is_some (cond b (Some s) None) ≡ true → cond b (Some s) None ≡ Some s
sole true s h = refl
sole false s h = absurd (true≢false (sym h))

reported_truth : (o : Op) (s : Sort) → is_some (comparison_of o) ≡ true → is_some (sorts.of_two o s s) ≡ true → sorts.of_two o s s ≡ Some Truth
reported_truth op.Add s h some = absurd (true≢false (sym h))
reported_truth op.Sub s h some = absurd (true≢false (sym h))
reported_truth op.Mul s h some = absurd (true≢false (sym h))
reported_truth op.Eq s h some = sole (is_alike s s) Truth some
reported_truth op.Ne s h some = sole (is_alike s s) Truth some
reported_truth op.Lt s h some = sole (is_alike s s) Truth some
reported_truth op.Le s h some = sole (is_alike s s) Truth some
reported_truth op.Gt s h some = sole (is_alike s s) Truth some
reported_truth op.Ge s h some = sole (is_alike s s) Truth some
reported_truth op.And s h some = absurd (true≢false (sym h))
reported_truth op.Or s h some = absurd (true≢false (sym h))
reported_truth op.Not s h some = absurd (true≢false (sym h))
reported_truth op.IsNull s h some = absurd (true≢false (sym h))

-- a comparison gives truth values
pub compared_sort : (first : Bool) (o : Op) (k : Kind) (z : ℤ) → is_some (comparison_of o) ≡ true → is_some (in_order first (sorts.sort_of_two o) (Literal z) (sort_of_kind k)) ≡ true
    → in_order first (sorts.sort_of_two o) (Literal z) (sort_of_kind k) ≡ Some Truth
compared_sort first o k z named h = let is = beside first o k z h in is.sort ∙ reported_truth o (sort_of_kind k) named is.some

pub number_stops : (a : Seen) (z : ℤ) (e : KernelFault) → has_number a.kind z ≡ true → IsKernelFault (number_fault a z) (number_fault a z) e → e ≡ faults.NoMemory
number_stops a z e has fault = no_type_fault (has_number a.kind z) e has fault

-- ---- two numbers

module _ (o : Op) (x z : ℤ) (n : ℕ) (v : Seen) (h : is_some (sorts.sort_of_two o (Literal x) (Literal z)) ≡ true) (is : v ≡ shown (kind.int int64) (replicate n (int x))) where
  abbrev numbers : Seen
  numbers = shown (kind.int int64) (replicate n (int x))

  one_literal : sorts.sort_of_two o (Literal x) (Literal z) ≡ sorts.sort_of_two o (Int int64) (Literal z)
  one_literal =
      ap (λ b. option_and_then (λ a. option_and_then (λ c. sorts.of_two o a c) (sorts.settled int64 (Literal z))) (cond b (Some (Int int64)) None)) (number_fits int64 x (left_fits o (Literal x) (Literal z) h))

  one_number : (i : ℕ) → i < n → of_two o (int x) (int z) ≡ of_two o (item_at (replicate n (int x)) i) (int z)
  one_number i below = ap (λ y. of_two o y (int z)) (sym (get_or-replicate n i (int x) null below))

  pub numbers_made : (r : Values) → AreMade (in_order false (sorts.sort_of_two o) (Literal z) (sort_of_kind v.kind)) (λ i. in_order false (of_two o) (int z) (item_at v.items i)) (length v.items) r
      → AreMade (sorts.sort_of_two o (Literal x) (Literal z)) (λ i. of_two o (int x) (int z)) n r
  numbers_made r made =
      let seen = subst (λ (s : Seen). AreMade (in_order false (sorts.sort_of_two o) (Literal z) (sort_of_kind s.kind)) (λ i. in_order false (of_two o) (int z) (item_at s.items i)) (length s.items) r) is made in
      let long = subst (λ m. AreMade (sorts.sort_of_two o (Int int64) (Literal z)) (λ i. of_two o (item_at (replicate n (int x)) i) (int z)) m r) (length-replicate n (int x)) seen in
      made_as (sorts.sort_of_two o (Int int64) (Literal z)) (sorts.sort_of_two o (Literal x) (Literal z)) (λ i. of_two o (item_at (replicate n (int x)) i) (int z)) (λ i. of_two o (int x) (int z)) n r one_literal one_number long

  pub numbers_stop : (e : stop.Stop) → StopsMaking (in_order false (sorts.sort_of_two o) (Literal z) (sort_of_kind v.kind)) (λ i. in_order false (of_two o) (int z) (item_at v.items i)) (length v.items) e
      → StopsMaking (sorts.sort_of_two o (Literal x) (Literal z)) (λ i. of_two o (int x) (int z)) n e
  numbers_stop e at =
      let seen = subst (λ (s : Seen). StopsMaking (in_order false (sorts.sort_of_two o) (Literal z) (sort_of_kind s.kind)) (λ i. in_order false (of_two o) (int z) (item_at s.items i)) (length s.items) e) is at in
      let long = subst (λ m. StopsMaking (sorts.sort_of_two o (Int int64) (Literal z)) (λ i. of_two o (item_at (replicate n (int x)) i) (int z)) m e) (length-replicate n (int x)) seen in
      stops_as (sorts.sort_of_two o (Int int64) (Literal z)) (sorts.sort_of_two o (Literal x) (Literal z)) (λ i. of_two o (item_at (replicate n (int x)) i) (int z)) (λ i. of_two o (int x) (int z)) n e one_literal one_number long
