-- What there is to say of two columns, one behind the other.
use Rattle.std.proofs.Common.{◌≡◌, ◌∙◌, ℕ, ◌+◌, ℤ, pos, ◌+ℤ◌, List, [], ◌∷◌, ◌++◌, map, Option, Some, None, option_map, cond, Bool, true, false, ap, sym, refl, arith, length-append}
use Rattle.std.specs.List.{filter, filter_map, reduce, fold}
use Rattle.std.specs.Cmp.{IsTotalOrder, bool_cmp_total}
use Rattle.std.specs.Cmp.Lexicographic.{slice_cmp}
use Rattle.std.specs.Ordering.{is_gt, int_cmp, bool_cmp, nat_cmp, flip_args, ordering_reverse}
use Rattle.std.specs.declared.cmp.Ordering.{Ordering}
use Rattle.std.specs.declared.cmp.Ordering.TheVariants.{Less, Equal, Greater}
use Rattle.std.proofs.lemmas.Cmp.{upto, back_total, int_cmp_total, nat_list_cmp_total}
use Rattle.std.proofs.lemmas.List.{append-nil, map-append}
use Rattle.std.proofs.lemmas.List.Sums.{fold-append, sum_by-append}
use Rattle.std.proofs.lemmas.List.Elements.{filter-append, filter_map-append}
use Rattle.std.proofs.lemmas.Int.{ints}
use Rattle.arrays.specs.Prelude.{Item, Kind, boolean, int, is_null, list, null, text}
use Rattle.arrays.specs.Kind as kind
use Rattle.group.specs.Prelude.{AreStats, better, both_sums, greater, greatest_of, is_bytes, is_number, is_truth, least_of, lesser, nulls_of, number_of, numbers_of, scalar_item, sum_of, total_of}
use Rattle.group.specs.declared.stats.ColumnStats.{ColumnStats}
use Rattle.group.proofs.TallyLemmas.{no_least_of_lists, no_greatest_of_lists}

-- ---- the best of values, as items

module _ {X : Type 0} (item : X → Item) (choose : Item → Item → Item) (best : X → X → X) (chooses : (x y : X) → choose (item x) (item y) ≡ item (best x y)) where
  fold-items : (x : X) (xs : List X) → fold choose (item x) (map item xs) ≡ item (fold best x xs)
  fold-items x [] = refl
  fold-items x (y ∷ xs) = ap (λ z. fold choose z (map item xs)) (chooses x y) ∙ fold-items (best x y) xs

  pub reduce-items : (xs : List X) → reduce choose (map item xs) ≡ option_map item (reduce best xs)
  reduce-items [] = refl
  reduce-items (x ∷ xs) = ap Some (fold-items x xs)

  better-items : (p q : Option X) → better choose (option_map item p) (option_map item q) ≡ option_map item (better best p q)
  better-items None q = refl
  better-items (Some x) None = refl
  better-items (Some x) (Some y) = ap Some (chooses x y)

-- ---- the lesser of two by a total order

gt_less : (o : Ordering) → is_gt o ≡ true → ordering_reverse o ≡ Less
gt_less Less e = absurd cc
gt_less Equal e = absurd cc
gt_less Greater e = refl

module _ {X : Type 0} (R : X → X → Ordering) (total : IsTotalOrder R) where
  unfoldable pub pick : X → X → X
  pick x y = cond (is_gt (R x y)) y x

  beyond : (x y z : X) → is_gt (R x y) ≡ true → is_gt (R y z) ≡ true → is_gt (R x z) ≡ true
  beyond x y z e f =
      let down = total.antisymm y x ∙ gt_less (R x y) e in
      let below = total.antisymm z y ∙ gt_less (R y z) f in
      ap is_gt (total.antisymm x z ∙ ap ordering_reverse (total.trans z y x below down))

  pub picks-second : (x y : X) → is_gt (R x y) ≡ true → pick x y ≡ y
  unfolding pick
  picks-second x y e = ap (λ b. cond b y x) e

  pub picks-first : (x y : X) → is_gt (R x y) ≡ false → pick x y ≡ x
  unfolding pick
  picks-first x y e = ap (λ b. cond b y x) e

  pick_assoc : (x y z : X) → pick (pick x y) z ≡ pick x (pick y z)
  pick_assoc x y z = by_tests (is_gt (R x y)) (is_gt (R y z)) refl refl
    where
      by_tests : (p q : Bool) → is_gt (R x y) ≡ p → is_gt (R y z) ≡ q → pick (pick x y) z ≡ pick x (pick y z)
      by_tests true true e f =
          let a = picks-second x y e in
          let b = picks-second y z f in
          ap (λ w. pick w z) a ∙ b ∙ sym (ap (pick x) b ∙ picks-second x z (beyond x y z e f))
      by_tests true false e f =
          let a = picks-second x y e in
          let b = picks-first y z f in
          ap (λ w. pick w z) a ∙ b ∙ sym (ap (pick x) b ∙ a)
      by_tests false true e f =
          let a = picks-first x y e in
          let b = picks-second y z f in
          ap (λ w. pick w z) a ∙ sym (ap (pick x) b)
      by_tests false false e f =
          let a = picks-first x y e in
          let b = picks-first y z f in
          ap (λ w. pick w z) a ∙ picks-first x z (upto total x y z e f) ∙ sym (ap (pick x) b ∙ a)

  fold_pick : (x y : X) (ys : List X) → fold pick (pick x y) ys ≡ pick x (fold pick y ys)
  fold_pick x y [] = refl
  fold_pick x y (z ∷ ys) = ap (λ w. fold pick w ys) (pick_assoc x y z) ∙ fold_pick x (pick y z) ys

  reduce-append : (xs ys : List X) → reduce pick (xs ++ ys) ≡ better pick (reduce pick xs) (reduce pick ys)
  reduce-append [] ys = refl
  reduce-append (x ∷ xs) [] = ap (λ l. Some (fold pick x l)) (append-nil xs)
  reduce-append (x ∷ xs) (y ∷ ys) = ap Some (fold-append pick x xs (y ∷ ys) ∙ fold_pick (fold pick x xs) y ys)

  -- ---- the same of items that have such an order
  module _ (item : X → Item) (choose : Item → Item → Item) (chooses : (x y : X) → choose (item x) (item y) ≡ item (cond (is_gt (R x y)) y x)) where
    chooses-pick : (x y : X) → choose (item x) (item y) ≡ item (pick x y)
    unfolding pick
    chooses-pick x y = chooses x y

    joined-items : (xs ys : List X) → reduce choose (map item xs ++ map item ys) ≡ better choose (reduce choose (map item xs)) (reduce choose (map item ys))
    joined-items xs ys =
        ap (reduce choose) (sym (map-append item xs ys))
        ∙ reduce-items item choose pick chooses-pick (xs ++ ys)
        ∙ ap (option_map item) (reduce-append xs ys)
        ∙ sym (better-items item choose pick chooses-pick (reduce pick xs) (reduce pick ys))
        ∙ sym (λ j. better choose (reduce-items item choose pick chooses-pick xs j) (reduce-items item choose pick chooses-pick ys j))

    -- the items of a column that pass a test, where they are values of the type
    joined-column : (p : Item → Bool) (values : List Item → List X) → ((xs : List Item) → filter p xs ≡ map item (values xs)) →
        (xs ys : List Item) → reduce choose (filter p (xs ++ ys)) ≡ better choose (reduce choose (filter p xs)) (reduce choose (filter p ys))
    joined-column p values are xs ys =
        ap (reduce choose) (filter-append p xs ys)
        ∙ (λ j. reduce choose (are xs j ++ are ys j))
        ∙ joined-items (values xs) (values ys)
        ∙ sym (λ j. better choose (reduce choose (are xs j)) (reduce choose (are ys j)))

-- ---- the values of a column

pub truth_of : Item → Option Bool
truth_of null = None
truth_of (int z) = None
truth_of (boolean b) = Some b
truth_of (text t) = None
truth_of (list l) = None

pub bytes_of_text : Item → Option (List ℕ)
bytes_of_text null = None
bytes_of_text (int z) = None
bytes_of_text (boolean b) = None
bytes_of_text (text t) = Some t
bytes_of_text (list l) = None

pub are_numbers : (xs : List Item) → filter is_number xs ≡ map int (filter_map number_of xs)
are_numbers [] = refl
are_numbers (null ∷ xs) = are_numbers xs
are_numbers (int z ∷ xs) = ap (λ l. int z ∷ l) (are_numbers xs)
are_numbers (boolean b ∷ xs) = are_numbers xs
are_numbers (text t ∷ xs) = are_numbers xs
are_numbers (list l ∷ xs) = are_numbers xs

pub are_truths : (xs : List Item) → filter is_truth xs ≡ map boolean (filter_map truth_of xs)
unfolding truth_of
are_truths [] = refl
are_truths (null ∷ xs) = are_truths xs
are_truths (int z ∷ xs) = are_truths xs
are_truths (boolean b ∷ xs) = ap (λ l. boolean b ∷ l) (are_truths xs)
are_truths (text t ∷ xs) = are_truths xs
are_truths (list l ∷ xs) = are_truths xs

pub are_bytes : (xs : List Item) → filter is_bytes xs ≡ map text (filter_map bytes_of_text xs)
unfolding bytes_of_text
are_bytes [] = refl
are_bytes (null ∷ xs) = are_bytes xs
are_bytes (int z ∷ xs) = are_bytes xs
are_bytes (boolean b ∷ xs) = are_bytes xs
are_bytes (text t ∷ xs) = ap (λ l. text t ∷ l) (are_bytes xs)
are_bytes (list l ∷ xs) = are_bytes xs

-- an item of one of two values
pub cond-item : {X : Type 0} (item : X → Item) (b : Bool) (x y : X) → cond b (item y) (item x) ≡ item (cond b y x)
cond-item item true x y = refl
cond-item item false x y = refl

-- ---- the least and the greatest

pub least-append : (k : Kind) (xs ys : List Item) → least_of k (xs ++ ys) ≡ better lesser (least_of k xs) (least_of k ys)
least-append (kind.int t) xs ys = joined-column int_cmp int_cmp_total int lesser (λ x y. cond-item int (is_gt (int_cmp x y)) x y) is_number (filter_map number_of) are_numbers xs ys
least-append kind.boolean xs ys = joined-column bool_cmp bool_cmp_total boolean lesser (λ x y. cond-item boolean (is_gt (bool_cmp x y)) x y) is_truth (filter_map truth_of) are_truths xs ys
least-append (kind.texts w) xs ys = joined-column (slice_cmp nat_cmp) nat_list_cmp_total text lesser (λ x y. cond-item text (is_gt (slice_cmp nat_cmp x y)) x y) is_bytes (filter_map bytes_of_text) are_bytes xs ys
least-append (kind.lists w k) xs ys =
    no_least_of_lists (kind.lists w k) (xs ++ ys) refl
    ∙ sym (λ j. better lesser (no_least_of_lists (kind.lists w k) xs refl j) (no_least_of_lists (kind.lists w k) ys refl j))
least-append kind.dict xs ys = joined-column (slice_cmp nat_cmp) nat_list_cmp_total text lesser (λ x y. cond-item text (is_gt (slice_cmp nat_cmp x y)) x y) is_bytes (filter_map bytes_of_text) are_bytes xs ys

pub greatest-append : (k : Kind) (xs ys : List Item) → greatest_of k (xs ++ ys) ≡ better greater (greatest_of k xs) (greatest_of k ys)
greatest-append (kind.int t) xs ys = joined-column (flip_args int_cmp) (back_total int_cmp_total) int greater (λ x y. cond-item int (is_gt (int_cmp y x)) x y) is_number (filter_map number_of) are_numbers xs ys
greatest-append kind.boolean xs ys = joined-column (flip_args bool_cmp) (back_total bool_cmp_total) boolean greater (λ x y. cond-item boolean (is_gt (bool_cmp y x)) x y) is_truth (filter_map truth_of) are_truths xs ys
greatest-append (kind.texts w) xs ys = joined-column (flip_args (slice_cmp nat_cmp)) (back_total nat_list_cmp_total) text greater (λ x y. cond-item text (is_gt (slice_cmp nat_cmp y x)) x y) is_bytes (filter_map bytes_of_text) are_bytes xs ys
greatest-append (kind.lists w k) xs ys =
    no_greatest_of_lists (kind.lists w k) (xs ++ ys) refl
    ∙ sym (λ j. better greater (no_greatest_of_lists (kind.lists w k) xs refl j) (no_greatest_of_lists (kind.lists w k) ys refl j))
greatest-append kind.dict xs ys = joined-column (flip_args (slice_cmp nat_cmp)) (back_total nat_list_cmp_total) text greater (λ x y. cond-item text (is_gt (slice_cmp nat_cmp y x)) x y) is_bytes (filter_map bytes_of_text) are_bytes xs ys

-- ---- nulls and sums

pub nulls-append : (xs ys : List Item) → nulls_of (xs ++ ys) ≡ nulls_of xs + nulls_of ys
nulls-append xs ys = sum_by-append (λ x. cond (is_null x) 1 0) xs ys

fold-from : (y z : ℤ) (zs : List ℤ) → fold ◌+ℤ◌ (y +ℤ z) zs ≡ y +ℤ fold ◌+ℤ◌ z zs
fold-from y z [] = refl
fold-from y z (x ∷ zs) =
    let regrouped : (y +ℤ z) +ℤ x ≡ y +ℤ (z +ℤ x) = omega (arith, ints) in
    ap (λ w. fold ◌+ℤ◌ w zs) regrouped ∙ fold-from y (z +ℤ x) zs

total-append : (xs ys : List Item) → total_of (xs ++ ys) ≡ total_of xs +ℤ total_of ys
total-append xs ys =
    let a = total_of xs in
    let same : a ≡ a +ℤ pos 0 = omega (arith, ints) in
    ap (fold ◌+ℤ◌ (pos 0)) (filter_map-append number_of xs ys)
    ∙ fold-append ◌+ℤ◌ (pos 0) (numbers_of xs) (numbers_of ys)
    ∙ ap (λ w. fold ◌+ℤ◌ w (numbers_of ys)) same
    ∙ fold-from a (pos 0) (numbers_of ys)

pub sum-append : (k : Kind) (xs ys : List Item) → sum_of k (xs ++ ys) ≡ both_sums (sum_of k xs) (sum_of k ys)
sum-append (kind.int t) xs ys = ap Some (total-append xs ys)
sum-append kind.boolean xs ys = refl
sum-append (kind.texts w) xs ys = refl
sum-append (kind.lists w k) xs ys = refl
sum-append kind.dict xs ys = refl

-- the statistics of two columns are those of both
pub AreStats-append : (s a b : ColumnStats) (k : Kind) (xs ys : List Item) → AreStats a k xs → AreStats b k ys
    → s.rows ≡ a.rows + b.rows → s.nulls ≡ a.nulls + b.nulls → s.sum ≡ both_sums a.sum b.sum
    → option_map scalar_item s.least ≡ better lesser (option_map scalar_item a.least) (option_map scalar_item b.least)
    → option_map scalar_item s.greatest ≡ better greater (option_map scalar_item a.greatest) (option_map scalar_item b.greatest)
    → AreStats s k (xs ++ ys)
AreStats-append s a b k xs ys of_a of_b rows nulls sum least greatest = record {
  rows = rows ∙ (λ j. of_a.rows j + of_b.rows j) ∙ sym (length-append xs ys);
  nulls = nulls ∙ (λ j. of_a.nulls j + of_b.nulls j) ∙ sym (nulls-append xs ys);
  sum = sum ∙ (λ j. both_sums (of_a.sum j) (of_b.sum j)) ∙ sym (sum-append k xs ys);
  least = least ∙ (λ j. better lesser (of_a.least j) (of_b.least j)) ∙ sym (least-append k xs ys);
  greatest = greatest ∙ (λ j. better greater (of_a.greatest j) (of_b.greatest j)) ∙ sym (greatest-append k xs ys);
}
