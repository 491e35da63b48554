-- What is known of items, with one item more.
use Rattle.std.proofs.Common.{◌≡◌, ◌∙◌, ℕ, zero, suc, ℤ, pos, ◌+◌, ◌≤◌, ◌+ℤ◌, Bool, true, false, not, cond, List, [], ◌∷◌, ◌++◌, length, filter, Option, Some, None, refl, sym, ap, arith, length-append, if◌then◌else◌}
use mathlib.Core.Logic.{⊎_elim}
use Rattle.std.specs.List.{fold, reduce}
use Rattle.std.proofs.lemmas.Bool.{cases_Bool}
use Rattle.std.proofs.lemmas.Int.{ints}
use Rattle.std.proofs.lemmas.List.{append-nil}
use Rattle.std.proofs.lemmas.List.Sums.{fold_push, length-filter, count_by-le-length, fold-append}
use Rattle.std.proofs.lemmas.List.Elements.{filter-append, filter_map-append, All-head, All-tail}
use Rattle.arrays.specs.Prelude.{IsItemOf, Item, Kind, boolean, int, is_list, is_null, list, null, text}
use Rattle.evaluate.specs.Prelude.{Agg}
use Rattle.evaluate.specs.Aggs as agg
use Rattle.group.specs.Prelude.{better, greater, greatest_of, is_ordered, least_of, lesser, number_of, numbers_of, ordered}
use Rattle.tallies.specs.declared.end.End.{End}
use Rattle.tallies.specs.declared.end.End.TheVariants.{Least, Greatest}
use Rattle.tallies.specs.Prelude.{IsComparable, TallyShape, agg_at, bettered, counted, is_better, is_further, merged, sum_if_any, summed, tally_of, valid_items, with_item}
use Rattle.std.specs.Prelude.{All}
use Rattle.arrays.specs.Kind as kind
use Rattle.group.proofs.JoinedStats.{greatest-append, least-append}

valid_items-push : (xs : List Item) (x : Item) (b : Bool) → is_null x ≡ b → valid_items (xs ++ x ∷ []) ≡ valid_items xs ++ cond (not b) (x ∷ []) []
valid_items-push xs x b is = filter-append (λ x. not (is_null x)) xs (x ∷ []) ∙ ap (λ b. valid_items xs ++ cond (not b) (x ∷ []) []) is

-- ---- sums

-- The number, if there is one, as a list.
abbrev one : Option ℤ → List ℤ
one None = []
one (Some z) = z ∷ []

numbers-one : (x : Item) → numbers_of (x ∷ []) ≡ one (number_of x)
numbers-one null = refl
numbers-one (int z) = refl
numbers-one (boolean b) = refl
numbers-one (text t) = refl
numbers-one (list l) = refl

numbers-push : (xs : List Item) (x : Item) → numbers_of (xs ++ x ∷ []) ≡ numbers_of xs ++ one (number_of x)
numbers-push xs x = filter_map-append number_of xs (x ∷ []) ∙ ap (λ l. numbers_of xs ++ l) (numbers-one x)

pub null_unsummed : (t : TallyShape) (xs : List Item) → t ≡ tally_of (agg.Sum 0) xs → t ≡ tally_of (agg.Sum 0) (xs ++ null ∷ [])
null_unsummed t xs h = h ∙ ap summed (sym (numbers-push xs null ∙ append-nil (numbers_of xs)))

abbrev pub shown : ℕ → ℤ → TallyShape
shown n s = record { count = n; sum = sum_if_any n s; best = None }

pub no_numbers : (n : ℕ) (s : ℤ) → n ≡ 0 → shown n s ≡ summed []
no_numbers n s is = ap (λ m. shown m s) is

sum_there : (n : ℕ) (s w : ℤ) → sum_if_any n s ≡ Some w → s ≡ w
sum_there zero s w h = absurd cc
sum_there (suc n) s w h = cc

sum_grown : (n : ℕ) (s z : ℤ) (zs : List ℤ) → (n ≡ 0 → s ≡ pos 0) → shown n s ≡ summed zs → shown (n + 1) (s +ℤ z) ≡ summed (zs ++ z ∷ [])
sum_grown n s z [] empty h =
    let none : n ≡ 0 = ap (λ (t : TallyShape). t.count) h in
    let first : n + 1 ≡ 1 = omega (arith, none) in
    let zero_is = empty none in
    let sum_is : s +ℤ z ≡ z = omega (arith, ints, zero_is) in
    ap (λ m. shown m (s +ℤ z)) first ∙ ap (shown 1) sum_is
sum_grown n s z (y ∷ ys) empty h =
    let some : n ≡ length (y ∷ ys) = ap (λ (t : TallyShape). t.count) h in
    let is : s ≡ fold ◌+ℤ◌ y ys = sum_there n s (fold ◌+ℤ◌ y ys) (ap (λ (t : TallyShape). t.sum) h) in
    let count_is : n + 1 ≡ length ((y ∷ ys) ++ z ∷ []) = omega (arith, some, length-append (y ∷ ys) (z ∷ [])) in
    ap (λ m. shown m (s +ℤ z)) count_is
    ∙ ap (shown (length ((y ∷ ys) ++ z ∷ []))) (ap (λ w. w +ℤ z) is ∙ sym (fold_push ◌+ℤ◌ y ys z))

pub number_summed : (n m : ℕ) (s z r : ℤ) (xs : List Item) → (n ≡ 0 → s ≡ pos 0) → m ≡ n + 1 → r ≡ s +ℤ z → shown n s ≡ tally_of (agg.Sum 0) xs
    → shown m r ≡ tally_of (agg.Sum 0) (xs ++ int z ∷ [])
number_summed n m s z r xs empty count sum h =
    ap (λ k. shown k r) count ∙ ap (shown (n + 1)) sum ∙ sum_grown n s z (numbers_of xs) empty h ∙ ap summed (sym (numbers-push xs (int z)))

-- ---- ends

abbrev pick : End → Item → Item → Item
pick Least x y = lesser x y
pick Greatest x y = greater x y

abbrev pub best_of : End → List Item → Option Item
best_of Least xs = reduce lesser (valid_items xs)
best_of Greatest xs = reduce greater (valid_items xs)

best_is : (end : End) (c : ℕ) (xs : List Item) → tally_of (agg_at end c) xs ≡ bettered (best_of end xs)
best_is Least c xs = refl
best_is Greatest c xs = refl

pub not_better : (end : End) (o : Option Item) (x : Item) → is_null x ≡ true → is_better end o x ≡ false
not_better end None x h = ap not h
not_better Least (Some null) null h = refl
not_better Least (Some (int z)) null h = refl
not_better Least (Some (boolean b)) null h = refl
not_better Least (Some (text t)) null h = refl
not_better Least (Some (list l)) null h = refl
not_better Greatest (Some b) null h = refl
not_better end (Some b) (int z) h = absurd cc
not_better end (Some b) (boolean y) h = absurd cc
not_better end (Some b) (text t) h = absurd cc
not_better end (Some b) (list l) h = absurd cc

-- The item that is further, by a way of picking one of two.
module _ (picked : Item → Item → Item) (test : Item → Item → Bool) (more : (b x : Item) → picked b x ≡ (if test b x then x else b)) where
  better-item : (xs : List Item) (x : Item) (b : Item) → fold picked b (xs ++ x ∷ []) ≡ (if test (fold picked b xs) x then x else fold picked b xs)
  better-item xs x b = fold_push picked b xs x ∙ more (fold picked b xs) x

pub some_cond : (b : Bool) (x y : Item) → cond b (Some x) (Some y) ≡ Some (cond b x y)
some_cond true x y = refl
some_cond false x y = refl

pub item_first : (end : End) (x : Item) → is_null x ≡ false → with_item end None x ≡ Some x
item_first end x is = ap (λ b. cond (not b) (Some x) None) is

with_more : (end : End) (ys : List Item) (x : Item) → is_null x ≡ false → with_item end (reduce (pick end) ys) x ≡ reduce (pick end) (ys ++ x ∷ [])
with_more end [] x is = item_first end x is
with_more Least (y ∷ ys) x is =
    some_cond (is_further Least (fold lesser y ys) x) x (fold lesser y ys) ∙ ap (λ z. Some z) (sym (better-item lesser (is_further Least) (λ b x. refl) ys x y))
with_more Greatest (y ∷ ys) x is =
    some_cond (is_further Greatest (fold greater y ys) x) x (fold greater y ys) ∙ ap (λ z. Some z) (sym (better-item greater (is_further Greatest) (λ b x. refl) ys x y))

best_by : (end : End) (xs : List Item) → best_of end xs ≡ reduce (pick end) (valid_items xs)
best_by Least xs = refl
best_by Greatest xs = refl

best-push : (end : End) (xs : List Item) (x : Item) → with_item end (best_of end xs) x ≡ best_of end (xs ++ x ∷ [])
best-push end xs x =
    ⊎_elim
    (λ yes. ap (λ b. cond b (Some x) (best_of end xs)) (not_better end (best_of end xs) x yes)
    ∙ best_by end xs ∙ ap (reduce (pick end)) (sym (valid_items-push xs x true yes ∙ append-nil (valid_items xs))) ∙ sym (best_by end (xs ++ x ∷ [])))
    (λ no. ap (λ o. with_item end o x) (best_by end xs) ∙ with_more end (valid_items xs) x no
    ∙ ap (reduce (pick end)) (sym (valid_items-push xs x false no)) ∙ sym (best_by end (xs ++ x ∷ [])))
    (cases_Bool (is_null x))

pub item_bettered : (end : End) (c : ℕ) (old new : Option Item) (xs : List Item) (x : Item) → new ≡ with_item end old x → bettered old ≡ tally_of (agg_at end c) xs
    → bettered new ≡ tally_of (agg_at end c) (xs ++ x ∷ [])
item_bettered end c old new xs x is h =
    ap bettered (is ∙ ap (λ o. with_item end o x) (ap (λ (t : TallyShape). t.best) (h ∙ best_is end c xs)) ∙ best-push end xs x) ∙ sym (best_is end c (xs ++ x ∷ []))

-- ---- it counts no more than there are items

filter-le : (p : Item → Bool) (xs : List Item) → length (filter p xs) ≤ length xs
filter-le p xs = omega (arith, length-filter p xs, count_by-le-length p xs)

numbers-le : (xs : List Item) → length (numbers_of xs) ≤ length xs
numbers-le [] = omega arith
numbers-le (null ∷ xs) = omega (arith, numbers-le xs)
numbers-le (int z ∷ xs) = omega (arith, numbers-le xs)
numbers-le (boolean b ∷ xs) = omega (arith, numbers-le xs)
numbers-le (text t ∷ xs) = omega (arith, numbers-le xs)
numbers-le (list l ∷ xs) = omega (arith, numbers-le xs)

pub counts_few : (xs : List Item) (a : Agg ℕ) → (tally_of a xs).count ≤ length xs
counts_few xs agg.Rows = omega arith
counts_few xs (agg.Count c) = filter-le (λ x. not (is_null x)) xs
counts_few xs (agg.Sum c) = numbers-le xs
counts_few xs (agg.Least c) = omega arith
counts_few xs (agg.Greatest c) = omega arith

-- ---- what an aggregate knows of both

valid_items-append : (xs ys : List Item) → valid_items (xs ++ ys) ≡ valid_items xs ++ valid_items ys
valid_items-append xs ys = filter-append (λ x. not (is_null x)) xs ys

abbrev summed_as : ℕ → Option ℤ → TallyShape
summed_as n z = record { count = n; sum = z; best = None }

fold-sum : (x y : ℤ) (ys : List ℤ) → fold ◌+ℤ◌ (x +ℤ y) ys ≡ x +ℤ fold ◌+ℤ◌ y ys
fold-sum x y [] = refl
fold-sum x y (z ∷ ys) =
    let turn : x +ℤ y +ℤ z ≡ x +ℤ (y +ℤ z) = omega (arith, ints) in
    ap (λ w. fold ◌+ℤ◌ w ys) turn ∙ fold-sum x (y +ℤ z) ys

sum-append : (xs ys : List ℤ) → reduce ◌+ℤ◌ (xs ++ ys) ≡ better ◌+ℤ◌ (reduce ◌+ℤ◌ xs) (reduce ◌+ℤ◌ ys)
sum-append [] ys = refl
sum-append (x ∷ xs) [] = ap (λ l. Some (fold ◌+ℤ◌ x l)) (append-nil xs)
sum-append (x ∷ xs) (y ∷ ys) = ap Some (fold-append ◌+ℤ◌ x xs (y ∷ ys) ∙ fold-sum (fold ◌+ℤ◌ x xs) y ys)

pub valid_items-one : (k : Kind) (x : Item) → is_list k ≡ false → IsItemOf k x → not (is_null x) ≡ is_ordered k x
valid_items-one (kind.int t) null plain h = refl
valid_items-one (kind.int t) (int z) plain h = refl
valid_items-one (kind.int t) (boolean b) plain h = absurd h
valid_items-one (kind.int t) (text s) plain h = absurd h
valid_items-one (kind.int t) (list l) plain h = absurd h
valid_items-one kind.boolean null plain h = refl
valid_items-one kind.boolean (int z) plain h = absurd h
valid_items-one kind.boolean (boolean b) plain h = refl
valid_items-one kind.boolean (text s) plain h = absurd h
valid_items-one kind.boolean (list l) plain h = absurd h
valid_items-one (kind.texts w) null plain h = refl
valid_items-one (kind.texts w) (int z) plain h = absurd h
valid_items-one (kind.texts w) (boolean b) plain h = absurd h
valid_items-one (kind.texts w) (text s) plain h = refl
valid_items-one (kind.texts w) (list l) plain h = absurd h
valid_items-one (kind.lists w k) x plain h = absurd cc
valid_items-one kind.dict null plain h = refl
valid_items-one kind.dict (int z) plain h = absurd h
valid_items-one kind.dict (boolean b) plain h = absurd h
valid_items-one kind.dict (text s) plain h = refl
valid_items-one kind.dict (list l) plain h = absurd h

valid_items-ordered : (k : Kind) (xs : List Item) → All (λ x. (is_list k ≡ false) × IsItemOf k x) xs → valid_items xs ≡ ordered k xs
valid_items-ordered k [] h = refl
valid_items-ordered k (x ∷ xs) h =
    let P : Item → Type 0 = λ y. (is_list k ≡ false) × IsItemOf k y in
    let here = All-head P x xs h in
    ap (λ b. cond b (x ∷ valid_items xs) (valid_items xs)) (valid_items-one k x here.0 here.1)
    ∙ ap (λ l. cond (is_ordered k x) (x ∷ l) l) (valid_items-ordered k xs (All-tail P x xs h))

-- The least of items of several kinds would depend on the order in which they are compared.
pub tally-merged : (kinds : ℕ → Kind) (a : Agg ℕ) (xs ys : List Item) → All (IsComparable kinds a) xs → All (IsComparable kinds a) ys → tally_of a (xs ++ ys) ≡ merged a (tally_of a xs) (tally_of a ys)
tally-merged kinds agg.Rows xs ys are more = ap counted (length-append xs ys)
tally-merged kinds (agg.Count c) xs ys are more = ap counted (ap (λ (l : List Item). length l) (valid_items-append xs ys) ∙ length-append (valid_items xs) (valid_items ys))
tally-merged kinds (agg.Sum c) xs ys are more =
    ap summed (filter_map-append number_of xs ys)
    ∙ ap (λ n. summed_as n (reduce ◌+ℤ◌ (numbers_of xs ++ numbers_of ys))) (length-append (numbers_of xs) (numbers_of ys))
    ∙ ap (summed_as (length (numbers_of xs) + length (numbers_of ys))) (sum-append (numbers_of xs) (numbers_of ys))
tally-merged kinds (agg.Least c) xs ys are more =
    let k = kinds c in
    ap (λ l. bettered (reduce lesser l)) (valid_items-append xs ys)
    ∙ ap (λ l. bettered (reduce lesser (l ++ valid_items ys))) (valid_items-ordered k xs are)
    ∙ ap (λ l. bettered (reduce lesser (ordered k xs ++ l))) (valid_items-ordered k ys more)
    ∙ ap (λ l. bettered (reduce lesser l)) (sym (filter-append (is_ordered k) xs ys))
    ∙ ap bettered (least-append k xs ys)
    ∙ ap (λ l. bettered (better lesser (reduce lesser l) (least_of k ys))) (sym (valid_items-ordered k xs are))
    ∙ ap (λ l. bettered (better lesser (reduce lesser (valid_items xs)) (reduce lesser l))) (sym (valid_items-ordered k ys more))
tally-merged kinds (agg.Greatest c) xs ys are more =
    let k = kinds c in
    ap (λ l. bettered (reduce greater l)) (valid_items-append xs ys)
    ∙ ap (λ l. bettered (reduce greater (l ++ valid_items ys))) (valid_items-ordered k xs are)
    ∙ ap (λ l. bettered (reduce greater (ordered k xs ++ l))) (valid_items-ordered k ys more)
    ∙ ap (λ l. bettered (reduce greater l)) (sym (filter-append (is_ordered k) xs ys))
    ∙ ap bettered (greatest-append k xs ys)
    ∙ ap (λ l. bettered (better greater (reduce greater l) (greatest_of k ys))) (sym (valid_items-ordered k xs are))
    ∙ ap (λ l. bettered (better greater (reduce greater (valid_items xs)) (reduce greater l))) (sym (valid_items-ordered k ys more))
