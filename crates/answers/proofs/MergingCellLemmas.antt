-- The cells of groups, and what is made of them again.
use Rattle.std.proofs.Common.{◌≡◌, ◌∙◌, ℕ, ℤ, pos, ◌+◌, ◌+ℤ◌, Bool, true, false, not, ◌||◌, cond, List, [], ◌∷◌, ◌++◌, length, Option, Some, None, IfSome, refl, sym, ap, subst, length-append, true≢false}
use Rattle.std.specs.Prelude.{All, slice_index_or}
use Rattle.std.specs.List.{reduce}
use Rattle.std.proofs.lemmas.List.{map-append}
use Rattle.std.proofs.lemmas.List.Elements.{All-append, All-cons, All-contains, All-head, All-map, All-nil, All-tail, All-weaker, filter-append, filter_passes}
use Rattle.arrays.specs.Prelude.{Item, Kind, Row, Table, boolean, column, int, is_null, item_of, list, null, text}
use Rattle.arrays.specs.Kind as kind
use Rattle.query.specs.declared.expr.Agg.{Agg}
use Rattle.query.specs.declared.expr.Agg.TheVariants.{Rows, Count, Sum, Least, Greatest}
use Rattle.answers.specs.Prelude.{AreMergeable, HasOrder, IsMergeable, again, cell, values}
use Rattle.group.specs.Prelude.{IsGreatestOf, IsLeastOf, better, greater, greatest_of, is_ordered, item_or_null, least_of, lesser, numbers_of, ordered}
use Rattle.group.proofs.JoinedStats.{least-append, greatest-append}
use Rattle.group.proofs.BoundLemmas.{greatest_bounds, least_bounds}
use Rattle.tallies.proofs.TallyLemmas.{tally-merged, valid_items-one}
use Rattle.tallies.specs.Prelude.{AreComparable, IsComparable, TallyShape, item_for, valid_items}
use Rattle.group.proofs.TallyLemmas.{null_is_not}

-- ---- columns

column-append : (c : ℕ) (rows more : Table) → column (rows ++ more) c ≡ column rows c ++ column more c
column-append c rows more = map-append (λ (row : Row). slice_index_or row c null) rows more

values-append : (c : ℕ) (rows more : Table) → values (rows ++ more) c ≡ values rows c ++ values more c
values-append c rows more = ap valid_items (column-append c rows more) ∙ filter-append (λ x. not (is_null x)) (column rows c) (column more c)

-- ---- sums

numbers_sum-append : (xs ys : List Item) → reduce ◌+ℤ◌ (numbers_of (xs ++ ys)) ≡ better ◌+ℤ◌ (reduce ◌+ℤ◌ (numbers_of xs)) (reduce ◌+ℤ◌ (numbers_of ys))
numbers_sum-append xs ys = ap (λ (t : TallyShape). t.sum) (tally-merged (λ c. kind.boolean) (Sum 0) xs ys (λ i d below. tt) (λ i d below. tt))

-- The sum of the numbers of a column, none where there is none.
abbrev sum_at : ℕ → Table → Option ℤ
sum_at c rows = reduce ◌+ℤ◌ (numbers_of (column rows c))

sum_at-append : (c : ℕ) (rows more : Table) → sum_at c (rows ++ more) ≡ better ◌+ℤ◌ (sum_at c rows) (sum_at c more)
sum_at-append c rows more =
    ap (λ l. reduce ◌+ℤ◌ (numbers_of l)) (column-append c rows more) ∙ numbers_sum-append (column rows c) (column more c)

sum_of_one : (s : Option ℤ) → reduce ◌+ℤ◌ (numbers_of (item_of s ∷ [])) ≡ s
sum_of_one None = refl
sum_of_one (Some z) = refl

counts-append : (c : ℕ) (rows more : Table) (n m : ℕ) → sum_at c rows ≡ Some (pos n) → sum_at c more ≡ Some (pos m) → sum_at c (rows ++ more) ≡ Some (pos (n + m))
counts-append c rows more n m h g = sum_at-append c rows more ∙ (λ j. better ◌+ℤ◌ (h j) (g j))

-- ---- the least and the greatest

valid_one : (k : Kind) (x : Item) → HasOrder k x → not (is_null x) ≡ is_ordered k x
valid_one k null h = sym (null_is_not k)
valid_one k (int z) h = sym h
valid_one k (boolean b) h = sym h
valid_one k (text t) h = sym h
valid_one k (list l) h = sym h

valid_ordered : (k : Kind) (xs : List Item) → All (HasOrder k) xs → valid_items xs ≡ ordered k xs
valid_ordered k [] h = refl
valid_ordered k (x ∷ xs) h =
    ap (λ b. cond b (x ∷ valid_items xs) (valid_items xs)) (valid_one k x (All-head (HasOrder k) x xs h))
    ∙ ap (λ l. cond (is_ordered k x) (x ∷ l) l) (valid_ordered k xs (All-tail (HasOrder k) x xs h))

-- The best of cells is the best of items.
pub record AreBest (choose : Item → Item → Item) (k : Kind) (cells items : List Item) : Type 0 where
  pub cells_compare : All (HasOrder k) cells
  pub items_compare : All (HasOrder k) items
  pub same : reduce choose (valid_items cells) ≡ reduce choose (valid_items items)

module _ (choose : Item → Item → Item) (k : Kind)
    (parts : (xs ys : List Item) → reduce choose (ordered k (xs ++ ys)) ≡ better choose (reduce choose (ordered k xs)) (reduce choose (ordered k ys)))
    (within : (xs : List Item) → IfSome (reduce choose (ordered k xs)) (λ x. is_ordered k x ≡ true)) where
  best-append : (xs ys : List Item) → All (HasOrder k) xs → All (HasOrder k) ys
      → reduce choose (valid_items (xs ++ ys)) ≡ better choose (reduce choose (valid_items xs)) (reduce choose (valid_items ys))
  best-append xs ys h g =
      ap (reduce choose) (valid_ordered k (xs ++ ys) (All-append (HasOrder k) xs ys h g)) ∙ parts xs ys
      ∙ sym (λ j. better choose (reduce choose (valid_ordered k xs h j)) (reduce choose (valid_ordered k ys g j)))

  pub both_best : (xs ys cells items : List Item) → AreBest choose k xs ys → AreBest choose k cells items → AreBest choose k (xs ++ cells) (ys ++ items)
  both_best xs ys cells items a b = record {
    cells_compare = All-append (HasOrder k) xs cells a.cells_compare b.cells_compare;
    items_compare = All-append (HasOrder k) ys items a.items_compare b.items_compare;
    same = best-append xs cells a.cells_compare b.cells_compare ∙ (λ j. better choose (a.same j) (b.same j)) ∙ sym (best-append ys items a.items_compare b.items_compare);
  }

  not_null : (x : Item) → is_ordered k x ≡ true → is_null x ≡ false
  not_null null h = absurd (true≢false (sym h ∙ null_is_not k))
  not_null (int z) h = refl
  not_null (boolean b) h = refl
  not_null (text t) h = refl
  not_null (list l) h = refl

  one_best : (items : List Item) (o : Option Item) → All (HasOrder k) items → reduce choose (valid_items items) ≡ o → IfSome o (λ x. is_ordered k x ≡ true)
      → AreBest choose k (item_or_null o ∷ []) items
  one_best items None h is there = record { cells_compare = All-cons (HasOrder k) null [] refl (All-nil (HasOrder k)); items_compare = h; same = sym is }
  one_best items (Some x) h is there = record {
    cells_compare = All-cons (HasOrder k) x [] (ap (λ b. b || is_ordered k x) (not_null x there) ∙ there) (All-nil (HasOrder k));
    items_compare = h;
    same = ap (λ b. reduce choose (cond (not b) (x ∷ []) [])) (not_null x there) ∙ sym is;
  }

  pub best_of_one : (items : List Item) (x : Item) → All (HasOrder k) items → x ≡ item_or_null (reduce choose (valid_items items)) → AreBest choose k (x ∷ []) items
  best_of_one items x h is =
      subst (λ y. AreBest choose k (y ∷ []) items) (sym is)
      (one_best items (reduce choose (valid_items items)) h refl
      (subst (λ l. IfSome (reduce choose l) (λ y. is_ordered k y ≡ true)) (sym (valid_ordered k items h)) (within items)))

-- The least and the greatest of a column are values that are ordered.
least_in : (k : Kind) (xs : List Item) → IfSome (reduce lesser (ordered k xs)) (λ x. is_ordered k x ≡ true)
least_in k xs = one_of (least_of k xs) (least_bounds k xs) where
  one_of : (o : Option Item) → IfSome o (IsLeastOf k xs) → IfSome o (λ x. is_ordered k x ≡ true)
  one_of None h = h
  one_of (Some x) h = All-contains (λ y. is_ordered k y ≡ true) (ordered k xs) x (filter_passes (is_ordered k) xs) h.within

greatest_in : (k : Kind) (xs : List Item) → IfSome (reduce greater (ordered k xs)) (λ x. is_ordered k x ≡ true)
greatest_in k xs = one_of (greatest_of k xs) (greatest_bounds k xs) where
  one_of : (o : Option Item) → IfSome o (IsGreatestOf k xs) → IfSome o (λ x. is_ordered k x ≡ true)
  one_of None h = h
  one_of (Some x) h = All-contains (λ y. is_ordered k y ≡ true) (ordered k xs) x (filter_passes (is_ordered k) xs) h.within

-- ---- each aggregate

best_columns : (choose : Item → Item → Item) (k : Kind) (c d : ℕ) (cells rows other more : Table) → AreBest choose k (column cells c ++ column other c) (column rows d ++ column more d)
    → AreBest choose k (column (cells ++ other) c) (column (rows ++ more) d)
best_columns choose k c d cells rows other more h =
    subst (λ l. AreBest choose k l (column (rows ++ more) d)) (sym (column-append c cells other))
    (subst (λ l. AreBest choose k (column cells c ++ column other c) l) (sym (column-append d rows more)) h)

-- What is made again of cells, which are in this column, is what is made of rows.
abbrev pub Agrees : (ℕ → Kind) → ℕ → Agg ℕ → Table → Table → Type 0
Agrees kinds c Rows cells rows = sum_at c cells ≡ Some (pos (length rows))
Agrees kinds c (Count d) cells rows = sum_at c cells ≡ Some (pos (length (values rows d)))
Agrees kinds c (Sum d) cells rows = sum_at c cells ≡ sum_at d rows
Agrees kinds c (Least d) cells rows = AreBest lesser (kinds d) (column cells c) (column rows d)
Agrees kinds c (Greatest d) cells rows = AreBest greater (kinds d) (column cells c) (column rows d)

pub same_cell : (kinds : ℕ → Kind) (c : ℕ) (a : Agg ℕ) (cells rows : Table) → Agrees kinds c a cells rows → cell cells (again c a) ≡ cell rows a
same_cell kinds c Rows cells rows h = ap item_of h
same_cell kinds c (Count d) cells rows h = ap item_of h
same_cell kinds c (Sum d) cells rows h = ap item_of h
same_cell kinds c (Least d) cells rows h = ap item_or_null h.same
same_cell kinds c (Greatest d) cells rows h = ap item_or_null h.same

pub agrees-append : (kinds : ℕ → Kind) (c : ℕ) (a : Agg ℕ) (cells rows other more : Table) → Agrees kinds c a cells rows → Agrees kinds c a other more
    → Agrees kinds c a (cells ++ other) (rows ++ more)
agrees-append kinds c Rows cells rows other more h g =
    counts-append c cells other (length rows) (length more) h g ∙ ap (λ n. Some (pos n)) (sym (length-append rows more))
agrees-append kinds c (Count d) cells rows other more h g =
    counts-append c cells other (length (values rows d)) (length (values more d)) h g
    ∙ ap (λ n. Some (pos n)) (sym (ap (λ (l : List Item). length l) (values-append d rows more) ∙ length-append (values rows d) (values more d)))
agrees-append kinds c (Sum d) cells rows other more h g =
    sum_at-append c cells other ∙ (λ j. better ◌+ℤ◌ (h j) (g j)) ∙ sym (sum_at-append d rows more)
agrees-append kinds c (Least d) cells rows other more h g =
    best_columns lesser (kinds d) c d cells rows other more
    (both_best lesser (kinds d) (least-append (kinds d)) (least_in (kinds d)) (column cells c) (column rows d) (column other c) (column more d) h g)
agrees-append kinds c (Greatest d) cells rows other more h g =
    best_columns greater (kinds d) c d cells rows other more
    (both_best greater (kinds d) (greatest-append (kinds d)) (greatest_in (kinds d)) (column cells c) (column rows d) (column other c) (column more d) h g)

pub agrees_one : (kinds : ℕ → Kind) (c : ℕ) (a : Agg ℕ) (row : Row) (rows : Table) → All (λ r. IsMergeable kinds r a) rows → slice_index_or row c null ≡ cell rows a
    → Agrees kinds c a (row ∷ []) rows
agrees_one kinds c Rows row rows h is = ap (λ x. reduce ◌+ℤ◌ (numbers_of (x ∷ []))) is
agrees_one kinds c (Count d) row rows h is = ap (λ x. reduce ◌+ℤ◌ (numbers_of (x ∷ []))) is
agrees_one kinds c (Sum d) row rows h is = ap (λ x. reduce ◌+ℤ◌ (numbers_of (x ∷ []))) is ∙ sum_of_one (sum_at d rows)
agrees_one kinds c (Least d) row rows h is =
    best_of_one lesser (kinds d) (least-append (kinds d)) (least_in (kinds d)) (column rows d) (slice_index_or row c null)
    (All-map (HasOrder (kinds d)) (λ (r : Row). slice_index_or r d null) rows h) is
agrees_one kinds c (Greatest d) row rows h is =
    best_of_one greater (kinds d) (greatest-append (kinds d)) (greatest_in (kinds d)) (column rows d) (slice_index_or row c null)
    (All-map (HasOrder (kinds d)) (λ (r : Row). slice_index_or r d null) rows h) is

-- ---- rows that can be compared

or_not : (b : Bool) → (b || not b) ≡ true
or_not true = refl
or_not false = refl

compares : (kinds : ℕ → Kind) (row : Row) (a : Agg ℕ) → IsComparable kinds a (item_for a row) → IsMergeable kinds row a
compares kinds row Rows h = tt
compares kinds row (Count c) h = tt
compares kinds row (Sum c) h = tt
compares kinds row (Least c) h =
    let x = slice_index_or row c null in
    ap (λ b. is_null x || b) (sym (valid_items-one (kinds c) x h.0 h.1)) ∙ or_not (is_null x)
compares kinds row (Greatest c) h =
    let x = slice_index_or row c null in
    ap (λ b. is_null x || b) (sym (valid_items-one (kinds c) x h.0 h.1)) ∙ or_not (is_null x)

pub all_compare : (kinds : ℕ → Kind) (aggs : List (Agg ℕ)) (row : Row) → AreComparable kinds aggs row → AreMergeable kinds aggs row
all_compare kinds aggs row h = All-weaker (λ a. IsComparable kinds a (item_for a row)) (IsMergeable kinds row) (compares kinds row) aggs h
