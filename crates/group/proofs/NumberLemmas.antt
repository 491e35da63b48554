-- The least and the greatest of a column of integers, as numbers.
use Rattle.std.proofs.Common.{◌≡◌, ◌∙◌, ◌⊎◌, inl, inr, zero, suc, ℤ, ◌≤ℤ◌, List, [], ◌∷◌, None, IfSome, option_map, cond, ◌<ℤ◌, All, ap, sym, refl, subst, arith}
use Rattle.std.specs.List.{Contains, fold, reduce}
use Rattle.std.specs.Int.{int_min, int_max}
use Rattle.std.specs.Ordering.{int_cmp, is_gt, MatchOrdering}
use Rattle.std.specs.Cmp.{int_ranks}
use Rattle.std.specs.declared.cmp.Ordering.{Ordering}
use Rattle.std.specs.declared.cmp.Ordering.TheVariants.{Less, Equal, Greater}
use Rattle.std.proofs.lemmas.Int.{ints, int_min_is, int_max_is, fold-int_min_bounds, fold-int_min_reached, fold-int_max_bounds, fold-int_max_reached}
use Rattle.arrays.specs.Prelude.{IntType, Item, boolean, int, list, null, text}
use Rattle.arrays.specs.Kind as kind
use Rattle.group.specs.Prelude.{IsGreatest, IsLeast, greater, greatest_number, greatest_of, least_number, least_of, lesser, numbers_of}
use Rattle.group.proofs.JoinedStats.{are_numbers, reduce-items}

-- ---- as values they are the same

lesser_is : (x y : ℤ) → lesser (int x) (int y) ≡ int (int_min x y)
lesser_is x y = by_rank (int_cmp x y) (int_ranks x y) where
  by_rank : (o : Ordering) → MatchOrdering o (x <ℤ y) (x ≡ y) (y <ℤ x) → cond (is_gt o) (int y) (int x) ≡ int (int_min x y)
  by_rank Less h =
      let same : x ≡ int_min x y = omega (arith, ints, h, int_min_is x y) in
      ap int same
  by_rank Equal h =
      let same : x ≡ int_min x y = omega (arith, ints, h, int_min_is x y) in
      ap int same
  by_rank Greater h =
      let same : y ≡ int_min x y = omega (arith, ints, h, int_min_is x y) in
      ap int same

greater_is : (x y : ℤ) → greater (int x) (int y) ≡ int (int_max x y)
greater_is x y = by_rank (int_cmp y x) (int_ranks y x) where
  by_rank : (o : Ordering) → MatchOrdering o (y <ℤ x) (y ≡ x) (x <ℤ y) → cond (is_gt o) (int y) (int x) ≡ int (int_max x y)
  by_rank Less h =
      let same : x ≡ int_max x y = omega (arith, ints, h, int_max_is x y) in
      ap int same
  by_rank Equal h =
      let same : x ≡ int_max x y = omega (arith, ints, h, int_max_is x y) in
      ap int same
  by_rank Greater h =
      let same : y ≡ int_max x y = omega (arith, ints, h, int_max_is x y) in
      ap int same

pub least_values : (t : IntType) (column : List Item) → least_of (kind.int t) column ≡ option_map int (least_number column)
least_values t column = ap (reduce lesser) (are_numbers column) ∙ reduce-items int lesser int_min lesser_is (numbers_of column)

pub greatest_values : (t : IntType) (column : List Item) → greatest_of (kind.int t) column ≡ option_map int (greatest_number column)
greatest_values t column = ap (reduce greater) (are_numbers column) ∙ reduce-items int greater int_max greater_is (numbers_of column)

-- ---- the numbers of a column are its items that are numbers

later : {X : Type 0} (x y : X) (xs : List X) → Contains xs y → Contains (x ∷ xs) y
later x y xs h = (suc h.0, omega (arith, h.1), h.2)

number_in : (column : List Item) (z : ℤ) → Contains column (int z) → Contains (numbers_of column) z
number_in [] z h = absurd (omega (arith, h.1))
number_in (null ∷ column) z (zero, below, is) = absurd cc
number_in (null ∷ column) z (suc k, below, is) = number_in column z (k, omega (arith, below), is)
number_in (int y ∷ column) z (zero, below, is) =
    let same : y ≡ z = cc in
    (0, omega arith, same)
number_in (int y ∷ column) z (suc k, below, is) = later y z (numbers_of column) (number_in column z (k, omega (arith, below), is))
number_in (boolean b ∷ column) z (zero, below, is) = absurd cc
number_in (boolean b ∷ column) z (suc k, below, is) = number_in column z (k, omega (arith, below), is)
number_in (text t ∷ column) z (zero, below, is) = absurd cc
number_in (text t ∷ column) z (suc k, below, is) = number_in column z (k, omega (arith, below), is)
number_in (list l ∷ column) z (zero, below, is) = absurd cc
number_in (list l ∷ column) z (suc k, below, is) = number_in column z (k, omega (arith, below), is)

item_in : (column : List Item) (z : ℤ) → Contains (numbers_of column) z → Contains column (int z)
item_in [] z h = absurd (omega (arith, h.1))
item_in (null ∷ column) z h = later null (int z) column (item_in column z h)
item_in (int y ∷ column) z (zero, below, is) =
    let same : y ≡ z = is in
    (0, omega arith, ap int same)
item_in (int y ∷ column) z (suc k, below, is) = later (int y) (int z) column (item_in column z (k, omega (arith, below), is))
item_in (boolean b ∷ column) z h = later (boolean b) (int z) column (item_in column z h)
item_in (text t ∷ column) z h = later (text t) (int z) column (item_in column z h)
item_in (list l ∷ column) z h = later (list l) (int z) column (item_in column z h)

-- ---- none, or one of a list

within_all : (P : ℤ → Type 0) (x : ℤ) (xs : List ℤ) → P x → All P xs → (z : ℤ) → Contains (x ∷ xs) z → P z
within_all P x xs here rest z (zero, below, is) = subst P is here
within_all P x xs here rest z (suc k, below, is) = subst P is (rest k z (omega (arith, below)))

reached : (x : ℤ) (xs : List ℤ) (r : ℤ) → (r ≡ x) ⊎ Contains xs r → Contains (x ∷ xs) r
reached x xs r (inl is) = (0, omega arith, sym is)
reached x xs r (inr among) = later x r xs among

least_by : (column : List Item) (xs : List ℤ) → numbers_of column ≡ xs → IfSome (reduce int_min xs) (IsLeast column)
least_by column [] is = tt
least_by column (x ∷ xs) is =
    let r = fold int_min x xs in
    let bounds = fold-int_min_bounds x xs r refl in
    record {
      within = item_in column r (subst (λ ns. Contains ns r) (sym is) (reached x xs r (fold-int_min_reached x xs r refl)));
      at_most = λ z h. within_all (λ y. r ≤ℤ y) x xs bounds.0 bounds.1 z (subst (λ ns. Contains ns z) is (number_in column z h));
    }

greatest_by : (column : List Item) (xs : List ℤ) → numbers_of column ≡ xs → IfSome (reduce int_max xs) (IsGreatest column)
greatest_by column [] is = tt
greatest_by column (x ∷ xs) is =
    let r = fold int_max x xs in
    let bounds = fold-int_max_bounds x xs r refl in
    record {
      within = item_in column r (subst (λ ns. Contains ns r) (sym is) (reached x xs r (fold-int_max_reached x xs r refl)));
      at_least = λ z h. within_all (λ y. y ≤ℤ r) x xs bounds.0 bounds.1 z (subst (λ ns. Contains ns z) is (number_in column z h));
    }

none_by : (choose : ℤ → ℤ → ℤ) (column : List Item) (xs : List ℤ) → numbers_of column ≡ xs → reduce choose xs ≡ None → (z : ℤ) → Contains column (int z) → ⊥
none_by choose column [] is none z h = absurd (omega (arith, (subst (λ ns. Contains ns z) is (number_in column z h)).1))
none_by choose column (x ∷ xs) is none z h = absurd cc

empty_by : (choose : ℤ → ℤ → ℤ) (column : List Item) (xs : List ℤ) → numbers_of column ≡ xs → ((z : ℤ) → Contains column (int z) → ⊥) → reduce choose xs ≡ None
empty_by choose column [] is h = refl
empty_by choose column (x ∷ xs) is h = absurd (h x (item_in column x (subst (λ ns. Contains ns x) (sym is) (0, omega arith, refl))))

pub least_law : (column : List Item) → IfSome (least_number column) (IsLeast column)
least_law column = least_by column (numbers_of column) refl

pub greatest_law : (column : List Item) → IfSome (greatest_number column) (IsGreatest column)
greatest_law column = greatest_by column (numbers_of column) refl

pub no_best : (choose : ℤ → ℤ → ℤ) (column : List Item) → (reduce choose (numbers_of column) ≡ None → (z : ℤ) → Contains column (int z) → ⊥) × (((z : ℤ) → Contains column (int z) → ⊥) → reduce choose (numbers_of column) ≡ None)
no_best choose column = (none_by choose column (numbers_of column) refl, empty_by choose column (numbers_of column) refl)
