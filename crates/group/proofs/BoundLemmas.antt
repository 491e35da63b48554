-- The least of values by a total order, and of columns of each kind.
use Rattle.std.proofs.Common.{◌≡◌, ◌∙◌, zero, suc, List, [], ◌∷◌, map, Option, Some, None, IfSome, Bool, true, false, All, ap, sym, refl, subst, arith}
use Rattle.std.specs.List.{Contains, fold, reduce}
use Rattle.std.specs.Cmp.{IsTotalOrder, bool_cmp_total}
use Rattle.std.specs.Cmp.Lexicographic.{slice_cmp}
use Rattle.std.specs.Ordering.{is_gt, int_cmp, bool_cmp, nat_cmp, flip_args, ordering_reverse}
use Rattle.std.specs.declared.cmp.Ordering.{Ordering}
use Rattle.std.specs.declared.cmp.Ordering.TheVariants.{Less, Equal, Greater}
use Rattle.std.proofs.lemmas.Cmp.{upto, back_total, int_cmp_total, nat_list_cmp_total}
use Rattle.std.proofs.lemmas.List.Elements.{All-cons, All-map}
use Rattle.std.specs.List.{filter_map}
use Rattle.arrays.specs.Prelude.{Item, Kind, boolean, int, order, text}
use Rattle.arrays.specs.Kind as kind
use Rattle.group.specs.Prelude.{IsGreatestOf, IsLeastOf, greater, greatest_of, least_of, lesser, number_of, ordered}
use Rattle.group.proofs.JoinedStats.{are_bytes, are_numbers, are_truths, bytes_of_text, cond-item, pick, picks-first, picks-second, reduce-items, truth_of}
use Rattle.group.proofs.TallyLemmas.{no_greatest_of_lists, no_least_of_lists}

-- ---- a list's first by a total order

contains-later : {X : Type 0} (x y : X) (xs : List X) → Contains xs y → Contains (x ∷ xs) y
contains-later x y xs h = (suc h.0, omega (arith, h.1), h.2)

contains-map : {X Y : Type 0} (f : X → Y) (xs : List X) (x : X) → Contains xs x → Contains (map f xs) (f x)
contains-map f [] x h = absurd (omega (arith, h.1))
contains-map f (y ∷ xs) x (zero, below, is) = (0, omega arith, ap f is)
contains-map f (y ∷ xs) x (suc k, below, is) = contains-later (f y) (f x) (map f xs) (contains-map f xs x (k, omega (arith, below), is))

-- one of these, and behind none of them
abbrev IsFirstBy : (Item → Item → Bool) → List Item → Item → Type 0
IsFirstBy behind items r = Contains items r × All (λ y. behind r y ≡ false) items

less_back : (o : Ordering) → is_gt o ≡ true → is_gt (ordering_reverse o) ≡ false
less_back Less e = absurd cc
less_back Equal e = absurd cc
less_back Greater e = refl

itself : (o : Ordering) → o ≡ ordering_reverse o → is_gt o ≡ false
itself Less e = refl
itself Equal e = refl
itself Greater e = absurd cc

module _ {X : Type 0} (R : X → X → Ordering) (total : IsTotalOrder R) where
  -- one of these, and behind none of them
  record IsFirst (xs : List X) (r : X) : Type 0 where
    pub among : Contains xs r
    pub behind : All (λ y. is_gt (R r y) ≡ false) xs

  behind_itself : (x : X) → is_gt (R x x) ≡ false
  behind_itself x = itself (R x x) (total.antisymm x x)

  pick-first : (x y : X) → is_gt (R (pick R total x y) x) ≡ false
  pick-first x y = by_test (is_gt (R x y)) refl
    where
      by_test : (b : Bool) → is_gt (R x y) ≡ b → is_gt (R (pick R total x y) x) ≡ false
      by_test true e = ap (λ z. is_gt (R z x)) (picks-second R total x y e) ∙ (ap is_gt (total.antisymm y x) ∙ less_back (R x y) e)
      by_test false e = ap (λ z. is_gt (R z x)) (picks-first R total x y e) ∙ behind_itself x

  pick-second : (x y : X) → is_gt (R (pick R total x y) y) ≡ false
  pick-second x y = by_test (is_gt (R x y)) refl
    where
      by_test : (b : Bool) → is_gt (R x y) ≡ b → is_gt (R (pick R total x y) y) ≡ false
      by_test true e = ap (λ z. is_gt (R z y)) (picks-second R total x y e) ∙ behind_itself y
      by_test false e = ap (λ z. is_gt (R z y)) (picks-first R total x y e) ∙ e

  -- what is picked of two stands for both
  among-both : (x y : X) (ys : List X) (r : X) → Contains (pick R total x y ∷ ys) r → Contains (x ∷ (y ∷ ys)) r
  among-both x y ys r (zero, below, is) = by_test (is_gt (R x y)) refl
    where
      by_test : (b : Bool) → is_gt (R x y) ≡ b → Contains (x ∷ (y ∷ ys)) r
      by_test true e = (1, omega arith, sym (picks-second R total x y e) ∙ is)
      by_test false e = (0, omega arith, sym (picks-first R total x y e) ∙ is)
  among-both x y ys r (suc k, below, is) = contains-later x r (y ∷ ys) (contains-later y r ys (k, omega (arith, below), is))

  NotBefore : X → X → Type 0
  NotBefore r y = is_gt (R r y) ≡ false

  fold-first : (x : X) (ys : List X) → IsFirst (x ∷ ys) (fold (pick R total) x ys)
  unfolding NotBefore
  fold-first x [] = record { among = (0, omega arith, refl); behind = All-cons (NotBefore x) x [] (behind_itself x) (λ i d below. absurd (omega (arith, below))) }
  fold-first x (y ∷ ys) =
      let r = fold (pick R total) (pick R total x y) ys in
      let rest = fold-first (pick R total x y) ys in
      let to_pick = rest.behind 0 x (omega arith) in
      record {
        among = among-both x y ys r rest.among;
        behind =
            All-cons (NotBefore r) x (y ∷ ys) (upto total r (pick R total x y) x to_pick (pick-first x y))
            (All-cons (NotBefore r) y ys (upto total r (pick R total x y) y to_pick (pick-second x y)) (λ i d below. rest.behind (suc i) d (omega (arith, below))));
      }

  -- the same of items, where one item is behind another as its value is
  module _ (item : X → Item) (choose : Item → Item → Item) (chooses : (x y : X) → choose (item x) (item y) ≡ item (pick R total x y)) (behind : Item → Item → Bool) (as_values : (x y : X) → behind (item x) (item y) ≡ is_gt (R x y)) where
    first-item : (xs : List X) → IfSome (reduce choose (map item xs)) (IsFirstBy behind (map item xs))
    first-item [] = tt
    first-item (x ∷ xs) =
        let r = fold (pick R total) x xs in
        let first = fold-first x xs in
        subst (λ o. IfSome o (IsFirstBy behind (map item (x ∷ xs)))) (sym (reduce-items item choose (pick R total) chooses (x ∷ xs)))
        (contains-map item (x ∷ xs) r first.among, All-map (λ y. behind (item r) y ≡ false) item (x ∷ xs) (λ i d below. as_values r _ ∙ first.behind i d below))

    pub first-of : (items : List Item) (xs : List X) → items ≡ map item xs → IfSome (reduce choose items) (IsFirstBy behind items)
    first-of items xs is = subst (λ l. IfSome (reduce choose l) (IsFirstBy behind l)) (sym is) (first-item xs)

-- ---- columns

as_least : (k : Kind) (column : List Item) (o : Option Item) → IfSome o (IsFirstBy (λ x y. is_gt (order x y)) (ordered k column)) → IfSome o (IsLeastOf k column)
as_least k column None h = tt
as_least k column (Some r) h = record { within = h.0; behind_none = h.1 }

as_greatest : (k : Kind) (column : List Item) (o : Option Item) → IfSome o (IsFirstBy (λ x y. is_gt (order y x)) (ordered k column)) → IfSome o (IsGreatestOf k column)
as_greatest k column None h = tt
as_greatest k column (Some r) h = record { within = h.0; before_none = h.1 }

pub least_bounds : (k : Kind) (column : List Item) → IfSome (least_of k column) (IsLeastOf k column)
unfolding pick
least_bounds (kind.int t) column =
    as_least (kind.int t) column (least_of (kind.int t) column)
    (first-of int_cmp int_cmp_total int lesser (λ x y. cond-item int (is_gt (int_cmp x y)) x y) (λ x y. is_gt (order x y)) (λ x y. refl) (ordered (kind.int t) column) (filter_map number_of column) (are_numbers column))
least_bounds kind.boolean column =
    as_least kind.boolean column (least_of kind.boolean column)
    (first-of bool_cmp bool_cmp_total boolean lesser (λ x y. cond-item boolean (is_gt (bool_cmp x y)) x y) (λ x y. is_gt (order x y)) (λ x y. refl) (ordered kind.boolean column) (filter_map truth_of column) (are_truths column))
least_bounds (kind.texts w) column =
    as_least (kind.texts w) column (least_of (kind.texts w) column)
    (first-of (slice_cmp nat_cmp) nat_list_cmp_total text lesser (λ x y. cond-item text (is_gt (slice_cmp nat_cmp x y)) x y) (λ x y. is_gt (order x y)) (λ x y. refl) (ordered (kind.texts w) column) (filter_map bytes_of_text column) (are_bytes column))
least_bounds (kind.lists w k) column = subst (λ o. IfSome o (IsLeastOf (kind.lists w k) column)) (sym (no_least_of_lists (kind.lists w k) column refl)) tt
least_bounds kind.dict column =
    as_least kind.dict column (least_of kind.dict column)
    (first-of (slice_cmp nat_cmp) nat_list_cmp_total text lesser (λ x y. cond-item text (is_gt (slice_cmp nat_cmp x y)) x y) (λ x y. is_gt (order x y)) (λ x y. refl) (ordered kind.dict column) (filter_map bytes_of_text column) (are_bytes column))

pub greatest_bounds : (k : Kind) (column : List Item) → IfSome (greatest_of k column) (IsGreatestOf k column)
unfolding pick
greatest_bounds (kind.int t) column =
    as_greatest (kind.int t) column (greatest_of (kind.int t) column)
    (first-of (flip_args int_cmp) (back_total int_cmp_total) int greater (λ x y. cond-item int (is_gt (int_cmp y x)) x y) (λ x y. is_gt (order y x)) (λ x y. refl) (ordered (kind.int t) column) (filter_map number_of column) (are_numbers column))
greatest_bounds kind.boolean column =
    as_greatest kind.boolean column (greatest_of kind.boolean column)
    (first-of (flip_args bool_cmp) (back_total bool_cmp_total) boolean greater (λ x y. cond-item boolean (is_gt (bool_cmp y x)) x y) (λ x y. is_gt (order y x)) (λ x y. refl) (ordered kind.boolean column) (filter_map truth_of column) (are_truths column))
greatest_bounds (kind.texts w) column =
    as_greatest (kind.texts w) column (greatest_of (kind.texts w) column)
    (first-of (flip_args (slice_cmp nat_cmp)) (back_total nat_list_cmp_total) text greater (λ x y. cond-item text (is_gt (slice_cmp nat_cmp y x)) x y) (λ x y. is_gt (order y x)) (λ x y. refl) (ordered (kind.texts w) column) (filter_map bytes_of_text column) (are_bytes column))
greatest_bounds (kind.lists w k) column = subst (λ o. IfSome o (IsGreatestOf (kind.lists w k) column)) (sym (no_greatest_of_lists (kind.lists w k) column refl)) tt
greatest_bounds kind.dict column =
    as_greatest kind.dict column (greatest_of kind.dict column)
    (first-of (flip_args (slice_cmp nat_cmp)) (back_total nat_list_cmp_total) text greater (λ x y. cond-item text (is_gt (slice_cmp nat_cmp y x)) x y) (λ x y. is_gt (order y x)) (λ x y. refl) (ordered kind.dict column) (filter_map bytes_of_text column) (are_bytes column))

none_of : (choose : Item → Item → Item) (xs : List Item) → (reduce choose xs ≡ None → xs ≡ []) × (xs ≡ [] → reduce choose xs ≡ None)
none_of choose [] = (λ e. refl, λ e. refl)
none_of choose (x ∷ xs) = (λ e. absurd cc, λ e. absurd cc)

pub least_none : (k : Kind) (column : List Item) → (least_of k column ≡ None → ordered k column ≡ []) × (ordered k column ≡ [] → least_of k column ≡ None)
least_none k column = none_of lesser (ordered k column)

pub greatest_none : (k : Kind) (column : List Item) → (greatest_of k column ≡ None → ordered k column ≡ []) × (ordered k column ≡ [] → greatest_of k column ≡ None)
greatest_none k column = none_of greater (ordered k column)
