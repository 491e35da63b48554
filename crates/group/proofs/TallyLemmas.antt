-- A tally of the items so far grows with each item.
use Rattle.std.proofs.Common.{◌≡◌, ◌∙◌, ℕ, ◌+◌, ◌<◌, ◌≤◌, List, [], ◌∷◌, ◌++◌, length, take, Option, Some, None, cond, true, false, ap, sym, refl, get_or, zero-add, add-zero, arith, length-take-le}
use Rattle.std.specs.List.{reduce}
use Rattle.std.proofs.lemmas.List.{append-nil, take_more}
use Rattle.std.proofs.lemmas.List.Sums.{fold_push, sum_by_push, count_by-le-length}
use Rattle.std.proofs.lemmas.List.Elements.{filter-append}
use Rattle.std.proofs.lemmas.List.FromFn.{get_or-map-range_with_len}
use Rattle.arrays.specs.Prelude.{Item, Kind, Seen, boolean, int, is_list, is_null, is_text, list, null, text, valid_at, valid_values}
use Rattle.arrays.specs.Kind as kind
use Rattle.std.specs.List.{slice_get}
use Rattle.std.proofs.lemmas.Option.{slice_get_within, get_or_from_slice_get}
use Rattle.group.specs.Prelude.{IsTally, chosen, greater, greatest_of, is_ordered, least_of, lesser, nulls_of, ordered, sum_of}

reduce_push : (choose : Item → Item → Item) (xs : List Item) (x : Item) → reduce choose (xs ++ x ∷ []) ≡ Some (chosen choose (reduce choose xs) x)
reduce_push choose [] x = refl
reduce_push choose (y ∷ xs) x = ap Some (fold_push choose y xs x)

ordered-skip : (k : Kind) (items : List Item) (x : Item) → is_ordered k x ≡ false → ordered k (items ++ x ∷ []) ≡ ordered k items
ordered-skip k items x e =
    filter-append (is_ordered k) items (x ∷ [])
    ∙ ap (λ b. ordered k items ++ cond b (x ∷ []) []) e
    ∙ append-nil (ordered k items)

ordered-push : (k : Kind) (items : List Item) (x : Item) → is_ordered k x ≡ true → ordered k (items ++ x ∷ []) ≡ ordered k items ++ x ∷ []
ordered-push k items x e = filter-append (is_ordered k) items (x ∷ []) ∙ ap (λ b. ordered k items ++ cond b (x ∷ []) []) e

pub null_is_not : (k : Kind) → is_ordered k null ≡ false
null_is_not (kind.int t) = refl
null_is_not kind.boolean = refl
null_is_not (kind.texts w) = refl
null_is_not (kind.lists w k) = refl
null_is_not kind.dict = refl

is_there : (k : Kind) (x : Item) → is_ordered k x ≡ true → is_null x ≡ false
is_there k null e =
    let no = null_is_not k in
    absurd cc
is_there k (int z) e = refl
is_there k (boolean b) e = refl
is_there k (text t) e = refl
is_there k (list l) e = refl

pub IsTally-null : (k : Kind) (n : ℕ) (l g : Option Item) (items : List Item) → IsTally k n l g items → IsTally k (n + 1) l g (items ++ null ∷ [])
IsTally-null k n l g items is =
    let same = ordered-skip k items null (null_is_not k) in
    record {
      counted = ap (λ m. m + 1) is.counted ∙ sym (sum_by_push (λ x. cond (is_null x) 1 0) items null);
      first = is.first ∙ ap (reduce lesser) (sym same);
      last = is.last ∙ ap (reduce greater) (sym same);
    }

pub IsTally-value : (k : Kind) (n : ℕ) (l g : Option Item) (items : List Item) (x : Item) → is_ordered k x ≡ true → IsTally k n l g items
    → IsTally k n (Some (chosen lesser l x)) (Some (chosen greater g x)) (items ++ x ∷ [])
IsTally-value k n l g items x e is =
    let grown = ordered-push k items x e in
    record {
      counted = is.counted ∙ sym (sum_by_push (λ x. cond (is_null x) 1 0) items x ∙ ap (λ b. nulls_of items + cond b 1 0) (is_there k x e) ∙ add-zero (nulls_of items));
      first = ap (λ m. Some (chosen lesser m x)) is.first ∙ sym (ap (reduce lesser) grown ∙ reduce_push lesser (ordered k items) x);
      last = ap (λ m. Some (chosen greater m x)) is.last ∙ sym (ap (reduce greater) grown ∙ reduce_push greater (ordered k items) x);
    }

-- an item of a column whose valid slots have values
valid_value : (value : ℕ → Item) (s : Seen) (i : ℕ) → s.items ≡ valid_values value s → i < length s.items →
    get_or s.items i null ≡ cond (valid_at s i) (value i) null
valid_value value s i are within =
    ap (λ l. get_or l i null) are
    ∙ get_or-map-range_with_len (λ j. cond (valid_at s j) (value j) null) 0 (length s.items) i i null within (zero-add i)

-- the items up to slot i and the one there, which is a value or null
pub take-value : (value : ℕ → Item) (s : Seen) (i : ℕ) → s.items ≡ valid_values value s → i < length s.items → valid_at s i ≡ true →
    take (i + 1) s.items ≡ take i s.items ++ value i ∷ []
take-value value s i are within valid =
    take_more s.items i null within
    ∙ ap (λ x. take i s.items ++ x ∷ []) (valid_value value s i are within ∙ ap (λ b. cond b (value i) null) valid)

pub take-null : (value : ℕ → Item) (s : Seen) (i : ℕ) → s.items ≡ valid_values value s → i < length s.items → valid_at s i ≡ false →
    take (i + 1) s.items ≡ take i s.items ++ null ∷ []
take-null value s i are within valid =
    take_more s.items i null within
    ∙ ap (λ x. take i s.items ++ x ∷ []) (valid_value value s i are within ∙ ap (λ b. cond b (value i) null) valid)

-- a step of a walk, with the names of what the code has
pub walk-value : (k : Kind) (n m : ℕ) (l g first last : Option Item) (items after : List Item) (x : Item) → IsTally k n l g items → is_ordered k x ≡ true
    → after ≡ items ++ x ∷ [] → m ≡ n → first ≡ Some (chosen lesser l x) → last ≡ Some (chosen greater g x) → IsTally k m first last after
walk-value k n m l g first last items after x is e grown same_n first_is last_is =
    let next = IsTally-value k n l g items x e is in
    record {
      counted = same_n ∙ next.counted ∙ ap nulls_of (sym grown);
      first = first_is ∙ next.first ∙ ap (least_of k) (sym grown);
      last = last_is ∙ next.last ∙ ap (greatest_of k) (sym grown);
    }

pub walk-null : (k : Kind) (n m : ℕ) (l g first last : Option Item) (items after : List Item) → IsTally k n l g items
    → after ≡ items ++ null ∷ [] → m ≡ n + 1 → first ≡ l → last ≡ g → IsTally k m first last after
walk-null k n m l g first last items after is grown same_n first_is last_is =
    let next = IsTally-null k n l g items is in
    record {
      counted = same_n ∙ next.counted ∙ ap nulls_of (sym grown);
      first = first_is ∙ next.first ∙ ap (least_of k) (sym grown);
      last = last_is ∙ next.last ∙ ap (greatest_of k) (sym grown);
    }

-- no more nulls than slots
pub few_nulls : (k : Kind) (n : ℕ) (l g : Option Item) (i : ℕ) (items : List Item) → i < length items → IsTally k n l g (take i items) → n ≤ i
few_nulls k n l g i items within is =
    let most = count_by-le-length is_null (take i items) in
    let short : length (take i items) ≡ i = length-take-le i items (omega arith) in
    omega (arith, is.counted, most, short)

-- the items up to slot i and the one there
pub take-item : (items : List Item) (i : ℕ) (x : Item) → slice_get items i ≡ Some x → take (i + 1) items ≡ take i items ++ x ∷ []
take-item items i x is =
    take_more items i null (slice_get_within items i x is)
    ∙ ap (λ y. take i items ++ y ∷ []) (get_or_from_slice_get items i x null is)

-- texts are values of a column of texts, and have no sum
pub text_is : (k : Kind) (t : List ℕ) → is_text k ≡ true → is_ordered k (text t) ≡ true
text_is (kind.int u) t e = absurd cc
text_is kind.boolean t e = absurd cc
text_is (kind.texts w) t e = refl
text_is (kind.lists w k) t e = absurd cc
text_is kind.dict t e = refl

-- lists have no order and no sum
none_ordered : (k : Kind) (items : List Item) → is_list k ≡ true → ordered k items ≡ []
none_ordered (kind.int t) items e = absurd cc
none_ordered kind.boolean items e = absurd cc
none_ordered (kind.texts w) items e = absurd cc
none_ordered (kind.lists w k) [] e = refl
none_ordered (kind.lists w k) (x ∷ items) e = none_ordered (kind.lists w k) items e
none_ordered kind.dict items e = absurd cc

pub no_least_of_lists : (k : Kind) (items : List Item) → is_list k ≡ true → least_of k items ≡ None
no_least_of_lists k items e = ap (reduce lesser) (none_ordered k items e)

pub no_greatest_of_lists : (k : Kind) (items : List Item) → is_list k ≡ true → greatest_of k items ≡ None
no_greatest_of_lists k items e = ap (reduce greater) (none_ordered k items e)

pub no_sum_of_lists : (k : Kind) (items : List Item) → is_list k ≡ true → sum_of k items ≡ None
no_sum_of_lists (kind.int u) items e = absurd cc
no_sum_of_lists kind.boolean items e = refl
no_sum_of_lists (kind.texts w) items e = refl
no_sum_of_lists (kind.lists w k) items e = refl
no_sum_of_lists kind.dict items e = refl
