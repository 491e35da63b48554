-- Lists made place by place.
use Rattle.std.proofs.Common.{◌≡◌, ◌∙◌, ℕ, zero, suc, ◌+◌, ◌<◌, [], List, ◌∷◌, ◌++◌, map, ap, sym, refl, arith, add-zero, zero-add}
use Rattle.std.specs.List.{range_with_len}
use Rattle.std.proofs.lemmas.List.{append-nil, append_assoc}
use Rattle.std.proofs.lemmas.List.FromFn.{map-range_with_len_more}
use Rattle.layout.specs.Item.{Item, Items, items_of, list_of}
use Rattle.layout.proofs.RangeLists.{map-range-below}

-- places behind one another make two lists joined
pub map-range-joined : {X : Type 0} (f g h : ℕ → X) (n m : ℕ) → ((i : ℕ) → i < n → f i ≡ g i) → ((j : ℕ) → j < m → f (n + j) ≡ h j)
    → map f (range_with_len 0 (n + m)) ≡ map g (range_with_len 0 n) ++ map h (range_with_len 0 m)
map-range-joined f g h n zero front past =
    ap (λ k. map f (range_with_len 0 k)) (add-zero n)
    ∙ map-range-below f g 0 n (λ i below. ap f (zero-add i) ∙ front i below ∙ ap g (sym (zero-add i)))
    ∙ sym (append-nil (map g (range_with_len 0 n)))
map-range-joined f g h n (suc m) front past =
    let more : n + suc m ≡ n + m + 1 = omega arith in
    let one : suc m ≡ m + 1 = omega arith in
    ap (λ k. map f (range_with_len 0 k)) more
    ∙ map-range_with_len_more f 0 (n + m) (n + m) (zero-add (n + m))
    ∙ ap (λ xs. xs ++ f (n + m) ∷ []) (map-range-joined f g h n m front (λ j below. past j (omega arith)))
    ∙ ap (λ x. map g (range_with_len 0 n) ++ map h (range_with_len 0 m) ++ x ∷ []) (past m (omega arith))
    ∙ append_assoc (map g (range_with_len 0 n)) (map h (range_with_len 0 m)) (h m ∷ [])
    ∙ ap (λ xs. map g (range_with_len 0 n) ++ xs) (sym (map-range_with_len_more h 0 m m (zero-add m)) ∙ ap (λ k. map h (range_with_len 0 k)) (sym one))

-- the items of a list are those that it is made of
pub items_of-list_of : (xs : List Item) → items_of (list_of xs) ≡ xs
items_of-list_of [] = refl
items_of-list_of (x ∷ xs) = ap (λ l. x ∷ l) (items_of-list_of xs)

pub list_of-items_of : (xs : Items) → list_of (items_of xs) ≡ xs
list_of-items_of Items.none = refl
list_of-items_of (Items.more x xs) = ap (Items.more x) (list_of-items_of xs)
