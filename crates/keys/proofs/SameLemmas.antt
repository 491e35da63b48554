-- Items and keys are the same exactly where they are equal.
use Rattle.std.proofs.Common.{◌≡◌, ◌∙◌, Bool, true, false, ◌&&◌, List, [], ◌∷◌, refl, sym, ap, true≢false}
use Rattle.std.specs.Bool.{Decides}
use Rattle.std.specs.Cmp.{IsEquivalence, booleans_Decides, decided}
use Rattle.std.proofs.lemmas.Bool.Decides.{Decides-int_eq}
use Rattle.std.proofs.lemmas.Slice.Eq.{bytes_eq-Decides}
use Rattle.arrays.specs.Prelude.{Item, Items, boolean, int, list, more, none, null, text}
use Rattle.keys.specs.Same.{same_item, same_items, same_key}

-- A test goes one way or the other.
pub either : {C : Type 0} (b : Bool) → (b ≡ true → C) → (b ≡ false → C) → C
either true t f = t refl
either false t f = f refl

pub both_true : (a b : Bool) → (a && b) ≡ true → (a ≡ true) × (b ≡ true)
both_true true b h = (refl, h)
both_true false b h = absurd (true≢false (sym h))

mutual
  items_equal : (x y : Item) → same_item x y ≡ true → x ≡ y
  items_equal null null h = refl
  items_equal null (int y) h = absurd cc
  items_equal null (boolean y) h = absurd cc
  items_equal null (text t) h = absurd cc
  items_equal null (list ys) h = absurd cc
  items_equal (int x) null h = absurd cc
  items_equal (int x) (int y) h = ap int ((Decides-int_eq x y).0 h)
  items_equal (int x) (boolean y) h = absurd cc
  items_equal (int x) (text t) h = absurd cc
  items_equal (int x) (list ys) h = absurd cc
  items_equal (boolean x) null h = absurd cc
  items_equal (boolean x) (int y) h = absurd cc
  items_equal (boolean x) (boolean y) h = ap boolean ((booleans_Decides x y).0 h)
  items_equal (boolean x) (text t) h = absurd cc
  items_equal (boolean x) (list ys) h = absurd cc
  items_equal (text s) null h = absurd cc
  items_equal (text s) (int y) h = absurd cc
  items_equal (text s) (boolean y) h = absurd cc
  items_equal (text s) (text t) h = ap text ((bytes_eq-Decides s t).0 h)
  items_equal (text s) (list ys) h = absurd cc
  items_equal (list xs) null h = absurd cc
  items_equal (list xs) (int y) h = absurd cc
  items_equal (list xs) (boolean y) h = absurd cc
  items_equal (list xs) (text t) h = absurd cc
  items_equal (list xs) (list ys) h = ap list (lists_equal xs ys h)

  lists_equal : (xs ys : Items) → same_items xs ys ≡ true → xs ≡ ys
  lists_equal none none h = refl
  lists_equal none (more y ys) h = absurd cc
  lists_equal (more x xs) none h = absurd cc
  lists_equal (more x xs) (more y ys) h =
      let p = both_true (same_item x y) (same_items xs ys) h in
      let e = items_equal x y p.0 in
      let f = lists_equal xs ys p.1 in
      cc

mutual
  item_itself : (x : Item) → same_item x x ≡ true
  item_itself null = refl
  item_itself (int x) = (Decides-int_eq x x).1 refl
  item_itself (boolean x) = (booleans_Decides x x).1 refl
  item_itself (text t) = (bytes_eq-Decides t t).1 refl
  item_itself (list xs) = list_itself xs

  list_itself : (xs : Items) → same_items xs xs ≡ true
  list_itself none = refl
  list_itself (more x xs) = ap (λ b. b && same_items xs xs) (item_itself x) ∙ list_itself xs

keys_equal : (xs ys : List Item) → same_key xs ys ≡ true → xs ≡ ys
keys_equal [] [] h = refl
keys_equal [] (y ∷ ys) h = absurd cc
keys_equal (x ∷ xs) [] h = absurd cc
keys_equal (x ∷ xs) (y ∷ ys) h =
    let p = both_true (same_item x y) (same_key xs ys) h in
    let e = items_equal x y p.0 in
    let f = keys_equal xs ys p.1 in
    cc

key_itself : (xs : List Item) → same_key xs xs ≡ true
key_itself [] = refl
key_itself (x ∷ xs) = ap (λ b. b && same_key xs xs) (item_itself x) ∙ key_itself xs

pub same_key-Decides : (xs ys : List Item) → Decides (same_key xs ys) (xs ≡ ys)
same_key-Decides xs ys = (keys_equal xs ys, λ e. ap (same_key xs) (sym e) ∙ key_itself xs)

pub same_key_equiv : IsEquivalence same_key
same_key_equiv = decided same_key same_key-Decides
