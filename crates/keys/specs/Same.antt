-- When two keys are one, and lists in which each comes once.
use Rattle.std.specs.Prelude.{Bool, true, false, not, ◌&&◌, List, [], ◌∷◌, filter}
use Rattle.std.specs.Bool.{beq}
use Rattle.std.specs.Ordering.{int_eq}
use Rattle.std.specs.Str.{bytes_eq}
use Rattle.arrays.specs.Prelude.{Item, Items, boolean, int, list, more, none, null, text}

-- Whether two items are the same: null is the same as null.
abbrev mutual
  pub same_item : Item → Item → Bool
  same_item null null = true
  same_item (int x) (int y) = int_eq x y
  same_item (boolean x) (boolean y) = beq x y
  same_item (text s) (text t) = bytes_eq s t
  same_item (list xs) (list ys) = same_items xs ys
  same_item x y = false

  pub same_items : Items → Items → Bool
  same_items none none = true
  same_items (more x xs) (more y ys) = same_item x y && same_items xs ys
  same_items xs ys = false

-- Whether two keys are the same, item by item.
abbrev pub same_key : List Item → List Item → Bool
same_key [] [] = true
same_key (x ∷ xs) (y ∷ ys) = same_item x y && same_key xs ys
same_key xs ys = false

-- Each once, in order of first appearance.
abbrev pub firsts : {A : Type 0} → (A → A → Bool) → List A → List A
firsts same [] = []
firsts same (x ∷ xs) = x ∷ filter (λ y. not (same x y)) (firsts same xs)
