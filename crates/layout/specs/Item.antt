-- What an array holds: a column is a list of items.
use Rattle.std.specs.Prelude.{ℕ, ℤ, Bool, true, false, List, [], ◌∷◌}

mutual
  -- A value or null. A text is a list of bytes.
  pub data Item : Type 0 where
    null : Item
    int : ℤ → Item
    boolean : Bool → Item
    text : List ℕ → Item
    list : Items → Item

  pub data Items : Type 0 where
    none : Items
    more : Item → Items → Items

-- The items of a list, and a list of items.
abbrev pub items_of : Items → List Item
items_of none = []
items_of (more x xs) = x ∷ items_of xs

abbrev pub list_of : List Item → Items
list_of [] = none
list_of (x ∷ xs) = more x (list_of xs)

-- Whether the item is null.
abbrev pub is_null : Item → Bool
is_null null = true
is_null (int z) = false
is_null (boolean b) = false
is_null (text t) = false
is_null (list l) = false
