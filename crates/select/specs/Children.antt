-- The rows of the children that lists hold.
use Rattle.std.specs.Prelude.{◌≡◌, ◌<◌, ◌≤◌, List, Some, length, false}
use Rattle.std.specs.List.{All}
use Rattle.arrays.specs.Prelude.{Item, Kind, Seen, depth, inner_items, item_kind, joined_items, list, null, same_kind}
use Rattle.arrays.specs.Kind.{dict}

-- A list, or null.
abbrev pub IsList : Item → Type 0
IsList null = Unit {0}
IsList (list xs) = Unit {0}
IsList x = ⊥

-- What lists may hold: no dictionary, nor more than 8 lists in one another.
pub record IsInner (k : Kind) : Type 0 where
  pub no_dict : same_kind k dict ≡ false
  pub shallow : depth k < 8

-- The column is one of lists, and the child has the rows alone that they hold, one list after the other.
pub record IsChild (s child : Seen) : Type 0 where
  pub kind : item_kind s.kind ≡ Some child.kind
  pub items : child.items ≡ inner_items s.items
  pub lists : All IsList s.items
  pub inner : IsInner child.kind

-- The same of several columns, one after the other.
pub record AreChildren (k : Kind) (columns children : List Seen) : Type 0 where
  pub count : length children ≡ length columns
  pub kinds : All (λ (c : Seen). c.kind ≡ k) children
  pub items : joined_items children ≡ inner_items (joined_items columns)
  pub lists : All IsList (joined_items columns)
  pub inner : 1 ≤ length columns → IsInner k
