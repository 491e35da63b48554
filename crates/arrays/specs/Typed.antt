-- The items of each kind.
use Rattle.std.specs.Prelude.{IsUtf8, ⊤}
use Rattle.layout.specs.Item.{Item, Items, null, int, boolean, text, list, none, more}
use Rattle.types.specs.Kind as kind
use Rattle.types.specs.Prelude.{IsOfType, Kind}

-- The item is null or of the kind: a number in the type's range, a truth value, a text in UTF-8, or a list of such items.
abbrev mutual
  pub IsItemOf : Kind → Item → Type 0
  IsItemOf k null = ⊤
  IsItemOf (kind.int t) (int z) = IsOfType t z
  IsItemOf kind.boolean (boolean b) = ⊤
  IsItemOf (kind.texts w) (text bytes) = IsUtf8 bytes
  IsItemOf kind.dict (text bytes) = IsUtf8 bytes
  IsItemOf (kind.lists w k) (list xs) = AreItemsOf k xs
  IsItemOf k x = ⊥

  pub AreItemsOf : Kind → Items → Type 0
  AreItemsOf k none = ⊤
  AreItemsOf k (more x xs) = IsItemOf k x × AreItemsOf k xs
