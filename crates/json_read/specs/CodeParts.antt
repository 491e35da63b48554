-- Codes in the making.
use Rattle.std.specs.Prelude.{◌≡◌, ℕ, List, length, map, true, Option}
use Rattle.std.specs.List.{All}
use Rattle.arrays.specs.Prelude.{Column, IntType, Item, int32, is_code, looked_up}
use Rattle.json_base.specs.Prelude.{Items}
use Rattle.json_read.specs.JsonColumn.{ReadsSlots}
use Rattle.json_read.specs.JsonCodes.{indices}

-- The first n slots: each code names the entry that its index does.
pub record HoldsCodes (t : IntType) (entries : List Item) (flags : Option Items) (values : Items) (n : ℕ) (c : Column) : Type 0 where
  pub ty : c.ty ≡ int32
  pub codes : All (λ x. is_code (length entries) x ≡ true) c.items
  pub slots : ReadsSlots (indices t entries) flags values n (map (looked_up entries) c.items)
