-- Statistics of a column. (Arrow columnar format, "Null count")
use Rattle.std.specs.Prelude.{◌≡◌, List, length, option_map, string_bytes}
use Rattle.arrays.specs.Prelude.{Item, Kind, boolean, int, text}
use Rattle.group.specs.Stats.{nulls_of, sum_of, least_of, greatest_of}
use Rattle.group.specs.declared.stats.Scalar.{Scalar}
use Rattle.group.specs.declared.stats.Scalar.TheVariants.{Int, Bool, Text}
use Rattle.group.specs.declared.stats.ColumnStats.{ColumnStats}

-- A value as an item.
abbrev pub scalar_item : Scalar → Item
scalar_item (Int z) = int z
scalar_item (Bool b) = boolean b
scalar_item (Text s) = text (string_bytes s)

-- These are the statistics of a column of the kind with these items.
pub record AreStats (s : ColumnStats) (k : Kind) (items : List Item) : Type 0 where
  pub rows : s.rows ≡ length items
  pub nulls : s.nulls ≡ nulls_of items
  pub sum : s.sum ≡ sum_of k items
  pub least : option_map scalar_item s.least ≡ least_of k items
  pub greatest : option_map scalar_item s.greatest ≡ greatest_of k items

-- The two say the same of a column: a text has the same bytes in both.
pub record AreSame (s t : ColumnStats) : Type 0 where
  pub rows : s.rows ≡ t.rows
  pub nulls : s.nulls ≡ t.nulls
  pub sum : s.sum ≡ t.sum
  pub least : option_map scalar_item s.least ≡ option_map scalar_item t.least
  pub greatest : option_map scalar_item s.greatest ≡ option_map scalar_item t.greatest
