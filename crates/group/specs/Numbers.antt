-- The least and the greatest of a column of integers, as numbers.
use Rattle.std.specs.Prelude.{ℤ, ◌≤ℤ◌, List, Option, Contains}
use Rattle.std.specs.List.{reduce}
use Rattle.std.specs.Int.{int_min, int_max}
use Rattle.arrays.specs.Prelude.{Item, int}
use Rattle.group.specs.Stats.{numbers_of}

-- The least and the greatest of the numbers that are there, none where none is.
abbrev pub least_number : List Item → Option ℤ
least_number column = reduce int_min (numbers_of column)

abbrev pub greatest_number : List Item → Option ℤ
greatest_number column = reduce int_max (numbers_of column)

-- The number is one of the column's and at most each of them.
pub record IsLeast (column : List Item) (least : ℤ) : Type 0 where
  pub within : Contains column (int least)
  pub at_most : (z : ℤ) → Contains column (int z) → least ≤ℤ z

-- The number is one of the column's and at least each of them.
pub record IsGreatest (column : List Item) (greatest : ℤ) : Type 0 where
  pub within : Contains column (int greatest)
  pub at_least : (z : ℤ) → Contains column (int z) → z ≤ℤ greatest
