-- What is known of the items of a column so far, while it is walked.
use Rattle.std.specs.Prelude.{◌≡◌, ℕ, List, Option, Some, None}
use Rattle.arrays.specs.Prelude.{Item, Kind}
use Rattle.group.specs.Stats.{nulls_of, least_of, greatest_of}

-- The number of nulls, the least and the greatest value.
pub record IsTally (k : Kind) (nulls : ℕ) (least greatest : Option Item) (items : List Item) : Type 0 where
  pub counted : nulls ≡ nulls_of items
  pub first : least ≡ least_of k items
  pub last : greatest ≡ greatest_of k items

-- One of two items, the first of which may be missing.
abbrev pub chosen : (Item → Item → Item) → Option Item → Item → Item
chosen choose None x = x
chosen choose (Some best) x = choose best x
