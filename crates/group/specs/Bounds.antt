-- The least and the greatest value of a column, whatever the order of its kind.
use Rattle.std.specs.Prelude.{◌≡◌, List, false, All, Contains}
use Rattle.std.specs.Ordering.{is_gt}
use Rattle.arrays.specs.Prelude.{Item, Kind, order}
use Rattle.group.specs.Stats.{ordered}

-- The item is one of the column's values and behind none of them.
pub record IsLeastOf (k : Kind) (column : List Item) (least : Item) : Type 0 where
  pub within : Contains (ordered k column) least
  pub behind_none : All (λ x. is_gt (order least x) ≡ false) (ordered k column)

-- The item is one of the column's values and before none of them.
pub record IsGreatestOf (k : Kind) (column : List Item) (greatest : Item) : Type 0 where
  pub within : Contains (ordered k column) greatest
  pub before_none : All (λ x. is_gt (order x greatest) ≡ false) (ordered k column)
