-- Where a column has no item.
use Rattle.std.specs.Prelude.{List, map}
use Rattle.arrays.specs.Item as item
use Rattle.arrays.specs.Prelude.{Item, is_null}

-- True where the item is null, else false.
abbrev pub nulls : List Item → List Item
nulls = map (λ x. item.boolean (is_null x))
