-- Functions of items, place by place.
use Rattle.std.specs.Prelude.{◌||◌, List, map, length, if◌then◌else◌}
use Rattle.std.specs.List.{range_with_len}
use Rattle.arrays.specs.Prelude.{Item, is_null, item_at, null}

-- f of two items, null where either is null.
abbrev pub lifted : (Item → Item → Item) → Item → Item → Item
lifted f x y = if is_null x || is_null y then null else f x y

-- f of the two items at each place.
abbrev pub at_each_place : (Item → Item → Item) → List Item → List Item → List Item
at_each_place f xs ys = map (λ i. f (item_at xs i) (item_at ys i)) (range_with_len 0 (length xs))

-- At each place null where either item is null, else f of the two.
abbrev pub lift : (Item → Item → Item) → List Item → List Item → List Item
lift f = at_each_place (lifted f)
