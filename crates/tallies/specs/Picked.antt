-- Items of a column at some rows.
use Rattle.std.specs.Prelude.{ℕ, List, map, slice_index_or}
use Rattle.arrays.specs.Prelude.{Item, null}

abbrev pub items_at : List Item → List ℕ → List Item
items_at items rows = map (λ r. slice_index_or items r null) rows
