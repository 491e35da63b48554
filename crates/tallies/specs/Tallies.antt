-- What is known of the items of a group, while they come.
use Rattle.std.specs.Prelude.{◌≡◌, ◌≤◌, ◌^◌, ◌+◌, ℕ, ℤ, pos, ◌+ℤ◌, List, not, Option, None, length, map, filter, slice_index_or}
use Rattle.std.specs.List.{All, reduce}
use Rattle.arrays.specs.Prelude.{Item, Row, Table, int, is_null, item_of, null}
use Rattle.evaluate.specs.Prelude.{Agg, Count, Greatest, Least, Rows, Sum}
use Rattle.group.specs.Prelude.{greater, item_or_null, lesser, numbers_of}

-- How many rows, items or numbers there were, the sum, and the least or the greatest.
pub record TallyShape : Type 0 where
  pub count : ℕ
  pub sum : Option ℤ
  pub best : Option Item

abbrev pub counted : ℕ → TallyShape
counted n = record { count = n; sum = None; best = None }

abbrev pub summed : List ℤ → TallyShape
summed zs = record { count = length zs; sum = reduce ◌+ℤ◌ zs; best = None }

abbrev pub bettered : Option Item → TallyShape
bettered x = record { count = 0; sum = None; best = x }

-- The items that aren't null.
abbrev pub valid_items : List Item → List Item
valid_items xs = filter (λ x. not (is_null x)) xs

-- What an aggregate knows of the items that it looked at.
abbrev pub tally_of : Agg ℕ → List Item → TallyShape
tally_of Rows xs = counted (length xs)
tally_of (Count c) xs = counted (length (valid_items xs))
tally_of (Sum c) xs = summed (numbers_of xs)
tally_of (Least c) xs = bettered (reduce lesser (valid_items xs))
tally_of (Greatest c) xs = bettered (reduce greater (valid_items xs))

-- What it looks at in a row: the column's item; where rows are counted, nothing.
abbrev pub item_for : Agg ℕ → Row → Item
item_for Rows row = null
item_for (Count c) row = slice_index_or row c null
item_for (Sum c) row = slice_index_or row c null
item_for (Least c) row = slice_index_or row c null
item_for (Greatest c) row = slice_index_or row c null

abbrev pub items_for : Agg ℕ → Table → List Item
items_for a rows = map (λ row. item_for a row) rows

-- What it tells at the end.
abbrev pub cell_of : Agg ℕ → TallyShape → Item
cell_of Rows t = int (pos t.count)
cell_of (Count c) t = int (pos t.count)
cell_of (Sum c) t = item_of t.sum
cell_of (Least c) t = item_or_null t.best
cell_of (Greatest c) t = item_or_null t.best

-- ---- the tallies of many groups

-- Cells are the tallies of groups of items.
abbrev pub AreTallies : {C : Type 0} → (C → TallyShape) → Agg ℕ → List C → List (List Item) → Type 0
AreTallies show a cells groups = map show cells ≡ map (tally_of a) groups

-- They are, and with n items more no group has more than a table may have.
abbrev pub HasRoomFor : {C : Type 0} → (C → TallyShape) → Agg ℕ → List C → ℕ → Type 0
HasRoomFor show a cells n = (groups : List (List Item)) × AreTallies show a cells groups × All (λ xs. length xs + n ≤ 2 ^ 40) groups
