-- The groups that a query asks for, over a list of rows.
use Rattle.std.specs.Prelude.{ℕ, pos, ◌+ℤ◌, List, [], ◌∷◌, ◌++◌, Bool, true, false, not, Option, Some, None, is_none, unwrap_or, Result, Ok, Err, length, map, filter, position}
use Rattle.std.specs.List.{reduce}
use Rattle.arrays.specs.Prelude.{FieldShape, Item, Row, Table, boolean, column, int, is_null, item_of, list, null, text}
use Rattle.query.specs.Prelude.{QueryShape, Tree}
use Rattle.query.specs.declared.expr.Agg.{Agg}
use Rattle.query.specs.declared.expr.Agg.TheVariants.{Rows, Count, Sum, Least, Greatest}
use Rattle.evaluate.specs.Value.{value}
use Rattle.group.specs.Prelude.{greater, item_or_null, lesser, numbers_of}
use Rattle.keys.specs.Prelude.{firsts, key_of, same_key}

-- ---- which rows

-- Whether a row of which the filter is this is looked at: only where it is true. There is none where it is bad.
abbrev pub verdict_of : Option Item → Option Bool
verdict_of None = None
verdict_of (Some null) = Some false
verdict_of (Some (int z)) = Some false
verdict_of (Some (boolean b)) = Some b
verdict_of (Some (text t)) = Some false
verdict_of (Some (list l)) = Some false

-- Without a filter every row is.
abbrev pub verdict : List FieldShape → Option (Tree ℕ) → Row → Option Bool
verdict fields None row = Some true
verdict fields (Some t) row = verdict_of (value fields row t)

abbrev pub is_bad : List FieldShape → Option (Tree ℕ) → Row → Bool
is_bad fields filter row = is_none (verdict fields filter row)

abbrev pub is_kept : List FieldShape → Option (Tree ℕ) → Row → Bool
is_kept fields filter row = unwrap_or (verdict fields filter row) false

-- ---- the aggregates over the rows of a group

-- The items of the column that aren't null.
abbrev pub values : Table → ℕ → List Item
values rows c = filter (λ x. not (is_null x)) (column rows c)

-- How many rows there are, how many items; the sum, the least and the greatest of these, null where there is none.
abbrev pub cell : Table → Agg ℕ → Item
cell rows Rows = int (pos (length rows))
cell rows (Count c) = int (pos (length (values rows c)))
cell rows (Sum c) = item_of (reduce ◌+ℤ◌ (numbers_of (column rows c)))
cell rows (Least c) = item_or_null (reduce lesser (values rows c))
cell rows (Greatest c) = item_or_null (reduce greater (values rows c))

-- ---- groups

abbrev pub rows_of_key : List ℕ → Table → List Item → Table
rows_of_key by rows key = filter (λ row. same_key key (key_of by row)) rows

-- Without columns there is the one key of no items, also where there are no rows.
abbrev pub first_keys : List ℕ → List (List Item)
first_keys [] = [] ∷ []
first_keys (c ∷ by) = []

-- Each key once, in order of first appearance.
abbrev pub keys_of : List ℕ → Table → List (List Item)
keys_of by rows = firsts same_key (first_keys by ++ map (key_of by) rows)

-- The items of a key, and its aggregates.
pub record GroupShape : Type 0 where
  pub keys : List Item
  pub cells : List Item

abbrev pub group_of : List ℕ → List (Agg ℕ) → Table → List Item → GroupShape
group_of by aggs rows key = record { keys = key; cells = map (cell (rows_of_key by rows key)) aggs }

abbrev pub grouped : List ℕ → List (Agg ℕ) → Table → List GroupShape
grouped by aggs rows = map (group_of by aggs rows) (keys_of by rows)

abbrev pub unless_bad : Option ℕ → List GroupShape → Result (List GroupShape) ℕ
unless_bad None groups = Ok groups
unless_bad (Some row) groups = Err row

-- The groups of the rows whose filter is true, or the least row where the filter is bad.
abbrev pub groups : List FieldShape → QueryShape ℕ → Table → Result (List GroupShape) ℕ
groups fields q rows = unless_bad (position (is_bad fields q.filter) rows) (grouped q.by q.aggs (filter (is_kept fields q.filter) rows))
