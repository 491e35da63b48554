-- What is known of the groups of the rows so far.
use Rattle.std.specs.Prelude.{◌≡◌, ◌^◌, ◌≤◌, ◌+◌, ℕ, List, [], ◌∷◌, All, length, map, slice_index_or}
use Rattle.std.specs.List.{IsDistinct, range_with_len}
use Rattle.arrays.specs.Prelude.{Batch, Item, Table}
use Rattle.query.specs.declared.expr.Agg.{Agg}
use Rattle.query.specs.declared.expr.Agg.TheVariants.{Rows}
use Rattle.query.specs.declared.queries.Query.{Query}
use Rattle.answers.specs.Groups.{GroupShape, keys_of, rows_of_key}
use Rattle.keys.specs.Prelude.{KnowsEntries, Remembers, same_key}
use Rattle.tallies.specs.Columns.{ColumnShape, column_of, show_column, cell_of_group}
use Rattle.answers.specs.declared.grouping.Grouping.{Grouping}

-- The rows of each key.
abbrev pub key_tables : List ℕ → Table → List (List Item) → List Table
key_tables by rows keys = map (rows_of_key by rows) keys

-- The keys of the rows, each once, and of each aggregate a tally of the rows of each key.
pub record IsGrouped (by : List ℕ) (aggs : List (Agg ℕ)) (rows : Table) (keys : List (List Item)) (columns : List ColumnShape) : Type 0 where
  pub keys_are : keys ≡ keys_of by rows
  pub apart : IsDistinct same_key keys
  pub columns_are : columns ≡ map (column_of (key_tables by rows keys)) aggs

-- The groups of the rows, and what is remembered of their keys is true.
abbrev pub HasGroups : Query → Table → Grouping → Type 0
HasGroups q rows g = IsGrouped q.by.items q.aggs.items rows g.keys (map show_column g.columns.items) × Remembers g.keys g.memo

-- The batch's dictionary is the one of which something may be remembered.
abbrev pub IsReadyFor : Batch → Query → Grouping → Type 0
IsReadyFor b q g = KnowsEntries g.keys b q.by.items g.memo

-- There are so many rows more than have come, and together no more than a table may have.
abbrev pub HasGroupRoom : Query → ℕ → Grouping → Type 0
HasGroupRoom q n g = (rows : Table) × (length rows + n ≤ 2 ^ 40) × HasGroups q rows g

-- The query only asks how many rows are kept.
pub record CountsRows (q : Query) : Type 0 where
  pub by : q.by.items ≡ []
  pub aggs : q.aggs.items ≡ Rows ∷ []

-- Each column has a cell for each key.
abbrev pub IsFull : Grouping → Type 0
IsFull g = All (λ c. length (show_column c).tallies ≡ length g.keys) g.columns.items

-- What is answered of a group: its key, and what the columns tell.
abbrev pub group_at : Grouping → ℕ → GroupShape
group_at g n = record { keys = slice_index_or g.keys n []; cells = map (cell_of_group n) (map show_column g.columns.items) }

-- What is answered of so many groups, from one on.
abbrev pub groups_from : Grouping → ℕ → ℕ → List GroupShape
groups_from g from count = map (group_at g) (range_with_len from count)
