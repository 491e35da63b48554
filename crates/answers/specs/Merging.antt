-- What shards answer of a query, and the query over their answers that gives what is answered over all rows.
use Rattle.std.specs.Prelude.{◌≡◌, ◌+◌, ◌||◌, ℕ, true, List, [], ◌∷◌, ◌++◌, None, Ok, All, length, map, flat_map, slice_index_or, ⊤}
use Rattle.std.specs.List.{AllZip, range_with_len}
use Rattle.arrays.specs.Prelude.{FieldShape, Item, Kind, Row, Table, is_null, null}
use Rattle.query.specs.QueryShape.{QueryShape}
use Rattle.query.specs.declared.expr.Agg.{Agg}
use Rattle.query.specs.declared.expr.Agg.TheVariants.{Rows, Count, Sum, Least, Greatest}
use Rattle.answers.specs.Groups.{GroupShape, groups}
use Rattle.group.specs.Prelude.{Joins, is_ordered}
use Rattle.group.specs.declared.stats.ColumnStats.{ColumnStats}

-- ---- the query over answers

-- The aggregate that, over cells of this one in column c, gives its cell over all rows: numbers of rows and of items are summed.
abbrev pub again : ℕ → Agg ℕ → Agg ℕ
again c Rows = Sum c
again c (Count d) = Sum c
again c (Sum d) = Sum c
again c (Least d) = Least c
again c (Greatest d) = Greatest c

-- The same of aggregates whose cells are side by side, from column c on.
abbrev pub all_again : ℕ → List (Agg ℕ) → List (Agg ℕ)
all_again c [] = []
all_again c (a ∷ aggs) = again c a ∷ all_again (c + 1) aggs

-- The query by the first columns, in which are the keys of a query's groups, over the cells behind them. It has no filter.
abbrev pub merging : QueryShape ℕ → QueryShape ℕ
merging q = record { filter = None; by = range_with_len 0 (length q.by); aggs = all_again (length q.by) q.aggs }

-- ---- answers as rows

-- A group as a row: its keys, then its cells.
abbrev pub row_of_group : GroupShape → Row
row_of_group g = g.keys ++ g.cells

-- The groups of all answers as rows, one answer after the other.
abbrev pub rows_of_answers : List (List GroupShape) → Table
rows_of_answers answers = flat_map (map row_of_group) answers

-- The rows of all shards, one shard after the other.
abbrev pub rows_of_shards : List Table → Table
rows_of_shards shards = flat_map (λ rows. rows) shards

-- Each answer is that of the query over its shard's rows.
abbrev pub AreAnswers : List FieldShape → QueryShape ℕ → List Table → List (List GroupShape) → Type 0
AreAnswers fields q shards answers = AllZip (λ rows gs. groups fields q rows ≡ Ok gs) shards answers

-- ---- values of which the least and the greatest are those of parts

-- The item is null, or one of the kind's values that come before or behind one another.
abbrev pub HasOrder : Kind → Item → Type 0
HasOrder k x = (is_null x || is_ordered k x) ≡ true

-- So is the item of the row whose least or greatest the aggregate seeks.
abbrev pub IsMergeable : (ℕ → Kind) → Row → Agg ℕ → Type 0
IsMergeable kinds row Rows = ⊤
IsMergeable kinds row (Count c) = ⊤
IsMergeable kinds row (Sum c) = ⊤
IsMergeable kinds row (Least c) = HasOrder (kinds c) (slice_index_or row c null)
IsMergeable kinds row (Greatest c) = HasOrder (kinds c) (slice_index_or row c null)

-- So is that of each aggregate.
abbrev pub AreMergeable : (ℕ → Kind) → List (Agg ℕ) → Row → Type 0
AreMergeable kinds aggs row = All (IsMergeable kinds row) aggs

-- ---- statistics

-- The last are the first with these behind, joined one after the other.
abbrev pub AreJoinedInTurn : ColumnStats → List ColumnStats → ColumnStats → Type 0
AreJoinedInTurn first [] all = first ≡ all
AreJoinedInTurn first (s ∷ stats) all = (both : ColumnStats) × Joins first s both × AreJoinedInTurn both stats all
