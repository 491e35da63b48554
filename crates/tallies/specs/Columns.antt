-- The tallies of one aggregate, a cell for each group.
use Rattle.std.specs.Prelude.{ℕ, List, [], ◌∷◌, Option, None, option_map, map, slice_index_or, ◌≡◌}
use Rattle.arrays.specs.Prelude.{Item, Table}
use Rattle.group.specs.Summary.{scalar_item}
use Rattle.group.specs.declared.stats.Scalar.{Scalar}
use Rattle.evaluate.specs.Prelude.{Agg}
use Rattle.evaluate.specs.Aggs as agg
use Rattle.tallies.specs.Ends.{agg_at, number_if_any}
use Rattle.tallies.specs.Tallies.{TallyShape, bettered, counted, items_for, tally_of, cell_of}
use Rattle.tallies.specs.Totals.{sum_if_any}
use Rattle.tallies.specs.declared.total.Total.{Total}
use Rattle.tallies.specs.declared.best_number.BestNumber.{BestNumber}
use Rattle.tallies.specs.declared.column.TallyColumn.{TallyColumn}
use Rattle.tallies.specs.declared.column.TallyColumn.TheVariants as column

-- ---- cells

abbrev pub show_total : Total → TallyShape
show_total t = record { count = t.count; sum = sum_if_any t.count t.sum; best = None }

abbrev pub show_number : BestNumber → TallyShape
show_number b = bettered (number_if_any b.number)

abbrev pub show_item : Option Scalar → TallyShape
show_item s = bettered (option_map scalar_item s)

-- ---- columns

-- The tallies of an aggregate, one for each group.
pub record ColumnShape : Type 0 where
  pub agg : Agg ℕ
  pub tallies : List TallyShape

abbrev pub show_column : TallyColumn → ColumnShape
show_column (column.Rows counts) = record { agg = agg.Rows; tallies = map counted counts.items }
show_column (column.Count c counts) = record { agg = agg.Count c; tallies = map counted counts.items }
show_column (column.Sum c totals) = record { agg = agg.Sum c; tallies = map show_total totals.items }
show_column (column.Numbers end c numbers) = record { agg = agg_at end c; tallies = map show_number numbers.items }
show_column (column.Items end c items) = record { agg = agg_at end c; tallies = map show_item items.items }

-- The column of an aggregate over the tables of groups.
abbrev pub column_of : List Table → Agg ℕ → ColumnShape
column_of tables a = record { agg = a; tallies = map (λ rows. tally_of a (items_for a rows)) tables }

-- What it tells of group n.
abbrev pub cell_of_group : ℕ → ColumnShape → Item
cell_of_group n column = cell_of column.agg (slice_index_or column.tallies n (counted 0))

-- The column that counts so many rows of one group.
abbrev pub rows_column : ℕ → ColumnShape
rows_column n = record { agg = agg.Rows; tallies = counted n ∷ [] }

-- The column is the one of its aggregate over these tables.
abbrev pub IsColumnOf : List Table → TallyColumn → Type 0
IsColumnOf tables c = show_column c ≡ column_of tables (show_column c).agg
