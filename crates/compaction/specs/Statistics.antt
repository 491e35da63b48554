-- Statistics of tables.
use Rattle.std.specs.Prelude.{◌≤◌, List, length}
use Rattle.std.specs.List.{AllZip, enumerate_from}
use Rattle.arrays.specs.Prelude.{FieldShape, Table, column, kind_of_field, most_slots}
use Rattle.group.specs.Summary.{AreStats}
use Rattle.group.specs.declared.stats.ColumnStats.{ColumnStats}
use Rattle.compaction.specs.Neighbours.{together}

-- These are the statistics of the table's columns.
abbrev pub AreStatsOf : List FieldShape → Table → List ColumnStats → Type 0
AreStatsOf fields t stats = AllZip (λ e s. AreStats s (kind_of_field e.1) (column t e.0)) (enumerate_from 0 fields) stats

-- Each of these is the statistics of a table, and all tables together have no more rows than a batch may have.
pub record AreOfFew (pieces : List (List ColumnStats)) : Type 0 where
  pub fields : List FieldShape
  pub tables : List Table
  pub stats : AllZip (AreStatsOf fields) tables pieces
  pub few : length (together tables) ≤ most_slots
