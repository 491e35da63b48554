use Rattle.std.proofs.Common.{◌≡◌, ℕ, ◌<◌, ◌≤◌, List, [], length, map, get_or}
use Rattle.std.specs.Prelude.{All}
use Rattle.arrays.specs.Batch.{Table, row_of}
use Rattle.tallies.specs.Prelude.{IsColumnOf, column_of, padded, show_column, spread}
use Rattle.tallies.specs.declared.column.TallyColumn.{TallyColumn}
use Rattle.answers.proofs.grouping.add_to_columns.Given as goal

-- The rows are added to the first columns, and the others are as they were.
abbrev pub invariant-loop-i : goal.invariant-loop-i
invariant-loop-i l = record {
  size : length l.columns ≡ length l.initial.columns;
  added : (tables : List Table) → All (IsColumnOf tables) l.initial.columns → (k : ℕ) (d : TallyColumn) → k < l.i
      → show_column (get_or l.columns k d) ≡ column_of (spread l.ids (map (row_of l.batch.columns) l.rows) (padded l.groups [] tables)) (show_column (get_or l.initial.columns k d)).agg;
  rest : (k : ℕ) (d : TallyColumn) → l.i ≤ k → get_or l.columns k d ≡ get_or l.initial.columns k d;
}
