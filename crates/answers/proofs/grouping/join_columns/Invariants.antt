use Rattle.std.proofs.Common.{◌≡◌, ℕ, ◌<◌, ◌≤◌, List, [], length, get_or}
use Rattle.std.specs.Prelude.{All}
use Rattle.arrays.specs.Prelude.{Kind, Table}
use Rattle.tallies.specs.Prelude.{AreAlike, IsColumnOf, column_of, padded, show_column, spread_all}
use Rattle.tallies.specs.declared.column.TallyColumn.{TallyColumn}
use Rattle.answers.proofs.grouping.join_columns.Given as goal

-- The others are added to the first columns, and the rest are as they were.
abbrev pub invariant-loop-i : goal.invariant-loop-i
invariant-loop-i l = record {
  size : length l.columns ≡ length l.initial.columns;
  joined : (kinds : ℕ → Kind) (tables more : List Table) → All (IsColumnOf tables) l.initial.columns → All (IsColumnOf more) l.others
      → All (λ c. AreAlike kinds tables (show_column c).agg) l.initial.columns → All (λ c. AreAlike kinds more (show_column c).agg) l.initial.columns
      → (k : ℕ) (d : TallyColumn) → k < l.i
      → show_column (get_or l.columns k d) ≡ column_of (spread_all l.ids more (padded l.groups [] tables)) (show_column (get_or l.initial.columns k d)).agg;
  rest : (k : ℕ) (d : TallyColumn) → l.i ≤ k → get_or l.columns k d ≡ get_or l.initial.columns k d;
}
