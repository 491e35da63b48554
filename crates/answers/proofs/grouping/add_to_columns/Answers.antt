use Rattle.std.proofs.Common.{◌∙◌, [], List, arith, map}
use Rattle.arrays.specs.Batch.{Row, row_of}
use Rattle.tallies.specs.Prelude.{ColumnShape, column_of, padded, show_column, spread}
use Rattle.tallies.proofs.ColumnLemmas.{mapped}
use Rattle.answers.proofs.ListLemmas.{changed_by_place}
use Rattle.answers.proofs.grouping.add_to_columns.Goals as goal

pub returns : goal.returns
returns c = λ tables all.
    let more : List Row = map (row_of c.args.batch.now.columns) c.args.rows.now in
    let spreads = spread c.args.ids.now more (padded c.args.groups [] tables) in
    changed_by_place show_column (λ (s : ColumnShape). column_of spreads s.agg) c.args.columns.now c.loop-i.columns c.loop-i.invariant.size
    (λ k d below. c.loop-i.invariant.added tables all k d (omega (arith, below, c.loop-i-test.false)))
    ∙ mapped (λ (s : ColumnShape). column_of spreads s.agg) show_column c.args.columns.now
