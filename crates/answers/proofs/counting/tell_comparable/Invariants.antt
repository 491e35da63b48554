use Rattle.std.proofs.Common.{ℕ, All, take}
use Rattle.arrays.specs.Batch.{Row, rows_of}
use Rattle.query.specs.declared.expr.Agg.{Agg}
use Rattle.tallies.specs.Prelude.{IsComparable, item_for}
use Rattle.evaluate.specs.Rows.{kind_at}
use Rattle.answers.proofs.counting.tell_comparable.Given as goal

-- What the aggregates so far look at.
abbrev pub invariant-loop-agg : goal.invariant-loop-agg
invariant-loop-agg l =
    All (λ (a : Agg ℕ). All (λ (row : Row). IsComparable (kind_at l.batch.fields) a (item_for a row)) (rows_of l.batch)) (take l.agg-index l.aggs)
