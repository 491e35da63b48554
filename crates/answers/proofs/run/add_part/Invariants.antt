use Rattle.std.proofs.Common.{◌-◌, ◌≤◌, ◌++◌}
use Rattle.arrays.specs.Batch.{Table}
use Rattle.query.specs.QueryShape.{query_shape}
use Rattle.answers.specs.Prelude.{HasKept, IsReadyFor, rows_in}
use Rattle.answers.proofs.RunLemmas.{AreSoundTo}
use Rattle.answers.proofs.run.add_part.Given as goal

-- The slices so far.
abbrev pub invariant-loop-at : goal.invariant-loop-at
invariant-loop-at g l = record {
  within : l.at ≤ l.rows;
  kept : (before : Table) → HasKept l.batch.fields l.query before l.fn.grouping → HasKept l.batch.fields l.query (before ++ rows_in l.batch l.start l.at) l.grouping;
  sound : AreSoundTo l.batch (query_shape l.query).filter l.start l.at;
  ready : IsReadyFor l.batch l.query l.grouping;
}

abbrev pub decreases-loop-at : goal.decreases-loop-at
decreases-loop-at g l = l.rows - l.at
