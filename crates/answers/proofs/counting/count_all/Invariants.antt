use Rattle.std.proofs.Common.{◌≡◌, All, length, map, take}
use Rattle.std.specs.Arc.{arc_value}
use Rattle.answers.specs.Answers.{all_rows, first_fields}
use Rattle.tallies.specs.Kinds.{AreComparable}
use Rattle.evaluate.specs.Rows.{kind_at}
use Rattle.answers.proofs.counting.count_all.Given as goal

-- The rows of the batches so far.
abbrev pub invariant-loop-batch : goal.invariant-loop-batch
invariant-loop-batch l =
    let batches = map arc_value l.batches in
    let front = all_rows (take l.batch-index batches) in
    record {
      rows : l.rows ≡ length front;
      comparable : All (AreComparable (kind_at (first_fields batches)) l.query.aggs.items) front;
    }
