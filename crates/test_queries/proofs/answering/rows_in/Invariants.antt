use Rattle.std.proofs.Common.{◌≡◌, length, map, take}
use Rattle.std.specs.Arc.{arc_value}
use Rattle.answers.specs.Answers.{all_rows}
use Rattle.test_queries.proofs.answering.rows_in.Given as goal

-- The rows of the batches so far.
abbrev pub invariant-loop-batch : goal.invariant-loop-batch
invariant-loop-batch l = l.rows ≡ length (all_rows (take l.batch-index (map arc_value l.batches)))
