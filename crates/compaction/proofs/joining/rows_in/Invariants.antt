use Rattle.std.proofs.Common.{◌≡◌, length, take}
use Rattle.compaction.specs.Neighbours.{together}
use Rattle.compaction.proofs.FrontLemmas.{tables_of}
use Rattle.compaction.proofs.joining.rows_in.Given as goal

abbrev pub invariant-loop-batch : goal.invariant-loop-batch
invariant-loop-batch l = l.rows ≡ length (together (take l.batch-index (tables_of l.batches)))
