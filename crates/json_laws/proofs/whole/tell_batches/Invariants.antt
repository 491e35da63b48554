use Rattle.std.proofs.Common.{All, take}
use Rattle.std.specs.Arc.{arc_value}
use Rattle.json_laws.specs.IsFile.{IsBatch}
use Rattle.json_laws.proofs.whole.tell_batches.Given as goal

abbrev pub invariant-loop-batch : goal.invariant-loop-batch
invariant-loop-batch l = All (λ b. IsBatch (arc_value b)) (take l.batch-index l.batches)
