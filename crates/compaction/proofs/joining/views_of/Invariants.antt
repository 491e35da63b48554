use Rattle.std.proofs.Common.{map, take}
use Rattle.std.specs.Arc.{arc_value}
use Rattle.std.specs.List.{AllZip}
use Rattle.compaction.specs.Columns.{IsColumnOf}
use Rattle.compaction.proofs.joining.views_of.Given as goal

abbrev pub invariant-loop-batch : goal.invariant-loop-batch
invariant-loop-batch l = AllZip (IsColumnOf l.k) (take l.batch-index (map arc_value l.batches)) l.views.items
