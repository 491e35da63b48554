use Rattle.std.proofs.Common.{map, option_map, take}
use Rattle.std.specs.Arc.{arc_value}
use Rattle.std.specs.List.{AllZip}
use Rattle.table.specs.Moved.{IsMoved}
use Rattle.table.proofs.moving.all_over.Given as goal

abbrev pub invariant-loop-batch : goal.invariant-loop-batch
invariant-loop-batch l = AllZip (IsMoved (arc_value l.schema) (map (option_map arc_value) l.dictionaries)) (take l.batch-index (map arc_value l.batches)) (map arc_value l.all.items)
