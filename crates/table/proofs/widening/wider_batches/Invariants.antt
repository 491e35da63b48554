use Rattle.std.proofs.Common.{◌≡◌, map, take}
use Rattle.std.specs.Arc.{arc_value}
use Rattle.arrays.specs.Prelude.{field_of}
use Rattle.table.specs.Widening.{with_nulls}
use Rattle.table.proofs.widening.wider_batches.Given as goal

abbrev pub invariant-loop-batch : goal.invariant-loop-batch
invariant-loop-batch l = map arc_value l.wider.items ≡ map (with_nulls (field_of l.field)) (map arc_value (take l.batch-index l.batches))
