use Rattle.std.proofs.Common.{◌≡◌, map}
use Rattle.std.specs.Arc.{arc_value}
use Rattle.table.specs.Export.{passed, rows_before}
use Rattle.table.proofs.export.Place.in_batch.Given as goal

-- the batches since the place have no rows
abbrev pub invariant-loop-batch : goal.invariant-loop-batch
invariant-loop-batch l = rows_before (map arc_value l.batches) l.batch ≡ passed (map arc_value l.batches) l.self
