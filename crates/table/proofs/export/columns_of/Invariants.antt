use Rattle.std.proofs.Common.{◌≡◌, map, take}
use Rattle.table.specs.Export.{copied}
use Rattle.table.proofs.export.columns_of.Given as goal

abbrev pub invariant-loop-column : goal.invariant-loop-column
invariant-loop-column l = l.parts.items ≡ map (copied l.start l.rows) (take l.column-index l.columns)
