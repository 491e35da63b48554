use Rattle.std.proofs.Common.{◌≡◌, take}
use Rattle.table.proofs.widening.columns_shared.Given as goal

abbrev pub invariant-loop-column : goal.invariant-loop-column
invariant-loop-column l = l.shared.items ≡ take l.column-index l.columns
