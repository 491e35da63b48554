use Rattle.std.proofs.Common.{◌≡◌, replicate}
use Rattle.arrays.specs.Prelude.{int}
use Rattle.evaluate.proofs.constant.repeated_number.Given as goal

abbrev pub invariant-loop-row : goal.invariant-loop-row
invariant-loop-row l = (l.column.ty ≡ l.fn.ty) × (l.column.items ≡ replicate l._row (int l.fn.number))
