use Rattle.std.proofs.Common.{◌≡◌, replicate}
use Rattle.arrays.specs.Prelude.{boolean}
use Rattle.evaluate.proofs.constant.repeated_truth.Given as goal

abbrev pub invariant-loop-row : goal.invariant-loop-row
invariant-loop-row l = l.column ≡ replicate l._row (boolean l.fn.value)
