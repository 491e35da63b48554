use Rattle.std.proofs.Common.{◌≡◌, ℕ, ◌+◌, ◌<◌, false}
use Rattle.std.specs.Prelude.{int_lt}
use Rattle.types.specs.Prelude.{number_at, offset_type}
use Rattle.layout.proofs.contents.least_decreasing.Given as goal

abbrev pub invariant-loop-j : goal.invariant-loop-j
invariant-loop-j l = (k : ℕ) → k < l.j → int_lt (number_at (offset_type l.width) l.offsets (k + 1)) (number_at (offset_type l.width) l.offsets k) ≡ false
