use Rattle.std.proofs.Common.{◌≡◌, ℕ, ◌<◌, false}
use Rattle.types.specs.Prelude.{is_negative, number_at, offset_type}
use Rattle.layout.proofs.contents.is_some_negative.Given as goal

abbrev pub invariant-loop-j : goal.invariant-loop-j
invariant-loop-j l = (k : ℕ) → k < l.j → is_negative (number_at (offset_type l.width) l.offsets k) ≡ false
