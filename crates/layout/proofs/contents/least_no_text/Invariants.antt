use Rattle.std.proofs.Common.{◌≡◌, ℕ, ◌<◌, false}
use Rattle.layout.specs.Fault.{is_no_text}
use Rattle.layout.proofs.contents.least_no_text.Given as goal

abbrev pub invariant-loop-j : goal.invariant-loop-j
invariant-loop-j l = (k : ℕ) → k < l.j → is_no_text l.width l.buffers k ≡ false
