use Rattle.std.proofs.Common.{◌≡◌, ℕ, ◌<◌, false}
use Rattle.layout.specs.Fault.{is_no_code}
use Rattle.layout.proofs.contents.least_no_code.Given as goal

abbrev pub invariant-loop-j : goal.invariant-loop-j
invariant-loop-j l = (k : ℕ) → k < l.j → is_no_code l.buffers l.entries k ≡ false
