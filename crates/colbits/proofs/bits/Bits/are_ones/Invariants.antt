use Rattle.std.proofs.Common.{◌≡◌, ◌*◌, ◌<◌, ℕ, true, false, get_or}
use Rattle.colbits.proofs.bits.Bits.are_ones.Given as goal

-- the bits of the words so far are 1
abbrev pub invariant-loop-w : goal.invariant-loop-w
invariant-loop-w l = (k : ℕ) → k < 64 * l.w → get_or l.self k false ≡ true
