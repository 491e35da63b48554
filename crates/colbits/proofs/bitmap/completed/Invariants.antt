use Rattle.std.proofs.Common.{◌≡◌, ◌*◌, ◌<◌, ℕ, length}
use Rattle.colbits.specs.Bit.{bit}
use Rattle.colbits.proofs.bitmap.completed.Given as goal

-- the bytes so far have the bits of their places
abbrev pub invariant-loop-w : goal.invariant-loop-w
invariant-loop-w g l = (length l.bytes.items ≡ 8 * l.w) × ((i : ℕ) → i < 64 * l.w → bit l.bytes.items i ≡ g.P.Places.at l.places i)
