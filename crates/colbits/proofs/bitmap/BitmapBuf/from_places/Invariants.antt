use Rattle.std.proofs.Common.{◌≡◌, ◌*◌, ◌<◌, ℕ, length}
use Rattle.colbits.specs.Bit.{bit}
use Rattle.colbits.proofs.bitmap.BitmapBuf.from_places.Given as goal

-- the bytes so far have the bits of their places
abbrev pub invariant-loop-b : goal.invariant-loop-b
invariant-loop-b g l = (length l.bytes.items ≡ 32 * l.b) × ((i : ℕ) → i < 256 * l.b → bit l.bytes.items i ≡ g.P.Places.at l.places i)
