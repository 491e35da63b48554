use Rattle.std.proofs.Common.{◌≡◌, ◌*◌, ◌≤◌, take, count_by, Bool}
use Rattle.colbits.proofs.bits.Bits.count_ones.Given as goal

-- the words so far are counted
abbrev pub invariant-loop-w : goal.invariant-loop-w
invariant-loop-w l = (l.ones ≡ count_by (λ (b : Bool). b) (take (64 * l.w) l.self)) × (l.ones ≤ 64 * l.w)
