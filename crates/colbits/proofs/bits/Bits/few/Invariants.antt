use Rattle.std.proofs.Common.{◌≡◌, ◌+◌, ◌&&◌, ℕ, nat_lt}
use Rattle.colbits.specs.Prelude.{bit_in, bit_of}
use Rattle.colbits.proofs.bits.Bits.few.Given as goal

-- the bits before the place are those of the list, and all others are 0
abbrev pub invariant-loop-j : goal.invariant-loop-j
invariant-loop-j l = (k : ℕ) → bit_in l.word k ≡ (nat_lt k l.j && bit_of l.self (l.start + k))
