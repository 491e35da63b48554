use Rattle.std.proofs.Common.{◌≡◌, ◌+◌, ◌&&◌, ℕ, false, nat_lt, get_or}
use Rattle.arrays.specs.Prelude.{bit_in}
use Rattle.select.specs.Joined.{joined_valid}
use Rattle.select.proofs.joining.valid.JoinedSlots.bit_by_bit.Given as goal

-- the bits before the place are set where they should be, and all others are 0
abbrev pub invariant-loop-j : goal.invariant-loop-j
invariant-loop-j l = (k : ℕ) → bit_in l.word k ≡ (nat_lt k l.j && get_or (joined_valid l.self.views.now) (l.i + k) false)
