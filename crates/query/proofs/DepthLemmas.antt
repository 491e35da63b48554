-- Depths of operands, one after the other.
use Rattle.std.proofs.Common.{◌≡◌, ℕ, suc, ◌-◌, ◌<◌, nat_lt, max, true, false, arith}
use Rattle.std.proofs.lemmas.Bool.Decides.{nat_tests}

-- one operand that is too deep is enough
pub deeper_first : (k d r : ℕ) → 0 < k → nat_lt (k - 1) d ≡ true → nat_lt k (suc (max d r)) ≡ true
deeper_first k d r h e = grind (arith, nat_tests)

-- one that isn't decides nothing
pub deeper_rest : (k d r : ℕ) → 0 < k → nat_lt (k - 1) d ≡ false → nat_lt k (suc (max d r)) ≡ nat_lt k (suc r)
deeper_rest k d r h e = grind (arith, nat_tests)

-- an operator without operands is one level
pub deeper_none : (k : ℕ) → 0 < k → nat_lt k 1 ≡ false
deeper_none k h = grind (arith, nat_tests)

pub ruleset depths = (deeper_first, deeper_rest, deeper_none)
