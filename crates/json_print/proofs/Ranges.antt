-- The numbers of each type are of at most 64 bits.
use Rattle.std.proofs.Common.{◌^◌, ◌-◌, ℤ, pos, neg_ℤ, Bool, true, false, arith}
use Rattle.std.specs.Prelude.{◌≤ℤ◌}
use Rattle.std.proofs.lemmas.Int.{ints}
use Rattle.arrays.specs.Prelude.{IntType, IsOfType, W16, W32, W64, W8, Width}

low : (w : Width) (signed : Bool) (z : ℤ) → IsOfType (record { bits = w; signed = signed }) z → neg_ℤ (pos (2 ^ 63)) ≤ℤ z
low W8 true z h = omega (arith, ints)
low W16 true z h = omega (arith, ints)
low W32 true z h = omega (arith, ints)
low W64 true z h = omega (arith, ints)
low W8 false z h = omega (arith, ints)
low W16 false z h = omega (arith, ints)
low W32 false z h = omega (arith, ints)
low W64 false z h = omega (arith, ints)

high : (w : Width) (signed : Bool) (z : ℤ) → IsOfType (record { bits = w; signed = signed }) z → z ≤ℤ pos (2 ^ 64 - 1)
high W8 true z h = omega (arith, ints)
high W16 true z h = omega (arith, ints)
high W32 true z h = omega (arith, ints)
high W64 true z h = omega (arith, ints)
high W8 false z h = omega (arith, ints)
high W16 false z h = omega (arith, ints)
high W32 false z h = omega (arith, ints)
high W64 false z h = omega (arith, ints)

pub low_of : (t : IntType) (z : ℤ) → IsOfType t z → neg_ℤ (pos (2 ^ 63)) ≤ℤ z
low_of t z h = low t.bits t.signed z h

pub high_of : (t : IntType) (z : ℤ) → IsOfType t z → z ≤ℤ pos (2 ^ 64 - 1)
high_of t z h = high t.bits t.signed z h

pub ruleset ranges = (low_of, high_of)
