-- Sums of numbers.
use Rattle.std.specs.Prelude.{ℕ, zero, suc, ℤ, Option, Some, None}

-- The sum of so many numbers, where there is one at all.
abbrev pub sum_if_any : ℕ → ℤ → Option ℤ
sum_if_any zero z = None
sum_if_any (suc n) z = Some z
