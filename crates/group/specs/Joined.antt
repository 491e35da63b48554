-- The statistics of two columns, one behind the other.
use Rattle.std.specs.Prelude.{ℤ, ◌+ℤ◌, Option, Some, None}

-- One of two values, either of which may be missing.
abbrev pub better : {A : Type 0} → (A → A → A) → Option A → Option A → Option A
better choose None y = y
better choose (Some x) None = Some x
better choose (Some x) (Some y) = Some (choose x y)

-- The sum of two sums, where both are there.
abbrev pub both_sums : Option ℤ → Option ℤ → Option ℤ
both_sums None y = None
both_sums (Some x) None = None
both_sums (Some x) (Some y) = Some (x +ℤ y)
