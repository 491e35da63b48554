-- Neighbouring rows of a child: a list's first row, and how many rows it has.
use Rattle.std.specs.Prelude.{ℕ, List, [], map, Option, Some, None}
use Rattle.std.specs.List.{range_with_len}

-- The rows of a range, each picked.
abbrev pub rows_of : Option (ℕ × ℕ) → List (Option ℕ)
rows_of None = []
rows_of (Some r) = map (λ i. Some i) (range_with_len r.0 r.1)
