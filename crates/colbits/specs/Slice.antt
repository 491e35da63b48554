-- A part of a list.
use Rattle.std.specs.Prelude.{ℕ, List, take, drop}

-- The n elements from place start on.
abbrev pub slice : {A : Type 0} → List A → ℕ → ℕ → List A
slice xs start n = take n (drop start xs)
