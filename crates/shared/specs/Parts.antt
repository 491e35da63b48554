-- The parts that workers have of a history.
use Rattle.std.specs.Prelude.{◌≡◌, ◌⊎◌, ℕ, zero, suc, ◌+◌, List, [], ◌∷◌, ⊤}

-- The items of the first list stand in the second in their order, with others perhaps between.
module _ {A : Type 0} where
  abbrev pub InOrder : List A → List A → Type 0
  InOrder [] ys = ⊤
  InOrder (x ∷ xs) [] = ⊥
  InOrder (x ∷ xs) (y ∷ ys) = ((x ≡ y) × InOrder xs ys) ⊎ InOrder (x ∷ xs) ys

-- The sum over the numbers below a bound.
abbrev pub sum_below : ℕ → (ℕ → ℕ) → ℕ
sum_below zero f = 0
sum_below (suc n) f = sum_below n f + f n
