-- Which workers of a table are among those of a list.
use Rattle.std.specs.Prelude.{◌≡◌, ℕ, ◌<◌, ◌==◌, List, Bool, true, false}
use Rattle.std.specs.List.{list_any}
use Rattle.shared.specs.Hand.{Hand}

abbrev pub is_there : List Hand → ℕ → Bool
is_there hands number = list_any (λ h. h.number == number) hands

-- All numbers below the count are there.
abbrev pub AllThere : ℕ → List Hand → Type 0
AllThere count hands = (n : ℕ) → n < count → is_there hands n ≡ true

-- The least number below the count that isn't there.
pub record IsMissing (count : ℕ) (hands : List Hand) (number : ℕ) : Type 0 where
  pub below : number < count
  pub absent : is_there hands number ≡ false
  pub least : AllThere number hands
