-- How the failures of an end are counted.
use Rattle.std.specs.Prelude.{◌≡◌, ℕ, ◌+◌, Result, MatchResult}

-- the count of failures stays where the call succeeds, and grows by one where it fails
abbrev pub Counts : {A E : Type 0} → ℕ → ℕ → Result A E → Type 0
Counts old new r = MatchResult r (λ _. new ≡ old) (λ _. new ≡ old + 1)
