-- What ends over memory hold, and which of their calls fails.
use Rattle.std.specs.Prelude.{◌≡◌, ℕ, ◌-◌, ◌==◌, if◌then◌else◌, List}
use Rattle.ends.specs.declared.memory.Plan.{Plan}
use Rattle.ends.specs.declared.memory.Plan.TheVariants.{Never, At}

-- the next call is the one that fails
abbrev pub FailsNext : Plan → Type 0
FailsNext Never = ⊥
FailsNext (At n) = n ≡ 0

-- what is planned once one more call was made
abbrev pub after_call : Plan → Plan
after_call Never = Never
after_call (At n) = (if n == 0 then Never else At (n - 1))

-- a source over memory: what it has still to give, the most that it gives at once, and its failures
pub record Supply : Type 0 where
  pub remaining : List ℕ
  pub most : ℕ
  pub plan : Plan
  pub failures : ℕ

-- a sink over memory: what it has taken, the most that it takes at once, and its failures
pub record Store : Type 0 where
  pub taken : List ℕ
  pub most : ℕ
  pub plan : Plan
  pub failures : ℕ
