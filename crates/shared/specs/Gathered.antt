-- What stands against gathering a table.
use Rattle.std.specs.Prelude.{ℕ, List}
use Rattle.shared.specs.Hand.{Hand}
use Rattle.shared.specs.Missing.{AllThere, IsMissing}
use Rattle.shared.specs.declared.fault.GatherCause.{GatherCause}
use Rattle.shared.specs.declared.fault.GatherCause.TheVariants.{NoMemory, WorkerMissing}

-- The worker that is reported is the least missing; want of memory is reported only where all are there.
abbrev pub Stands : GatherCause → ℕ → List Hand → Type 0
Stands (WorkerMissing number) count hands = IsMissing count hands number
Stands NoMemory count hands = AllThere count hands
