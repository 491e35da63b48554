-- What stands against opening a table.
use Rattle.std.specs.Prelude.{◌≡◌, ◌⊎◌, ℕ, ◌<◌, ◌≤◌}
use Rattle.shared.specs.declared.fault.OpenFault.{OpenFault}
use Rattle.shared.specs.declared.fault.OpenFault.TheVariants.{NoMemory, NoPlace, NoWorkers, TooMany}

-- A table has from 1 to 64 workers.
abbrev pub IsWorkerCount : ℕ → Type 0
IsWorkerCount workers = (1 ≤ workers) × (workers ≤ 64)

-- It has at most 64 readers.
abbrev pub IsFew : ℕ → Type 0
IsFew readers = readers ≤ 64

abbrev pub IsOpenFault : ℕ → ℕ → OpenFault → Type 0
IsOpenFault workers readers NoWorkers = workers ≡ 0
IsOpenFault workers readers TooMany = (1 ≤ workers) × ((64 < workers) ⊎ (64 < readers))
IsOpenFault workers readers NoMemory = IsWorkerCount workers × IsFew readers
IsOpenFault workers readers NoPlace = IsWorkerCount workers × IsFew readers × (1 ≤ readers)
