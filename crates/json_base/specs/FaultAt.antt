-- What a reader tells: a fault that stands, or want of memory.
use Rattle.std.specs.Prelude.{◌≡◌, ◌≢◌, ◌⊎◌, List, [], ◌∷◌}
use Rattle.json_base.specs.declared.path.Step.{Step}
use Rattle.json_base.specs.declared.fault.JsonFault.{JsonFault}
use Rattle.json_base.specs.declared.fault.JsonFaultKind.{JsonFaultKind}
use Rattle.json_base.specs.declared.fault.JsonFaultKind.TheVariants.{NoMemory}

abbrev pub fault_at : JsonFaultKind → List Step → JsonFault
fault_at kind path = record { kind = kind; path = path }

abbrev pub no_memory : JsonFault
no_memory = fault_at NoMemory []

-- This fault, or want of memory in its stead.
abbrev pub IsFault : JsonFaultKind → List Step → JsonFault → Type 0
IsFault kind path f = (f ≡ fault_at kind path) ⊎ (f ≡ no_memory)

-- The old fault with the step before its path, or want of memory.
abbrev pub IsUnder : Step → JsonFault → JsonFault → Type 0
IsUnder step old new = ((old.kind ≢ NoMemory) × (new ≡ fault_at old.kind (step ∷ old.path))) ⊎ (new ≡ no_memory)

-- The fault reported stands, if it isn't want of memory.
pub data Tells (Stands : JsonFaultKind → List Step → Type 0) (f : JsonFault) : Type 0 where
  stands : Stands f.kind f.path → Tells Stands f
  wants : f ≡ no_memory → Tells Stands f
