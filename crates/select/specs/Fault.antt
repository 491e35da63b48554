-- What a selection refuses.
use Rattle.std.specs.Prelude.{◌≡◌, ◌⊎◌, Bool, true, Option, Some, None}
use Rattle.arrays.specs.declared.builder.fault.BuildFault.{BuildFault}
use Rattle.arrays.specs.declared.builder.fault.BuildFault.TheVariants as build
use Rattle.select.specs.declared.fault.SelectFault.{SelectFault}
use Rattle.select.specs.declared.fault.SelectFault.TheVariants.{OffsetsFull, NoMemory}

-- A builder's fault.
abbrev pub of_build : BuildFault → SelectFault
of_build build.OffsetsFull = OffsetsFull
of_build build.NoMemory = NoMemory

-- Full offsets, only where they would be, or want of memory.
abbrev pub IsFull : Bool → SelectFault → Type 0
IsFull full reported = ((reported ≡ OffsetsFull) × (full ≡ true)) ⊎ (reported ≡ NoMemory)

-- What is reported: the first fault that stands; else full offsets, only where they would be; or want of memory, which
-- comes only where kinds, types and lengths are as they should be.
abbrev pub IsSelectFault : Option SelectFault → Option SelectFault → Bool → SelectFault → Type 0
IsSelectFault shape all full reported = (all ≡ Some reported) ⊎ (((reported ≡ NoMemory) × (shape ≡ None)) ⊎ ((reported ≡ OffsetsFull) × ((all ≡ None) × (full ≡ true))))
