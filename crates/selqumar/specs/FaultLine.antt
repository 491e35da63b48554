-- What a call tells of a fault that fills a table or changes it.
use Rattle.std.specs.Prelude.{◌≡◌, ℕ, List, Bool, true, false}
use Rattle.embed.specs.Prelude.{message}
use Rattle.intake.specs.FlatFaults as flat
use Rattle.intake.specs.declared.fault.IntakeFault.{IntakeFault}
use Rattle.intake.specs.declared.fault.IntakeFault.TheVariants.{Column, Flat, Refused}
use Rattle.embed.specs.AddFaults as column
use Rattle.embed.specs.Refusals as refusal
use Rattle.selqumar.specs.FaultText.{intake_fault_text}

-- The fault is want of memory.
abbrev pub wants_memory : IntakeFault → Bool
wants_memory (Flat flat.NoMemory) = true
wants_memory (Refused refusal.NoMemory) = true
wants_memory (Column column.NoMemory) = true
wants_memory fault = false

-- The text is the line of a fault that stands, and isn't want of memory.
abbrev pub IsFaultLine : (IntakeFault → Type 0) → List ℕ → Type 0
IsFaultLine stands text = (fault : IntakeFault) × (wants_memory fault ≡ false) × stands fault × (text ≡ message (intake_fault_text fault))
