-- Faults that want of memory may stand in for.
use Rattle.std.specs.Prelude.{◌≡◌, ◌⊎◌}
use Rattle.reports.specs.declared.run_fault.RunFault.{RunFault}
use Rattle.reports.specs.declared.run_fault.RunFault.TheVariants.{NoMemory}

-- Memory ran out, or this stands.
abbrev pub OrMemory : (RunFault → Type 0) → RunFault → Type 0
OrMemory stands fault = (fault ≡ NoMemory) ⊎ stands fault
