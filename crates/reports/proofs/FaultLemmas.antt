-- Faults that want of memory may stand in for.
use Rattle.std.proofs.Common.{inl, inr}
use Rattle.reports.specs.OrMemory.{OrMemory}
use Rattle.reports.specs.declared.run_fault.RunFault.{RunFault}

-- what one fault means for the whole
pub or_memory : (P Q : RunFault → Type 0) → ((e : RunFault) → P e → Q e) → (e : RunFault) → OrMemory P e → OrMemory Q e
or_memory P Q means e (inl wants) = inl wants
or_memory P Q means e (inr why) = inr (means e why)
