-- What the error sink took of a line.
use Rattle.std.specs.Prelude.{◌≡◌, ℕ, ◌<◌, List, [], Option, Some, slice_get, ⊤}
use Rattle.ends.specs.Line.{TookLine, memory_line}
use Rattle.reports.specs.FaultLine.{fault_line, line_under}
use Rattle.reports.specs.declared.run_fault.RunFault.{RunFault}
use Rattle.reports.specs.declared.run_fault.RunFault.TheVariants.{OfFile}

-- The file of a fault, if it is one of a file, is one of so many.
abbrev pub IsOfFile : ℕ → RunFault → Type 0
IsOfFile count (OfFile file fault) = file < count
IsOfFile count fault = ⊤

-- The line of a fault, with the name of its file, if it is one of a file.
abbrev pub IsLineOf : List (List ℕ) → RunFault → List ℕ → Type 0
IsLineOf names (OfFile file fault) text = (name : List ℕ) × (slice_get names file ≡ Some name) × (text ≡ fault_line name fault)
IsLineOf names fault text = text ≡ line_under [] fault

-- The sink took the line of a fault, which had to be built, or it failed: that memory ran out may be reported in its place.
pub data TookFault (names : List (List ℕ)) (fault : RunFault) (failed failures : ℕ) (old new : Option (List ℕ)) : Type 0 where
  built : (text : List ℕ) → IsLineOf names fault text → TookLine text failed failures old new → TookFault names fault failed failures old new
  not_built : TookLine memory_line failed failures old new → TookFault names fault failed failures old new
