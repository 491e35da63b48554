-- Lines that tell why there is no output.
use Rattle.std.specs.Prelude.{ℕ, ◌<◌, List, [], ◌∷◌, ◌++◌, Option, codes}
use Rattle.std.specs.Io.KnownBytes.{Appends}

-- The lines of a text end with one newline each.
abbrev pub line : List ℕ → List ℕ
line text = text ++ 10 ∷ []

abbrev pub message : List ℕ → List ℕ
message what = line (codes "arrowtab: " ++ what)

abbrev pub memory_line : List ℕ
memory_line = message (codes "no memory")

abbrev pub output_line : List ℕ
output_line = message (codes "output failed")

-- The sink took the line, or it failed.
pub data TookLine (text : List ℕ) (failed failures : ℕ) (old new : Option (List ℕ)) : Type 0 where
  sink_failed : failed < failures → TookLine text failed failures old new
  line_taken : Appends old new text → TookLine text failed failures old new
