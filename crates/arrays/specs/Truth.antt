-- A truth value that may not be known.
use Rattle.std.specs.Prelude.{Bool, false, not, Option, Some, None}

-- Known, and true.
abbrev pub knows_true : Option Bool → Bool
knows_true (Some b) = b
knows_true None = false

-- Known, and false.
abbrev pub knows_false : Option Bool → Bool
knows_false (Some b) = not b
knows_false None = false
