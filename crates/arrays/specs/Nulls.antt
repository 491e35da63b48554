-- Columns of nulls.
use Rattle.std.specs.Prelude.{ℕ, [], replicate}
use Rattle.arrays.specs.Dictionary.{encoded}
use Rattle.arrays.specs.Shown.{shown}
use Rattle.layout.specs.Prelude.{Seen, null}
use Rattle.types.specs.Kind.{Kind, dict, int, int32, utf8}

-- What an array of n nulls shows: one with a dictionary has no entry there.
abbrev pub nulls : Kind → ℕ → Seen
nulls dict n = encoded (shown (int int32) (replicate n null)) (shown utf8 [])
nulls k n = shown k (replicate n null)
