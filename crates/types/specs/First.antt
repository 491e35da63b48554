-- The first of several that is there.
use Rattle.std.specs.Prelude.{List, [], ◌∷◌, Option, Some, None}

abbrev pub first : {A : Type 0} → List (Option A) → Option A
first [] = None
first (None ∷ rest) = first rest
first (Some x ∷ rest) = Some x
