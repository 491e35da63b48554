-- The parts of keys in a set.
use lib.Pointwise.{pointwise}
use Rattle.std.specs.Prelude.{ℕ, pos, ◌+◌, ◌-◌, ◌^◌, Bool, ltb, nat_eq, List, [], ◌∷◌, map, if◌then◌else◌}
use Rattle.arrayvec.specs.ArrayVec.{ArrayVec}
use Rattle.keys.specs.Parts.{same_part}
use Rattle.keys.specs.declared.part.Part.{Part}
use Rattle.keys.specs.declared.part.Part.TheVariants as part
use Rattle.keys.specs.declared.part_set.PartSet.{PartSet}
use Rattle.keys.specs.declared.part_set.PartSet.TheVariants as set
use Rattle.keys.specs.declared.part_set.Stored.{Stored}
use Rattle.keys.specs.declared.part_set.Stored.TheVariants as stored

-- The part of which this is the code: a number from 0 on is its own, null comes behind 2^17 of these, and then texts by their places.
abbrev pub part_of_code : ℕ → Part
part_of_code c = if ltb c (2 ^ 17) then part.Int (pos c) else (if nat_eq c (2 ^ 17) then part.Null else part.Text (c - (2 ^ 17 + 1)))

-- The key of one part.
abbrev pub one : Part → List Part
one p = p ∷ []

abbrev pub parts_of_code : ℕ → List Part
parts_of_code c = one (part_of_code c)

abbrev pub parts_listed : List (ArrayVec Part) → List (List Part)
parts_listed lists = map (λ v. v.items) lists

-- The parts of each key.
abbrev pub parts_shown : PartSet → List (List Part)
parts_shown (set.Coded codes) = map parts_of_code codes
parts_shown (set.Alone parts) = map one parts.keys
parts_shown (set.Lists lists) = parts_listed lists.keys

-- The parts of one key.
abbrev pub parts_stored : Stored → List Part
parts_stored (stored.Alone p) = p ∷ []
parts_stored (stored.Parts ps) = ps.now

-- Whether two keys have the same parts.
abbrev pub same_parts : List Part → List Part → Bool
same_parts ps qs = pointwise same_part ps qs
