-- The members of an object at places of its text.
use Rattle.std.specs.Prelude.{◌≡◌, ℕ, List, drop, Option, Some, None}
use Rattle.serde_json.specs.Data.{Data, Members}
use Rattle.serde_json.specs.Find.{get_member}
use Rattle.json_scan.specs.Spelling.{SpellsAt}

-- The member of that name has the value that stands at the place; where no place is given, there is no such member.
abbrev pub IsMemberAt : ℕ → List ℕ → List ℕ → Members → Option ℕ → Type 0
IsMemberAt depth text name ms None = get_member name ms ≡ None
IsMemberAt depth text name ms (Some at) = (d : Data) × (get_member name ms ≡ Some d) × (ys : List ℕ) × SpellsAt depth (drop at text) d ys
