-- The member VALIDITY of a column, as bits. (Arrow integration testing, "JSON test data format", FieldData)
use Rattle.std.specs.Prelude.{◌≡◌, ℕ, List, map, slice_get, Bool, true, Option, Some, None}
use Rattle.json_read.specs.Prelude.{Data, flag_of, flags_of, no_items}
use Rattle.json_scan.specs.Spelling.{before}

-- The values are flags, and these are what they say.
abbrev pub AreFlags : List Data → List Bool → Type 0
AreFlags ds bits = map flag_of ds ≡ map Some bits

-- The member, or none, by its bits: there are none where all slots are valid.
abbrev pub IsValidity : Option Data → Option (List Bool) → Type 0
IsValidity member None = flags_of member ≡ Some None
IsValidity member (Some bits) = (ds : List Data) × (flags_of member ≡ Some (Some (before ds no_items))) × AreFlags ds bits

-- Whether slot i is valid; none where it has no bit.
abbrev pub valid_of : Option (List Bool) → ℕ → Option Bool
valid_of None i = Some true
valid_of (Some bits) i = slice_get bits i
