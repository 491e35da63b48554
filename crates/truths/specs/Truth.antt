-- Truth values in the making.
use Rattle.std.specs.Prelude.{ℕ, List, map, Bool, if◌then◌else◌}
use Rattle.std.specs.List.{range_with_len}
use Rattle.arrays.specs.Item as item
use Rattle.arrays.specs.Prelude.{Item, null}

-- The value at a place where it is known, else null.
abbrev pub truth_at : (ℕ → Bool) → (ℕ → Bool) → ℕ → Item
truth_at known value i = if known i then item.boolean (value i) else null

-- n places.
abbrev pub truths_of : (ℕ → Bool) → (ℕ → Bool) → ℕ → List Item
truths_of known value n = map (truth_at known value) (range_with_len 0 n)
