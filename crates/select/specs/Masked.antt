-- Bits of a mask.
use Rattle.std.specs.Prelude.{◌≡◌, ℕ, List, Bool, length, slice_index_or}
use Rattle.arrays.specs.Prelude.{Item, bit_of, null}
use Rattle.select.specs.Selection.{is_true}

-- There is a bit for each slot of the mask: 1 where it is true, 0 where it is false or null.
pub record AreTrue (bits : List Bool) (mask : List Item) : Type 0 where
  pub size : length bits ≡ length mask
  pub each : (i : ℕ) → bit_of bits i ≡ is_true (slice_index_or mask i null)
