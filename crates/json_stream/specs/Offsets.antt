-- The member OFFSET of a column of lists. (Arrow integration testing, "JSON test data format", FieldData)
use Rattle.std.specs.Prelude.{◌≡◌, Option, Some, None}
use Rattle.arrays.specs.Prelude.{OffsetWidth}
use Rattle.json_read.specs.Prelude.{Data, HoldsOffsets, Items, array, items_len}
use Rattle.json_stream.specs.declared.offsets.Offsets.{Offsets}

-- The bytes are the numbers that the values spell, and there are so many of them.
pub record AreSpelledOffsets (w : OffsetWidth) (ds : Items) (offsets : Offsets) : Type 0 where
  pub bytes : HoldsOffsets w ds offsets.bytes.items
  pub len : offsets.len ≡ items_len ds

-- The member is an array of these offsets, if they are read.
abbrev pub IsOffsets : OffsetWidth → Option Data → Option Offsets → Type 0
IsOffsets w found None = Unit {0}
IsOffsets w found (Some offsets) = (ds : Items) × (found ≡ Some (array ds)) × AreSpelledOffsets w ds offsets
