-- The validity and the offsets of lists in memory.
use Rattle.std.specs.Prelude.{◌≡◌, ℕ, ◌<◌, ℤ, List, false, Bool, Option, Some}
use Rattle.arrays.specs.Prelude.{OffsetWidth, is_valid_in, is_validity_short}
use Rattle.json_base.specs.Prelude.{Data, Items, ReadsEach, flag_of}
use Rattle.json_read.specs.JsonColumn.{flagged_at}
use Rattle.json_read.specs.JsonList.{SpellsOffset, offset_bytes}

-- The value is a flag.
abbrev pub IsFlag : Data → Bool → Type 0
IsFlag d b = flag_of d ≡ Some b

-- The bitmap, where there is one, has n bits, as the flags say.
pub record HoldsFlags (flags : Option Items) (n : ℕ) (validity : Option (List ℕ)) : Type 0 where
  pub enough : is_validity_short n validity ≡ false
  pub each : (i : ℕ) → i < n → flagged_at flags i ≡ Some (is_valid_in validity i)

-- The bytes are the numbers that the items of OFFSET spell.
pub record HoldsOffsets (w : OffsetWidth) (offsets : Items) (bytes : List ℕ) : Type 0 where
  pub numbers : List ℤ
  pub spelled : ReadsEach (SpellsOffset w) offsets numbers
  pub laid : bytes ≡ offset_bytes w numbers
