-- How a validity lies in memory.
use Rattle.std.specs.Prelude.{ℕ, List, Bool, Option, Some, None}
use Rattle.colbits.specs.Bitmap.{IsBitmapOf}

-- The bytes are a bitmap of the bits, and there are none where there are no bits.
abbrev pub IsBufferOf : Option (List ℕ) → Option (List Bool) → Type 0
IsBufferOf None None = Unit {0}
IsBufferOf (Some bytes) (Some bits) = IsBitmapOf bytes bits
IsBufferOf (Some bytes) None = ⊥
IsBufferOf None (Some bits) = ⊥
