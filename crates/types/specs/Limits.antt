-- How long arrays may be.
use Rattle.std.specs.Prelude.{ℕ}

-- The most slots of an array, and the most that an offset of 32 bits counts. (Arrow columnar format, "Array lengths")
abbrev pub most_slots : ℕ
most_slots = 2147483647
