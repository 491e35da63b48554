-- The two widths of offsets (Arrow columnar format, "Variable-size binary layout").
use Rattle.std.specs.Prelude.{ℕ, Bool, false, nat_lt}
use Rattle.types.specs.declared.int_type.IntType.{IntType}
use Rattle.types.specs.declared.offset_width.OffsetWidth.{OffsetWidth}
use Rattle.types.specs.declared.offset_width.OffsetWidth.TheVariants.{Narrow, Wide}
use Rattle.types.specs.Kind.{bytes_of, int32, int64}
use Rattle.types.specs.Limits.{most_slots}

-- Offsets are signed, of 32 bits or of 64.
abbrev pub offset_type : OffsetWidth → IntType
offset_type Narrow = int32
offset_type Wide = int64

-- How many bytes an offset takes.
abbrev pub size_of : OffsetWidth → ℕ
size_of w = bytes_of (offset_type w).bits

-- The most that an offset counts: 2^31 - 1, or 2^63 - 1.
abbrev pub most_of : OffsetWidth → ℕ
most_of Narrow = most_slots
most_of Wide = 9223372036854775807

-- Texts of so many bytes are more than their offsets count. No memory holds more than wide ones count.
abbrev pub is_full : OffsetWidth → ℕ → Bool
is_full Narrow n = nat_lt most_slots n
is_full Wide n = false
