-- One number in place of a second column.
use Rattle.std.specs.Prelude.{ℤ, [], Bool, false, Option, None, length, replicate}
use Rattle.std.specs.Option.{option_or}
use Rattle.arrays.specs.Prelude.{Kind, Seen, int, is_of_type, no_entries}
use Rattle.arrays.specs.Kind as kind
use Rattle.kernels.specs.Arithmetic.{arithmetic_fault}
use Rattle.kernels.specs.Fault.{type_fault}
use Rattle.kernels.specs.declared.fault.KernelFault.{KernelFault}

-- A column of the same type and of as many slots, each of which holds the number.
abbrev pub number_beside : Seen → ℤ → Seen
number_beside s z = record { kind = s.kind; validity = None; items = replicate (length s.items) (int z); codes = []; entries = no_entries }

-- Whether it is an integer type that has the number.
abbrev pub has_number : Kind → ℤ → Bool
has_number (kind.int t) z = is_of_type t z
has_number k z = false

-- The column isn't of an integer type that has the number.
abbrev pub number_fault : Seen → ℤ → Option KernelFault
number_fault s z = type_fault (has_number s.kind z)

-- The first fault of all, of the column and the number, and of the number and the column.
abbrev pub fault_with : (ℤ → ℤ → ℤ) → Seen → ℤ → Option KernelFault
fault_with f s z = option_or (number_fault s z) (arithmetic_fault f s (number_beside s z))

abbrev pub fault_from : (ℤ → ℤ → ℤ) → ℤ → Seen → Option KernelFault
fault_from f z s = option_or (number_fault s z) (arithmetic_fault f (number_beside s z) s)
