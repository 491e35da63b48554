-- Integers, counts and flags of a document. (Arrow integration testing, "JSON test data format")
use Rattle.std.specs.Prelude.{ℕ, ◌^◌, ◌==◌, ◌&&◌, ℤ, pos, neg_ℤ, nat_abs, nat_lt, List, length, drop, slice_index, Bool, true, false, if◌then◌else◌, Option, Some, None, option_map, option_and_then}
use Rattle.std.specs.List.{list_all}
use Rattle.std.specs.Char.{is_ascii_digit}
use Rattle.std.specs.Str.Parse.{digits_value}
use Rattle.arrays.specs.Prelude.{IntType, W16, W32, W64, W8, Width, is_of_type}
use Rattle.serde_json.specs.Data.{Num, Data, null, boolean, number, string, array, object}
use Rattle.serde_json.specs.Find.{as_number, as_integer, as_u64}

-- ---- the spellings of integers

-- One or more decimal digits, and nothing else.
abbrev pub is_numeral : List ℕ → Bool
is_numeral bytes = nat_lt 0 (length bytes) && list_all is_ascii_digit bytes

abbrev pub numeral : List ℕ → Option ℕ
numeral bytes = if is_numeral bytes then Some (digits_value 10 bytes) else None

-- The number that a text spells: an optional minus and a numeral.
abbrev pub spelled : List ℕ → Option ℤ
spelled bytes = if slice_index bytes 0 == 45 then option_map (λ n. neg_ℤ (pos n)) (numeral (drop 1 bytes)) else option_map (λ n. pos n) (numeral bytes)

-- The whole number that a value spells, as a JSON number or as a text.
abbrev pub whole_of : Data → Option ℤ
whole_of null = None
whole_of (boolean b) = None
whole_of (number n) = as_integer n
whole_of (string bytes) = spelled bytes
whole_of (array ds) = None
whole_of (object ms) = None

abbrev pub fitting : IntType → ℤ → Option ℤ
fitting t z = if is_of_type t z then Some z else None

-- The integer of the type that a value spells.
abbrev pub integer_of : IntType → Data → Option ℤ
integer_of t d = option_and_then (fitting t) (whole_of d)

-- A number below 2 ^ 64 on either side of 0, as those of all types are.
abbrev pub narrow : ℤ → Option ℤ
narrow z = if nat_lt (nat_abs z) (2 ^ 64) then Some z else None

-- ---- counts, flags and widths

abbrev pub below : ℕ → ℕ → Option ℕ
below most n = if nat_lt n most then Some n else None

-- A whole number up to 2^31 - 1.
abbrev pub count_of : Data → Option ℕ
count_of d = option_and_then (below (2 ^ 31)) (option_and_then as_u64 (as_number d))

abbrev pub flag_number : ℕ → Option Bool
flag_number n = if n == 0 then Some false else (if n == 1 then Some true else None)

-- 1, 0, true or false.
abbrev pub flag_of : Data → Option Bool
flag_of null = None
flag_of (boolean b) = Some b
flag_of (number n) = option_and_then flag_number (as_u64 n)
flag_of (string bytes) = None
flag_of (array ds) = None
flag_of (object ms) = None

abbrev pub width_number : ℕ → Option Width
width_number n = if n == 8 then Some W8 else (if n == 16 then Some W16 else (if n == 32 then Some W32 else (if n == 64 then Some W64 else None)))

-- A width that is read: 8, 16, 32 or 64 bits.
abbrev pub width_of : Num → Option Width
width_of n = option_and_then width_number (as_u64 n)
