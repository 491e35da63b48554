-- Numbers as little-endian bytes (Arrow columnar format, "Fixed-size primitive layout").
use Rattle.std.specs.Prelude.{◌≡◌, ℕ, ◌-◌, ◌*◌, ◌^◌, ℤ, pos, negsuc, Bool, true, false, int_lt, nat_lt, List, MatchBool, FitsSigned, if◌then◌else◌}
use Rattle.std.specs.Int.{FitsUnsigned, cast_signed, cast_unsigned, from_le_bytes, to_le_bytes}
use Rattle.colbits.specs.Slice.{slice}
use Rattle.types.specs.declared.int_type.IntType.{IntType}
use Rattle.types.specs.Kind.{bits_of, bytes_of}

-- Number j of a buffer of numbers: little-endian, two's complement if signed. ("Fixed-size primitive layout")
unfoldable pub number_at : IntType → List ℕ → ℕ → ℤ
number_at t bytes j =
    let n = from_le_bytes (bits_of t.bits) (slice bytes (j * bytes_of t.bits) (bytes_of t.bits)) in
    if t.signed then cast_signed (bits_of t.bits) n else pos n

-- Whether a number is below 0.
abbrev pub is_negative : ℤ → Bool
is_negative z = int_lt z (pos 0)

-- A number that isn't negative, else 0.
abbrev pub natural : ℤ → ℕ
natural (pos n) = n
natural (negsuc n) = 0

-- The number is in the type's range.
abbrev pub IsOfType : IntType → ℤ → Type 0
IsOfType t z = MatchBool t.signed (FitsSigned (bits_of t.bits) z) (FitsUnsigned (bits_of t.bits) z)

-- The same as a test: a type of b bits has numbers up to 2^b - 1, a signed one from -2^(b - 1) to 2^(b - 1) - 1.
abbrev pub is_of_type : IntType → ℤ → Bool
is_of_type t (pos n) = nat_lt n (if t.signed then 2 ^ (8 * bytes_of t.bits - 1) else 2 ^ (8 * bytes_of t.bits))
is_of_type t (negsuc n) = if t.signed then nat_lt n (2 ^ (8 * bytes_of t.bits - 1)) else false

-- The bytes of a number: two's complement if signed.
unfoldable pub bytes_of_number : IntType → ℤ → List ℕ
bytes_of_number t z = to_le_bytes (bits_of t.bits) (if t.signed then cast_unsigned (bits_of t.bits) z else natural z)

-- What a type's own arithmetic gives of an exact result: unless it is said to be outside, the exact result is of the type, and the
-- number is this result.
pub record IsResult (t : IntType) (exact z : ℤ) (outside : Bool) : Type 0 where
  pub of_type : outside ≡ false → is_of_type t exact ≡ true
  pub number : outside ≡ false → z ≡ exact
