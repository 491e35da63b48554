-- Numbers in buffers of bytes.
use Rattle.std.proofs.Common.{◌≡◌, ◌∙◌, ℕ, ◌+◌, ◌*◌, ◌^◌, ◌<◌, ◌≤◌, ℤ, pos, negsuc, List, ◌++◌, Bool, true, false, length, take, drop, cond, ap, refl, arith, FitsSigned, length-drop}
use mir.Val.{bits}
use Rattle.std.proofs.lemmas.List.{take_all, drop-append-le, take-append-le}
use Rattle.std.proofs.Math.Seq.{drop-append_seam, drop-append-add}
use Rattle.std.proofs.lemmas.Nat.{from_le_bytes-to_le_bytes_2, from_le_bytes-to_le_bytes_4, from_le_bytes-to_le_bytes_8}
use Rattle.std.proofs.lemmas.Int.{ints, to_z-of_z}
use Rattle.std.specs.Int.{Width as Bits, cast_signed, cast_unsigned, to_le_bytes, from_le_bytes, FitsUnsigned}
use Rattle.types.specs.declared.int_type.Width.{Width}
use Rattle.types.specs.declared.int_type.Width.TheVariants.{W8, W16, W32, W64}
use Rattle.types.specs.declared.int_type.IntType.{IntType}
use Rattle.types.specs.Prelude.{IsOfType, bits_of, bytes_of, bytes_of_number, natural, number_at}
use Rattle.colbits.specs.Slice.{slice}

-- ---- parts of lists joined

slice-append-front : (xs ys : List ℕ) (start n : ℕ) → start + n ≤ length xs → slice (xs ++ ys) start n ≡ slice xs start n
slice-append-front xs ys start n h =
    ap (take n) (drop-append-le start xs ys (omega arith)) ∙ take-append-le n (drop start xs) ys (omega (arith, length-drop start xs))

slice-append-end : (xs ys : List ℕ) (start n : ℕ) → start ≡ length xs → length ys ≤ n → slice (xs ++ ys) start n ≡ ys
slice-append-end xs ys start n is h =
    ap (λ s. take n (drop s (xs ++ ys))) is ∙ ap (take n) (drop-append_seam xs ys) ∙ take_all n ys h

-- ---- one number

pub length-bytes_of_number : (t : IntType) (z : ℤ) → length (bytes_of_number t z) ≡ bytes_of t.bits
unfolding bytes_of_number
length-bytes_of_number t z = by_width t.bits _ where
  by_width : (w : Width) (n : ℕ) → length (to_le_bytes (bits_of w) n) ≡ bytes_of w
  by_width W8 n = refl
  by_width W16 n = refl
  by_width W32 n = refl
  by_width W64 n = refl

-- the bits of a number
from_bytes : (w : Width) (n : ℕ) → n < 2 ^ bits (bits_of w) → from_le_bytes (bits_of w) (to_le_bytes (bits_of w) n) ≡ n
from_bytes W8 n h = omega arith
from_bytes W16 n h = from_le_bytes-to_le_bytes_2 n h
from_bytes W32 n h = from_le_bytes-to_le_bytes_4 n h
from_bytes W64 n h = from_le_bytes-to_le_bytes_8 n h

signed_below : (w : Width) (z : ℤ) → FitsSigned (bits_of w) z → cast_unsigned (bits_of w) z < 2 ^ bits (bits_of w)
signed_below W8 (pos n) h = omega (arith, ints)
signed_below W8 (negsuc n) h = omega (arith, ints)
signed_below W16 (pos n) h = omega (arith, ints)
signed_below W16 (negsuc n) h = omega (arith, ints)
signed_below W32 (pos n) h = omega (arith, ints)
signed_below W32 (negsuc n) h = omega (arith, ints)
signed_below W64 (pos n) h = omega (arith, ints)
signed_below W64 (negsuc n) h = omega (arith, ints)

unsigned_below : (w : Bits) (z : ℤ) → FitsUnsigned w z → (natural z < 2 ^ bits w) × (pos (natural z) ≡ z)
unsigned_below w (pos n) h = (omega (arith, ints), refl)
unsigned_below w (negsuc n) h = absurd (omega (arith, ints))

-- what was written is read again
read_again : (w : Width) (signed : Bool) (z : ℤ) → IsOfType (record { bits = w; signed = signed }) z
    → cond signed (cast_signed (bits_of w) (from_le_bytes (bits_of w) (to_le_bytes (bits_of w) (cond signed (cast_unsigned (bits_of w) z) (natural z)))))
    (pos (from_le_bytes (bits_of w) (to_le_bytes (bits_of w) (cond signed (cast_unsigned (bits_of w) z) (natural z))))) ≡ z
read_again w true z h =
    ap (cast_signed (bits_of w)) (from_bytes w (cast_unsigned (bits_of w) z) (signed_below w z h)) ∙ to_z-of_z (bits_of w) z h
read_again w false z h =
    let below = unsigned_below (bits_of w) z h in
    ap pos (from_bytes w (natural z) below.0) ∙ below.1

-- ---- a number among others

-- a number of the front, whatever follows
pub number_at-append-front : (t : IntType) (xs ys : List ℕ) (j : ℕ) → j * bytes_of t.bits + bytes_of t.bits ≤ length xs → number_at t (xs ++ ys) j ≡ number_at t xs j
unfolding number_at
number_at-append-front t xs ys j h =
    ap (λ b. cond t.signed (cast_signed (bits_of t.bits) (from_le_bytes (bits_of t.bits) b)) (pos (from_le_bytes (bits_of t.bits) b))) (slice-append-front xs ys (j * bytes_of t.bits) (bytes_of t.bits) h)

-- the number behind j numbers
pub number_at-append-end : (t : IntType) (xs : List ℕ) (z : ℤ) (j : ℕ) → j * bytes_of t.bits ≡ length xs → IsOfType t z → number_at t (xs ++ bytes_of_number t z) j ≡ z
unfolding number_at bytes_of_number
number_at-append-end t xs z j is h =
    ap (λ b. cond t.signed (cast_signed (bits_of t.bits) (from_le_bytes (bits_of t.bits) b)) (pos (from_le_bytes (bits_of t.bits) b)))
    (slice-append-end xs (bytes_of_number t z) (j * bytes_of t.bits) (bytes_of t.bits) is (omega (arith, length-bytes_of_number t z)))
    ∙ read_again t.bits t.signed z h

-- a number behind n numbers
pub number_at-append-past : (t : IntType) (xs ys : List ℕ) (n j : ℕ) → n * bytes_of t.bits ≡ length xs → number_at t (xs ++ ys) (n + j) ≡ number_at t ys j
unfolding number_at
number_at-append-past t xs ys n j is =
    let w = bytes_of t.bits in
    let place : (n + j) * w ≡ length xs + j * w = places n j w (length xs) is in
    ap (λ b. cond t.signed (cast_signed (bits_of t.bits) (from_le_bytes (bits_of t.bits) b)) (pos (from_le_bytes (bits_of t.bits) b)))
    (ap (λ s. take w (drop s (xs ++ ys))) place ∙ ap (take w) (drop-append-add xs ys (j * w)))
  where
    places : (n j w a : ℕ) → n * w ≡ a → (n + j) * w ≡ a + j * w
    places n j w a is = omega arith
