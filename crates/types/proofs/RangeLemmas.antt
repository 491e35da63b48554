-- The range of a type.
use Rattle.std.proofs.Common.{◌≡◌, ℕ, ℤ, ◌+◌, ◌*◌, ◌^◌, ◌<◌, ◌≤◌, pos, negsuc, List, Bool, true, false, cond, get_or, sym, subst, arith}
use mir.Val.{bits}
use Rattle.std.proofs.Math.Facts.{sfits_to_z}
use Rattle.std.proofs.lemmas.Int.{ints}
use Rattle.std.specs.Int.{from_le_bytes, cast_signed}
use Rattle.colbits.specs.Slice.{slice}
use Rattle.types.specs.declared.int_type.Width.{Width}
use Rattle.types.specs.declared.int_type.Width.TheVariants.{W8, W16, W32, W64}
use Rattle.types.specs.declared.int_type.IntType.{IntType}
use Rattle.types.specs.declared.offset_width.OffsetWidth.{OffsetWidth}
use Rattle.types.specs.declared.offset_width.OffsetWidth.TheVariants.{Narrow, Wide}
use Rattle.types.specs.Prelude.{IsOfType, bits_of, bytes_of, is_of_type, most_of, natural, number_at, offset_type}
use Rattle.types.proofs.ByteLemmas.{get_or-slice}

within : (w : Width) (signed : Bool) (z : ℤ) → is_of_type (record { bits = w; signed = signed }) z ≡ true → IsOfType (record { bits = w; signed = signed }) z
within W8 true (pos n) h = grind (arith, ints)
within W8 true (negsuc n) h = grind (arith, ints)
within W8 false (pos n) h = grind (arith, ints)
within W8 false (negsuc n) h = grind (arith, ints)
within W16 true (pos n) h = grind (arith, ints)
within W16 true (negsuc n) h = grind (arith, ints)
within W16 false (pos n) h = grind (arith, ints)
within W16 false (negsuc n) h = grind (arith, ints)
within W32 true (pos n) h = grind (arith, ints)
within W32 true (negsuc n) h = grind (arith, ints)
within W32 false (pos n) h = grind (arith, ints)
within W32 false (negsuc n) h = grind (arith, ints)
within W64 true (pos n) h = grind (arith, ints)
within W64 true (negsuc n) h = grind (arith, ints)
within W64 false (pos n) h = grind (arith, ints)
within W64 false (negsuc n) h = grind (arith, ints)

-- A number that passes the test is in the range.
pub IsOfType-from_test : (t : IntType) (z : ℤ) → is_of_type t z ≡ true → IsOfType t z
IsOfType-from_test t z h = within t.bits t.signed z h

-- ---- numbers that lie in bytes

from_le_bytes-small : (w : Width) (bytes : List ℕ) → ((i : ℕ) → i < bytes_of w → get_or bytes i 0 < 256) → from_le_bytes (bits_of w) bytes < 2 ^ bits (bits_of w)
from_le_bytes-small W8 bytes h =
    let b0 = h 0 (omega arith) in
    omega arith
from_le_bytes-small W16 bytes h =
    let b0 = h 0 (omega arith) in
    let b1 = h 1 (omega arith) in
    omega arith
from_le_bytes-small W32 bytes h =
    let b0 = h 0 (omega arith) in
    let b1 = h 1 (omega arith) in
    let b2 = h 2 (omega arith) in
    let b3 = h 3 (omega arith) in
    omega arith
from_le_bytes-small W64 bytes h =
    let b0 = h 0 (omega arith) in
    let b1 = h 1 (omega arith) in
    let b2 = h 2 (omega arith) in
    let b3 = h 3 (omega arith) in
    let b4 = h 4 (omega arith) in
    let b5 = h 5 (omega arith) in
    let b6 = h 6 (omega arith) in
    let b7 = h 7 (omega arith) in
    omega arith

of_type : (w : Width) (signed : Bool) (n : ℕ) → n < 2 ^ bits (bits_of w)
    → IsOfType (record { bits = w; signed = signed }) (cond signed (cast_signed (bits_of w) n) (pos n))
of_type w true n h = sfits_to_z (record { fits = h })
of_type w false n h = (omega (arith, ints), omega (arith, ints))

pub number_at-of_type : (t : IntType) (bytes : List ℕ) (j : ℕ) → ((i : ℕ) → get_or bytes i 0 < 256) → IsOfType t (number_at t bytes j)
unfolding number_at
number_at-of_type t bytes j small =
    of_type t.bits t.signed _ (from_le_bytes-small t.bits (slice bytes (j * bytes_of t.bits) (bytes_of t.bits))
    (λ i below. subst (λ n. n < 256) (sym (get_or-slice bytes (j * bytes_of t.bits) (bytes_of t.bits) i below)) (small (j * bytes_of t.bits + i))))

natural-short : (w : OffsetWidth) (z : ℤ) → IsOfType (offset_type w) z → natural z ≤ most_of w
natural-short Narrow (pos n) of = omega (arith, ints)
natural-short Wide (pos n) of = omega (arith, ints)
natural-short w (negsuc n) of = omega arith

-- an offset is no more than its width counts
pub short_at : (w : OffsetWidth) (bytes : List ℕ) (j : ℕ) → ((i : ℕ) → get_or bytes i 0 < 256) → natural (number_at (offset_type w) bytes j) ≤ most_of w
short_at w bytes j small = natural-short w (number_at (offset_type w) bytes j) (number_at-of_type (offset_type w) bytes j small)
