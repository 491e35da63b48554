-- Numbers, counts and flags read back as they are printed.
use Rattle.std.proofs.Common.{◌≡◌, ◌∙◌, ℕ, suc, ◌<◌, ◌^◌, ◌-◌, ◌==◌, ℤ, pos, negsuc, neg_ℤ, List, [], ◌∷◌, length, drop, Bool, true, false, ◌&&◌, Some, None, option_map, option_and_then, if◌then◌else◌, get_or, refl, ap, ap₂, arith}
use Rattle.std.specs.Prelude.{◌≤ℤ◌, decimal}
use Rattle.std.specs.Fmt.{signed_decimal}
use Rattle.std.specs.Char.{is_ascii_digit}
use Rattle.std.specs.List.{list_all}
use Rattle.std.specs.Str.Parse.{AllDigits, digits_value}
use Rattle.std.proofs.lemmas.Bool.{lt-ltb}
use Rattle.std.proofs.lemmas.Bool.Decides.{nat_tests}
use Rattle.std.proofs.lemmas.Fmt.{decimal_is_IsNumeral}
use Rattle.std.proofs.lemmas.Int.{ints}
use Rattle.std.proofs.lemmas.Str.Parse.{digit_from_value}
use Rattle.arrays.specs.Prelude.{IntType, IsOfType, W16, W32, W64, W8, Width, int32, is_of_type}
use Rattle.json_base.specs.JsonNumber.{count_of, fitting, flag_of, integer_of, numeral, spelled, whole_of}
use Rattle.json_read.specs.JsonEncoding.{id_of}
use Rattle.json_print.specs.Prelude.{flag_data, int_data, natural}
use Rattle.json_print.proofs.Ranges.{high_of, low_of}

-- ---- numbers as texts

digits_read : (ds : List ℕ) → AllDigits 10 ds → list_all is_ascii_digit ds ≡ true
digits_read [] h = refl
digits_read (c ∷ ds) h =
    let k = digit_from_value c h.0 in
    let rest = digits_read ds h.1 in
    grind (arith, nat_tests)

numeral_read : (n : ℕ) → n < 2 ^ 64 → numeral (decimal n) ≡ Some n
numeral_read n small =
    let is = decimal_is_IsNumeral n small in
    ap (λ b. if b then Some (digits_value 10 (decimal n)) else None) (ap₂ (λ a b. a && b) (lt-ltb 0 (length (decimal n)) is.0.0) (digits_read (decimal n) is.0.1))
    ∙ ap (λ m. Some m) is.1

no_minus : (ds : List ℕ) → 0 < length ds → AllDigits 10 ds → (get_or ds 0 0 == 45) ≡ false
no_minus [] some h = absurd (omega arith)
no_minus (c ∷ ds) some h = let k = digit_from_value c h.0 in grind (arith, nat_tests)

text_read : (z : ℤ) → neg_ℤ (pos (2 ^ 63)) ≤ℤ z → z ≤ℤ pos (2 ^ 64 - 1) → spelled (signed_decimal z) ≡ Some z
text_read (pos n) low high =
    let small : n < 2 ^ 64 = omega (arith, ints) in
    let is = decimal_is_IsNumeral n small in
    ap (λ b. if b then option_map (λ n. neg_ℤ (pos n)) (numeral (drop 1 (decimal n))) else option_map (λ n. pos n) (numeral (decimal n))) (no_minus (decimal n) is.0.0 is.0.1)
    ∙ ap (option_map (λ n. pos n)) (numeral_read n small)
text_read (negsuc n) low high = ap (option_map (λ n. neg_ℤ (pos n))) (numeral_read (suc n) (omega (arith, ints)))

-- ---- numbers of a type

whole_read : (w : Width) (z : ℤ) → neg_ℤ (pos (2 ^ 63)) ≤ℤ z → z ≤ℤ pos (2 ^ 64 - 1) → whole_of (int_data w z) ≡ Some z
whole_read W8 (pos n) low high = refl
whole_read W8 (negsuc n) low high = refl
whole_read W16 (pos n) low high = refl
whole_read W16 (negsuc n) low high = refl
whole_read W32 (pos n) low high = refl
whole_read W32 (negsuc n) low high = refl
whole_read W64 z low high = text_read z low high

tested : (w : Width) (signed : Bool) (z : ℤ) → IsOfType (record { bits = w; signed = signed }) z → is_of_type (record { bits = w; signed = signed }) z ≡ true
tested W8 true (pos n) h = grind (arith, ints)
tested W8 true (negsuc n) h = grind (arith, ints)
tested W8 false (pos n) h = grind (arith, ints)
tested W8 false (negsuc n) h = grind (arith, ints)
tested W16 true (pos n) h = grind (arith, ints)
tested W16 true (negsuc n) h = grind (arith, ints)
tested W16 false (pos n) h = grind (arith, ints)
tested W16 false (negsuc n) h = grind (arith, ints)
tested W32 true (pos n) h = grind (arith, ints)
tested W32 true (negsuc n) h = grind (arith, ints)
tested W32 false (pos n) h = grind (arith, ints)
tested W32 false (negsuc n) h = grind (arith, ints)
tested W64 true (pos n) h = grind (arith, ints)
tested W64 true (negsuc n) h = grind (arith, ints)
tested W64 false (pos n) h = grind (arith, ints)
tested W64 false (negsuc n) h = grind (arith, ints)

pub number_read : (t : IntType) (z : ℤ) → IsOfType t z → integer_of t (int_data t.bits z) ≡ Some z
number_read t z h =
    ap (option_and_then (fitting t)) (whole_read t.bits z (low_of t z h) (high_of t z h)) ∙ ap (λ b. if b then Some z else None) (tested t.bits t.signed z h)

-- ---- natural numbers

-- A code.
pub index_read : (n : ℕ) → n < 2 ^ 31 → integer_of int32 (natural n) ≡ Some (pos n)
index_read n small = ap (λ b. if b then Some (pos n) else None) (lt-ltb n (2 ^ 31) small)

-- The id of a dictionary.
pub id_read : (n : ℕ) → n < 2 ^ 63 → id_of (natural n) ≡ Some (pos n)
id_read n small = ap (λ b. if b then Some (pos n) else None) (lt-ltb n (2 ^ 63) small)

pub count_read : (n : ℕ) → n < 2 ^ 31 → count_of (natural n) ≡ Some n
count_read n small = ap (λ b. if b then Some n else None) (lt-ltb n (2 ^ 31) small)

pub flag_read : (b : Bool) → flag_of (flag_data b) ≡ Some b
flag_read true = refl
flag_read false = refl
