-- A numeral read digit by digit.
use Rattle.std.proofs.Common.{◌≡◌, ◌∙◌, ℕ, ◌+◌, ◌-◌, ◌*◌, ◌^◌, ◌<◌, ◌≤◌, ℤ, pos, negsuc, nat_abs, Bool, true, false, List, [], ◌∷◌, length, drop, get_or, nat_lt, cond, Option, Some, None, option_and_then, refl, sym, ap, arith}
use Rattle.std.proofs.lemmas.List.{at_drop_more, at_drop_all}
use Rattle.std.proofs.lemmas.Bool.Decides.{nat_tests}
use Rattle.std.specs.List.{list_all}
use Rattle.std.specs.Char.{is_ascii_digit, digit_value}
use Rattle.std.specs.Str.Parse.{digits_value, digits_value_after}
use Rattle.json_base.specs.JsonNumber.{numeral, below, is_numeral, fitting, narrow}
use Rattle.arrays.specs.Prelude.{IntType, W16, W32, W64, W8, Width, is_of_type}
use Rattle.std.proofs.lemmas.Int.{ints}
use Rattle.arrays.proofs.RangeLemmas.{IsOfType-from_test}

-- more digits make no number smaller
pub digits_value_after-le : (n : ℕ) (ds : List ℕ) → n ≤ digits_value_after 10 n ds
digits_value_after-le n [] = omega arith
digits_value_after-le n (d ∷ ds) = omega (arith, digits_value_after-le (n * 10 + digit_value d) ds)

chosen : (b : Bool) (v : ℕ) → 2 ^ 64 ≤ v → None ≡ option_and_then (below (2 ^ 64)) (cond b (Some v) None)
chosen false v large = refl
chosen true v large = grind (arith, nat_tests)

pub none_from_large : (ds : List ℕ) → 2 ^ 64 ≤ digits_value 10 ds → None ≡ option_and_then (below (2 ^ 64)) (numeral ds)
none_from_large ds large = chosen (is_numeral ds) (digits_value 10 ds) large

-- the digit at i after the number n is past 2 ^ 64, whatever follows it
pub none_from_digit : (ds : List ℕ) (i n : ℕ) → i < length ds → digits_value_after 10 n (drop i ds) ≡ digits_value 10 ds
    → 2 ^ 64 ≤ n * 10 + digit_value (get_or ds i 0) → None ≡ option_and_then (below (2 ^ 64)) (numeral ds)
none_from_digit ds i n within left large =
    let more = digits_value_after-le (n * 10 + digit_value (get_or ds i 0)) (drop (i + 1) ds) in
    none_from_large ds (omega (arith, more, at_drop_more (digits_value_after 10 n) ds i 0 within))

pub digit_value-digit : (c : ℕ) → 48 ≤ c → c ≤ 57 → digit_value c ≡ c - 48
digit_value-digit c low high = grind (arith, nat_tests)

whole : (b : Bool) (n v : ℕ) → b ≡ true → n ≡ v → n < 2 ^ 64 → Some n ≡ option_and_then (below (2 ^ 64)) (cond b (Some v) None)
whole b n v all is small = grind (arith, nat_tests)

pub some_from_all : (ds : List ℕ) (i n : ℕ) → length ds ≤ i → 0 < length ds → list_all is_ascii_digit (drop i ds) ≡ list_all is_ascii_digit ds
    → digits_value_after 10 n (drop i ds) ≡ digits_value 10 ds → n < 2 ^ 64 → Some n ≡ option_and_then (below (2 ^ 64)) (numeral ds)
some_from_all ds i n past some all left small =
    let digits : list_all is_ascii_digit ds ≡ true = sym all ∙ at_drop_all (list_all is_ascii_digit) ds i past in
    let value : n ≡ digits_value 10 ds = sym (at_drop_all (digits_value_after 10 n) ds i past) ∙ left in
    whole (is_numeral ds) n (digits_value 10 ds) (grind (arith, nat_tests)) value small

-- ---- the range of a type

-- a number of the type is far from 2 ^ 64
pub narrow_type : (w : Width) (s : Bool) (z : ℤ) → 2 ^ 64 ≤ nat_abs z → is_of_type (record { bits = w; signed = s }) z ≡ false
narrow_type W8 true (pos n) h = grind (arith, ints)
narrow_type W8 true (negsuc n) h = grind (arith, ints)
narrow_type W8 false (pos n) h = grind (arith, ints)
narrow_type W8 false (negsuc n) h = grind (arith, ints)
narrow_type W16 true (pos n) h = grind (arith, ints)
narrow_type W16 true (negsuc n) h = grind (arith, ints)
narrow_type W16 false (pos n) h = grind (arith, ints)
narrow_type W16 false (negsuc n) h = grind (arith, ints)
narrow_type W32 true (pos n) h = grind (arith, ints)
narrow_type W32 true (negsuc n) h = grind (arith, ints)
narrow_type W32 false (pos n) h = grind (arith, ints)
narrow_type W32 false (negsuc n) h = grind (arith, ints)
narrow_type W64 true (pos n) h = grind (arith, ints)
narrow_type W64 true (negsuc n) h = grind (arith, ints)
narrow_type W64 false (pos n) h = grind (arith, ints)
narrow_type W64 false (negsuc n) h = grind (arith, ints)

fitting_large : (t : IntType) (z : ℤ) → 2 ^ 64 ≤ nat_abs z → None ≡ fitting t z
fitting_large t z h = ap (λ b. cond b (Some z) None) (sym (narrow_type t.bits t.signed z h))

fitting_by : (t : IntType) (z : ℤ) (b : Bool) → nat_lt (nat_abs z) (2 ^ 64) ≡ b → option_and_then (fitting t) (cond b (Some z) None) ≡ fitting t z
fitting_by t z true e = refl
fitting_by t z false e = fitting_large t z (grind (arith, nat_tests))

-- reading no further than 2 ^ 64 leaves out no number of a type
pub fitting-narrow : (t : IntType) (o : Option ℤ) → option_and_then (fitting t) (option_and_then narrow o) ≡ option_and_then (fitting t) o
fitting-narrow t None = refl
fitting-narrow t (Some z) = fitting_by t z (nat_lt (nat_abs z) (2 ^ 64)) refl

pub none_from_narrow : (t : IntType) (o : Option ℤ) → None ≡ option_and_then narrow o → None ≡ option_and_then (fitting t) o
none_from_narrow t o e = ap (option_and_then (fitting t)) e ∙ fitting-narrow t o

pub fitting_from_narrow : (t : IntType) (o : Option ℤ) (z : ℤ) → Some z ≡ option_and_then narrow o → fitting t z ≡ option_and_then (fitting t) o
fitting_from_narrow t o z e = ap (option_and_then (fitting t)) e ∙ fitting-narrow t o

pub ruleset ranges = (none_from_narrow, fitting_from_narrow, IsOfType-from_test)
