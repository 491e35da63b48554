-- The number that a word of a text writes.
use Rattle.std.proofs.Common.{◌≡◌, ◌∙◌, ◌≢◌, ℕ, zero, suc, ◌+◌, ◌-◌, ◌*◌, ◌^◌, ◌<◌, ◌≤◌, ◌==◌, Bool, true, false, cond, List, [], ◌∷◌, ◌++◌, length, take, drop, get_or, slice_range, Option, Some, None, option_map, option_and_then, refl, sym, ap, ap₂, subst, arith, append-nil}
use Rattle.std.proofs.lemmas.List.{drop_more, get_or_default, length-drop, length-take-le}
use Rattle.std.proofs.lemmas.List.Folds.{drop_split}
use Rattle.std.proofs.lemmas.Int.Digits.{digits_push, digits_value_push}
use Rattle.std.proofs.lemmas.Bool.{ne_eqb, eq-eqb, eqb-true, lt-ltb, le-leb}
use Rattle.std.proofs.lemmas.Bool.Decides.{nat_tests}
use Rattle.std.specs.Char.{is_ascii_digit, digit_value}
use Rattle.std.specs.Float.{binary64, float_is_finite}
use Rattle.std.specs.Str.Parse.{AllDigits, digits_value}
use Rattle.fast_float.specs.Text.{Parts, scan, digits_of, nearest, with_sign, IsWellFormed}
use Rattle.fast_float.proofs.Writing.{scan-text_of}
use Rattle.json.specs.Token.{number}
use Rattle.json.specs.Lex.{token, lex, between, in_word, class, other}
use Rattle.json.specs.Word.{head, ends_word, after_minus, after_whole, after_fraction, after_exponent, after_number, number_before, word}
use Rattle.json.specs.Print.{IsNumber}
use Rattle.json.proofs.Printed.Numbers.{number_alone, lex-number}
use Rattle.serde_json.specs.Data.{Num, unsigned, negative, float}
use Rattle.serde_json.specs.Data as data_of
use Rattle.serde_json.specs.Find.{as_integer, of_integer}
use Rattle.serde_json.specs.Read.{number_of, number_from, max_depth, read}
use Rattle.json_scan.specs.Prelude.{Spells, begins_number}
use Rattle.json_scan.proofs.Lexemes.{word_ended, slice_more}
use Rattle.json_scan.proofs.Values.{token_spells, whole_document}

-- ---- a number is one lexeme

first_class : (x : ℕ) → begins_number x ≡ true → class x ≡ other
first_class x e = grind (arith, nat_tests)

no_letter : (x c : ℕ) → begins_number x ≡ true → 57 < c → (x == c) ≡ false
no_letter x c e h = grind (arith, nat_tests)

word_is : (t rest : List ℕ) → begins_number (head t) ≡ true → after_number t ≡ Some rest → ends_word rest ≡ true → word t ≡ number (take (length t - length rest) t)
unfolding word
word_is t rest first e ends = rw (no_letter (head t) 116 first (omega arith), no_letter (head t) 102 first (omega arith), no_letter (head t) 110 first (omega arith)) (ap (number_before t) e ∙ rw ends)

begun : (x : ℕ) (xs : List ℕ) → class x ≡ other → lex between (x ∷ xs) ≡ token (word (x ∷ xs)) ∷ lex in_word (x ∷ xs)
unfolding lex
begun x xs e = rw e

pub number_lexed : (d : List ℕ) (at end : ℕ) → at < length d → end ≤ length d → begins_number (get_or d at 0) ≡ true → after_number (drop at d) ≡ Some (drop end d)
    → lex in_word (drop end d) ≡ lex in_word (drop at d) → ends_word (drop end d) ≡ true → lex between (drop at d) ≡ token (number (slice_range d at end)) ∷ lex between (drop end d)
number_lexed d at end h within first e over ends =
    let from = drop_more d at 0 h in
    let long : length (drop at d) - length (drop end d) ≡ end - at = omega (arith, length-drop at d, length-drop end d) in
    let named : word (drop at d) ≡ number (slice_range d at end) = word_is (drop at d) (drop end d) (ap (λ t. begins_number (head t)) from ∙ first) e ends ∙ ap (λ n. number (take n (drop at d))) long in
    ap (lex between) from ∙ begun (get_or d at 0) (drop (at + 1) d) (first_class (get_or d at 0) first) ∙ ap (λ t. token (word t) ∷ lex in_word t) (sym from)
    ∙ ap₂ (λ k ls. token k ∷ ls) named (sym over ∙ word_ended (drop end d) ends)

-- ---- a whole number, which ends where its digits do

-- what ends a word is no point and no exponent
record Ended (t : List ℕ) : Type 0 where
  no_point : (head t == 46) ≡ false
  no_lower : (head t == 101) ≡ false
  no_upper : (head t == 69) ≡ false

ended : (t : List ℕ) → ends_word t ≡ true → Ended t
ended t e = record { no_point = grind (arith, nat_tests); no_lower = grind (arith, nat_tests); no_upper = grind (arith, nat_tests) }

pub whole_number : (t rest : List ℕ) → after_whole (after_minus t) ≡ Some rest → ends_word rest ≡ true → after_number t ≡ Some rest
unfolding after_number
whole_number t rest e ends =
    let s = ended rest ends in
    ap (λ o. option_and_then after_exponent (option_and_then after_fraction o)) e ∙ rw (s.no_point, s.no_lower, s.no_upper)

-- ---- the number of digits

abbrev digits : List ℕ → Parts
digits w = record { whole = w; point = false; fraction = []; exponent_negative = false; exponent = []; len = length (w ++ []) }

scanned : (w : List ℕ) → AllDigits 10 w → scan w ≡ digits w
scanned w all =
    let formed : IsWellFormed (digits w) = record { whole_digits = all; fraction_digits = tt; exponent_digits = tt; no_point = λ _. refl; no_exponent = λ _. refl; len_is = refl } in
    ap scan (sym (append-nil w)) ∙ scan-text_of (digits w) formed

value_is : (w : List ℕ) → digits_of (digits w) ≡ digits_value 10 w
value_is w = ap (digits_value 10) (append-nil w)

no_minus : (x : ℕ) → digit_value x < 10 → (x == 45) ≡ false
no_minus x h = ne_eqb x 45 (λ e. grind arith)

pub positive_number : (w : List ℕ) (n : ℕ) → 0 < length w → AllDigits 10 w → n ≡ digits_value 10 w → n < 2 ^ 64 → number_of w ≡ Some (unsigned n)
unfolding number_of
positive_number [] n some all e small = absurd (omega arith)
positive_number (x ∷ xs) n some all e small =
    let value : digits_of (digits (x ∷ xs)) ≡ n = value_is (x ∷ xs) ∙ sym e in
    rw (no_minus x all.0) (ap (number_from false) (scanned (x ∷ xs) all) ∙ rw (lt-ltb _ _ some) (rw value (rw (lt-ltb _ _ small))))

pub negative_number : (w : List ℕ) (n : ℕ) → 0 < length w → AllDigits 10 w → n ≡ digits_value 10 w → 0 < n → n ≤ 2 ^ 63 → number_of (45 ∷ w) ≡ Some (negative (with_sign true n))
unfolding number_of
negative_number w n some all e above small =
    let value : digits_of (digits w) ≡ n = value_is w ∙ sym e in
    ap (number_from true) (scanned w all) ∙ rw (lt-ltb _ _ some) (rw value (rw (lt-ltb _ _ above, le-leb _ _ small)))

-- ---- a finite number

chosen : (b : Bool) (a : Num) (o : Option Num) → ((m : Num) × (o ≡ Some m)) → (m : Num) × (cond b (Some a) o ≡ Some m)
chosen true a o h = (a, refl)
chosen false a o h = h

finite : (sign : Bool) (p : Parts) → float_is_finite (nearest binary64 sign p) ≡ true → (m : Num) × (number_from sign p ≡ Some m)
finite true p e = chosen _ _ _ (float (nearest binary64 true p), ap (λ b. cond b (Some (float (nearest binary64 true p))) None) e)
finite false p e = chosen _ _ _ (float (nearest binary64 false p), ap (λ b. cond b (Some (float (nearest binary64 false p))) None) e)

first_byte : (w : List ℕ) → (get_or w 0 0 == 45) ≡ (get_or w 0 32 == 45)
first_byte [] = refl
first_byte (x ∷ xs) = refl

pub finite_positive : (w : List ℕ) (p : Parts) → get_or w 0 32 ≢ 45 → p ≡ scan w → float_is_finite (nearest binary64 false p) ≡ true → (m : Num) × (number_of w ≡ Some m)
unfolding number_of
finite_positive w p first e f = let m = finite false p f in (m.0, rw (first_byte w ∙ ne_eqb _ _ first) (ap (number_from false) (sym e) ∙ m.1))

pub finite_negative : (w : List ℕ) (p : Parts) → get_or w 0 32 ≡ 45 → p ≡ scan (drop 1 w) → float_is_finite (nearest binary64 true p) ≡ true → (m : Num) × (number_of w ≡ Some m)
unfolding number_of
finite_negative w p first e f = let m = finite true p f in (m.0, rw (first_byte w ∙ eq-eqb _ _ first) (ap (number_from true) (sym e) ∙ m.1))

-- ---- a number by itself

pub no_lexemes : lex between [] ≡ []
unfolding lex
no_lexemes = refl

pub word_alone : (d : List ℕ) (at end : ℕ) (n : Num) → at ≤ end → after_number (drop at d) ≡ Some (drop end d) → ends_word (drop end d) ≡ true → number_of (slice_range d at end) ≡ Some n → read (slice_range d at end) ≡ Some (data_of.number n)
word_alone d at end n h e ends is =
    let w = slice_range d at end in
    let alone : IsNumber w = number_alone w (drop end d) ends (ap after_number (sym (drop_split d at end h)) ∙ e) in
    let lexed : lex between w ≡ token (number w) ∷ lex between [] = ap (lex between) (sym (append-nil w)) ∙ lex-number w [] alone refl in
    whole_document w [] (data_of.number n) (token_spells w [] (number w) (data_of.number n) lexed (ap (option_map data_of.number) is) max_depth) no_lexemes

-- ---- one more digit

is_digit_value : (x : ℕ) → is_ascii_digit x ≡ true → digit_value x ≡ x - 48
is_digit_value x e = grind (arith, nat_tests)

is_digit : (x : ℕ) → is_ascii_digit x ≡ true → digit_value x < 10
is_digit x e = grind (arith, nat_tests)

module _ (d : List ℕ) (at i : ℕ) (h : at ≤ i) (l : i < length d) (e : is_ascii_digit (get_or d i 0) ≡ true) where
  pub digits_more : AllDigits 10 (slice_range d at i) → AllDigits 10 (slice_range d at (i + 1))
  digits_more all = subst (AllDigits 10) (sym (slice_more d at i h l)) (digits_push 10 (slice_range d at i) (get_or d i 0) all (is_digit (get_or d i 0) e))

  pub value_more : (n m : ℕ) → n ≡ digits_value 10 (slice_range d at i) → m ≡ n * 10 + (get_or d i 0 - 48) → m ≡ digits_value 10 (slice_range d at (i + 1))
  value_more n m is more = more ∙ ap₂ (λ a b. a * 10 + b) is (sym (is_digit_value (get_or d i 0) e)) ∙ sym (digits_value_push 10 (slice_range d at i) (get_or d i 0)) ∙ ap (digits_value 10) (sym (slice_more d at i h l))

-- ---- the integer of a word

first_digit : (x : ℕ) → digit_value x < 10 → begins_number x ≡ true
first_digit x h = grind (arith, nat_tests)

slice_first : (d : List ℕ) (i end : ℕ) → i < end → end ≤ length d → slice_range d i end ≡ get_or d i 0 ∷ slice_range d (i + 1) end
slice_first d i end h within =
    let k : end - i ≡ suc (end - (i + 1)) = omega arith in
    ap (λ n. take n (drop i d)) k ∙ ap (take (suc (end - (i + 1)))) (drop_more d i 0 (omega arith))

below_zero : (n : ℕ) → 0 < n → negative (with_sign true n) ≡ of_integer (with_sign true n)
below_zero zero h = absurd (omega arith)
below_zero (suc n) h = refl

module _ (d : List ℕ) (at start first end n : ℕ) (same : lex between (drop start d) ≡ lex between (drop at d)) (minus : drop first d ≡ after_minus (drop start d)) (passed : lex in_word (drop first d) ≡ lex in_word (drop start d))
    (all : AllDigits 10 (slice_range d first end)) (value : n ≡ digits_value 10 (slice_range d first end)) (small : n < 2 ^ 64) (part : after_whole (drop first d) ≡ Some (drop end d)) (over : lex in_word (drop end d) ≡ lex in_word (drop first d))
    (some : first < end) (within : end ≤ length d) (ends : ends_word (drop end d) ≡ true) where
  lexed : start < end → begins_number (get_or d start 0) ≡ true → lex between (drop at d) ≡ token (number (slice_range d start end)) ∷ lex between (drop end d)
  lexed h begins = sym same ∙ number_lexed d start end (omega arith) within begins (whole_number (drop start d) (drop end d) (ap after_whole (sym minus) ∙ part) ends) (over ∙ passed) ends

  long : 0 < length (slice_range d first end)
  long = omega (arith, length-take-le (end - first) (drop first d) (omega (arith, length-drop first d)))

  pub positive_spells : start ≡ first → Spells (drop at d) (data_of.number (unsigned n)) (drop end d)
  positive_spells e =
      let digit : begins_number (get_or d first 0) ≡ true = first_digit (get_or d first 0) (subst (AllDigits 10) (slice_first d first end some within) all).0 in
      token_spells (drop at d) (drop end d) (number (slice_range d start end)) (data_of.number (unsigned n)) (lexed (omega arith) (ap (λ i. begins_number (get_or d i 0)) e ∙ digit))
      (ap (λ i. option_map data_of.number (number_of (slice_range d i end))) e ∙ ap (option_map data_of.number) (positive_number (slice_range d first end) n long all value small))

  pub negative_spells : get_or d start 0 ≡ 45 → first ≡ start + 1 → 0 < n → n ≤ 2 ^ 63 → Spells (drop at d) (data_of.number (negative (with_sign true n))) (drop end d)
  negative_spells sign e above low =
      let word : slice_range d start end ≡ 45 ∷ slice_range d first end = slice_first d start end (omega arith) within ∙ ap₂ (λ x i. x ∷ slice_range d i end) sign (sym e) in
      token_spells (drop at d) (drop end d) (number (slice_range d start end)) (data_of.number (negative (with_sign true n))) (lexed (omega arith) (ap begins_number sign))
      (ap (λ w. option_map data_of.number (number_of w)) word ∙ ap (option_map data_of.number) (negative_number (slice_range d first end) n long all value above low))

  -- a 0 after a minus is none, and below -2^63 there is none
  pub integer_spells : (b : Bool) → (get_or d start 32 == 45) ≡ b → first ≡ cond (get_or d start 32 == 45) (start + 1) start → (b ≡ true → (0 < n) × (n ≤ 2 ^ 63))
      → (m : Num) × (as_integer m ≡ Some (with_sign b n)) × Spells (drop at d) (data_of.number m) (drop end d) × (m ≡ of_integer (with_sign b n))
  integer_spells true e next range =
      let sign : first ≡ start + 1 = next ∙ ap (λ c. cond c (start + 1) start) e in
      let here : get_or d start 0 ≡ 45 = get_or_default d start 0 32 (omega arith) ∙ eqb-true (get_or d start 32) 45 e in
      (negative (with_sign true n), refl, negative_spells here sign (range refl).0 (range refl).1, below_zero n (range refl).0)
  integer_spells false e next range = (unsigned n, refl, positive_spells (sym (next ∙ ap (λ c. cond c (start + 1) start) e)), refl)
