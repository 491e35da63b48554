-- Tests of rows 0, 1, ..: whether some row passes, the least that does, and how many do.
use Rattle.std.proofs.Common.{◌≡◌, ℕ, zero, suc, ◌+◌, ◌-◌, ◌<◌, ◌∙◌, Bool, true, false, ◌||◌, ◌&&◌, not, cond, List, Some, None, length, map, take, drop, nat_lt, ap, refl, subst, arith, lt-ltb, le-ltb, ltb-true, IsTrue, IsUtf8, IsCharBoundary, ◌↔◌}
use Rattle.std.specs.List.{list_any, range_with_len, position_or_len, count_by}
use Rattle.std.proofs.lemmas.List.FromFn.{length-range_with_len}
use Rattle.std.specs.Str.{is_utf8}
use Rattle.std.proofs.lemmas.Bool.Decides.{same_from_decides}
use Rattle.std.proofs.lemmas.List.Sums.{sum_by-cons}
use Rattle.std.proofs.lemmas.Bool.{ltb-false}
use Rattle.std.proofs.Math.Bool.{and-false}
use Rattle.std.proofs.lemmas.Str.{IsUtf8-from_is_utf8, is_utf8-from_IsUtf8, IsUtf8-nil, IsUtf8-between}
use Rattle.colbits.specs.Prelude.{bit, bits, slice}
use Rattle.types.specs.declared.offset_width.OffsetWidth.{OffsetWidth}
use Rattle.layout.specs.Prelude.{Buffers, buffer_at, bytes_at, is_no_text, is_valid, is_valid_in, least_row, null_count, slot_at, start_at}

-- every row from a on that is below n fails
abbrev pub AllFail : (ℕ → Bool) → ℕ → ℕ → Type 0
AllFail test a n = (k : ℕ) → k < n → test (a + k) ≡ false

-- ---- some row

any_found_from : (test : ℕ → Bool) (a n j : ℕ) → j < n → test (a + j) ≡ true → list_any test (range_with_len a n) ≡ true
any_found_from test a zero j h e = absurd (omega arith)
any_found_from test a (suc n) zero h e = ap (λ b. b || list_any test (range_with_len (a + 1) n)) (ap test (omega arith) ∙ e)
any_found_from test a (suc n) (suc j) h e =
    let there = any_found_from test (a + 1) n j (omega arith) (ap test (omega arith) ∙ e) in
    elim (test a) as (λ v. (v || list_any test (range_with_len (a + 1) n)) ≡ true) [ true ↦ refl | false ↦ there ]

any_none_from : (test : ℕ → Bool) (a n : ℕ) → AllFail test a n → list_any test (range_with_len a n) ≡ false
any_none_from test a zero h = refl
any_none_from test a (suc n) h =
    ap (λ b. b || list_any test (range_with_len (a + 1) n)) (ap test (omega arith) ∙ h 0 (omega arith))
    ∙ any_none_from test (a + 1) n (λ k below. ap test (omega arith) ∙ h (suc k) (omega arith))

-- ---- the least row

length_before : (test : ℕ → Bool) (a n j : ℕ) → j < n → test (a + j) ≡ true → AllFail test a j → position_or_len test (range_with_len a n) ≡ j
length_before test a zero j h e before = absurd (omega arith)
length_before test a (suc n) zero h e before =
    ap (λ b. cond (not b) (1 + position_or_len test (range_with_len (a + 1) n)) 0) (ap test (omega arith) ∙ e)
length_before test a (suc n) (suc j) h e before =
    ap (λ b. cond (not b) (1 + position_or_len test (range_with_len (a + 1) n)) 0) (ap test (omega arith) ∙ before 0 (omega arith))
    ∙ ap (λ m. 1 + m) (length_before test (a + 1) n j (omega arith) (ap test (omega arith) ∙ e) (λ k below. ap test (omega arith) ∙ before (suc k) (omega arith)))
    ∙ omega arith

length_all : (test : ℕ → Bool) (a n : ℕ) → AllFail test a n → position_or_len test (range_with_len a n) ≡ n
length_all test a zero h = refl
length_all test a (suc n) h =
    ap (λ b. cond (not b) (1 + position_or_len test (range_with_len (a + 1) n)) 0) (ap test (omega arith) ∙ h 0 (omega arith))
    ∙ ap (λ m. 1 + m) (length_all test (a + 1) n (λ k below. ap test (omega arith) ∙ h (suc k) (omega arith)))
    ∙ omega arith

-- ---- from row 0

pub any_found : (test : ℕ → Bool) (n j : ℕ) → j < n → test j ≡ true → list_any test (range_with_len 0 n) ≡ true
any_found test n j h e = any_found_from test 0 n j h (ap test (omega arith) ∙ e)

pub any_none : (test : ℕ → Bool) (n : ℕ) → ((k : ℕ) → k < n → test k ≡ false) → list_any test (range_with_len 0 n) ≡ false
any_none test n h = any_none_from test 0 n (λ k below. ap test (omega arith) ∙ h k below)

pub least_found : (test : ℕ → Bool) (n j : ℕ) → j < n → test j ≡ true → ((k : ℕ) → k < j → test k ≡ false) → least_row test n ≡ Some j
least_found test n j h e before =
    let place = length_before test 0 n j h (ap test (omega arith) ∙ e) (λ k below. ap test (omega arith) ∙ before k below) in
    ap (λ m. cond (nat_lt m (length (range_with_len 0 n))) (Some m) None) place
    ∙ ap (λ b. cond b (Some j) None) (lt-ltb j (length (range_with_len 0 n)) (omega (arith, length-range_with_len 0 n)))

pub least_none : (test : ℕ → Bool) (n : ℕ) → ((k : ℕ) → k < n → test k ≡ false) → least_row test n ≡ None
least_none test n h =
    let place = length_all test 0 n (λ k below. ap test (omega arith) ∙ h k below) in
    ap (λ m. cond (nat_lt m (length (range_with_len 0 n))) (Some m) None) place
    ∙ ap (λ b. cond b (Some n) None) (le-ltb n (length (range_with_len 0 n)) (omega (arith, length-range_with_len 0 n)))

-- ---- how many rows

-- no row of none counts
pub count_none : (a n : ℕ) → count_by (λ (j : ℕ). false) (range_with_len a n) ≡ 0
count_none a zero = refl
count_none a (suc n) = count_none (a + 1) n

-- ---- slots

-- no slot is null where there is no bitmap
pub null_count-absent : (buffers : Buffers) (n : ℕ) → buffer_at buffers 0 ≡ None → null_count n buffers ≡ 0
null_count-absent buffers n absent =
    ap (λ h. count_by (λ j. not (is_valid_in h j)) (range_with_len 0 n)) absent ∙ count_none 0 n

-- the test of a text, by what a test of UTF-8 tells
pub is_utf8-same : (b : Bool) (bytes : List ℕ) → IsTrue b ↔ IsUtf8 bytes → b ≡ is_utf8 bytes
is_utf8-same b bytes h = same_from_decides b (is_utf8 bytes) h (IsUtf8-from_is_utf8 bytes, is_utf8-from_IsUtf8 bytes)

-- the slots of zeros are those that aren't ones
zeros_from : (bytes : List ℕ) (a n : ℕ) → count_by (λ b. b) (map (bit bytes) (range_with_len a n)) + count_by (λ j. not (bit bytes j)) (range_with_len a n) ≡ n
zeros_from bytes a zero = refl
zeros_from bytes a (suc n) =
    let ones = sum_by-cons (λ b. cond b 1 0) (bit bytes a) (map (bit bytes) (range_with_len (a + 1) n)) in
    let zeros = sum_by-cons (λ j. cond (not (bit bytes j)) 1 0) a (range_with_len (a + 1) n) in
    let rest = zeros_from bytes (a + 1) n in
    one_of (bit bytes a) _ _ _ _ n ones zeros rest
  where
    one_of : (b : Bool) (x y p q n : ℕ) → x ≡ cond b 1 0 + p → y ≡ cond (not b) 1 0 + q → p + q ≡ n → x + y ≡ suc n
    one_of true x y p q n e f g = omega arith
    one_of false x y p q n e f g = omega arith

pub zeros-bits : (bytes : List ℕ) (n : ℕ) → n - count_by (λ b. b) (bits bytes 0 n) ≡ count_by (λ j. not (bit bytes j)) (range_with_len 0 n)
unfolding bits
zeros-bits bytes n =
    let whole = zeros_from bytes 0 n in
    omega arith

-- ---- texts

-- what lies between two places of a text at which a character begins is a text, and so is nothing
utf8-between : (bytes : List ℕ) (s e : ℕ) (b : Bool) → nat_lt e s ≡ b → IsUtf8 bytes → IsCharBoundary bytes s → IsCharBoundary bytes e
    → IsUtf8 (slice bytes s (e - s))
utf8-between bytes s e true falls text begins ends =
    let below : e < s = ltb-true e s falls in
    let none : 0 ≡ e - s = omega arith in
    subst (λ k. IsUtf8 (take k (drop s bytes))) none IsUtf8-nil
utf8-between bytes s e false rises text begins ends = IsUtf8-between bytes s e text (ltb-false e s rises) begins ends

pub text-between : (w : OffsetWidth) (offsets bytes : List ℕ) (j : ℕ) → IsUtf8 bytes → IsCharBoundary bytes (start_at w offsets j) → IsCharBoundary bytes (start_at w offsets (j + 1))
    → is_utf8 (slot_at w offsets bytes j) ≡ true
text-between w offsets bytes j text begins ends =
    let s = start_at w offsets j in
    let e = start_at w offsets (j + 1) in
    is_utf8-from_IsUtf8 (slot_at w offsets bytes j) (utf8-between bytes s e (nat_lt e s) refl text begins ends)

-- a slot whose bytes are a text is one, valid or not
pub no_text-of_text : (w : OffsetWidth) (buffers : Buffers) (j : ℕ) → is_utf8 (slot_at w (bytes_at buffers 1) (bytes_at buffers 2) j) ≡ true → is_no_text w buffers j ≡ false
no_text-of_text w buffers j text = ap (λ b. is_valid buffers j && not b) text ∙ and-false (is_valid buffers j)
