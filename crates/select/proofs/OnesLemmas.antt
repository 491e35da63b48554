-- Rows whose bit is 1, a word at a time.
use Rattle.std.proofs.Common.{◌≡◌, ◌≢◌, ◌∙◌, ℕ, zero, suc, ◌+◌, ◌-◌, ◌*◌, ◌%◌, ◌^◌, ◌<◌, ◌≤◌, List, [], ◌∷◌, ◌++◌, length, map, filter, Bool, true, false, cond, nat_eq, bit_and, w64, Option, None, Some, inl, inr, refl, sym, ap, subst, arith, add-zero, zero-add, append-nil, get_or}
use Rattle.std.specs.Prelude.{count_by}
use Rattle.std.specs.List.{range_with_len}
use Rattle.std.specs.Int.{bit_not, trailing_zeros}
use Rattle.std.proofs.lemmas.Bool.{cases_lt}
use Rattle.std.proofs.lemmas.List.{get_or_past, length-map, map-append}
use Rattle.std.proofs.lemmas.List.Elements.{filter-append}
use Rattle.std.proofs.lemmas.List.Sums.{length-filter}
use Rattle.std.proofs.lemmas.Nat.Bits.{bit_at-trailing_zeros, bit_at-zero, bit_at_clear_other, bit_at_clear_same}
use Rattle.arrays.specs.Prelude.{bit_in, bit_of}
use Rattle.arrays.proofs.BitLemmas.{listed}
use Rattle.select.specs.Picked.{is_row, ones_left, rows_of_ones, rows_where}
use Rattle.select.proofs.ListLemmas.{get_or-map-any}

-- ---- numbers that a test passes

filter-same : (p q : ℕ → Bool) (a n : ℕ) → ((i : ℕ) → a ≤ i → i < a + n → p i ≡ q i) → filter p (range_with_len a n) ≡ filter q (range_with_len a n)
filter-same p q a zero same = refl
filter-same p q a (suc n) same =
    ap (λ b. cond b (a ∷ filter p (range_with_len (a + 1) n)) (filter p (range_with_len (a + 1) n))) (same a (omega arith) (omega arith))
    ∙ ap (λ l. cond (q a) (a ∷ l) l) (filter-same p q (a + 1) n (λ i low high. same i (omega (arith, low)) (omega (arith, high))))

filter-none : (p : ℕ → Bool) (a n : ℕ) → ((i : ℕ) → a ≤ i → i < a + n → p i ≡ false) → filter p (range_with_len a n) ≡ []
filter-none p a zero none = refl
filter-none p a (suc n) none =
    ap (λ b. cond b (a ∷ filter p (range_with_len (a + 1) n)) (filter p (range_with_len (a + 1) n))) (none a (omega arith) (omega arith))
    ∙ filter-none p (a + 1) n (λ i low high. none i (omega (arith, low)) (omega (arith, high)))

range-append : (a n m : ℕ) → range_with_len a (n + m) ≡ range_with_len a n ++ range_with_len (a + n) m
range-append a zero m = ap (range_with_len a) (zero-add m) ∙ ap (λ b. range_with_len b m) (sym (add-zero a))
range-append a (suc n) m =
    let more : suc n + m ≡ suc (n + m) = omega arith in
    let next : a + 1 + n ≡ a + suc n = omega arith in
    ap (range_with_len a) more
    ∙ ap (λ l. a ∷ l) (range-append (a + 1) n m)
    ∙ ap (λ b. a ∷ (range_with_len (a + 1) n ++ range_with_len b m)) next

-- the first of them, and those that pass when it doesn't any more
filter-first : (p q : ℕ → Bool) (a n t : ℕ) → a ≤ t → t < a + n → p t ≡ true → q t ≡ false → ((i : ℕ) → a ≤ i → i < t → p i ≡ false)
    → ((i : ℕ) → a ≤ i → i < a + n → i ≢ t → q i ≡ p i) → filter p (range_with_len a n) ≡ t ∷ filter q (range_with_len a n)
filter-first p q a zero t low high is isnt before other = absurd (omega (arith, low, high))
filter-first p q a (suc n) t low high is isnt before other =
    let rest_p = filter p (range_with_len (a + 1) n) in
    let rest_q = filter q (range_with_len (a + 1) n) in
    elim (cases_lt a t) [
      | inl below ↦ (
          let none : p a ≡ false = before a (omega arith) below in
          let none_q : q a ≡ false = other a (omega arith) (omega arith) (λ same. absurd (omega (arith, same, below))) ∙ none in
          ap (λ b. cond b (a ∷ rest_p) rest_p) none
          ∙ filter-first p q (a + 1) n t (omega (arith, below)) (omega (arith, high)) is isnt (λ i from to. before i (omega (arith, from)) to)
          (λ i from to. other i (omega (arith, from)) (omega (arith, to)))
          ∙ ap (λ b. t ∷ cond b (a ∷ rest_q) rest_q) (sym none_q))
      | inr past ↦ (
          let same : t ≡ a = omega (arith, low, past) in
          ap (λ b. cond b (a ∷ rest_p) rest_p) (ap p (sym same) ∙ is)
          ∙ ap (λ l. a ∷ l) (filter-same p q (a + 1) n (λ i from to. sym (other i (omega (arith, from)) (omega (arith, to)) (λ e. absurd (omega (arith, e, same, from))))))
          ∙ ap (λ b. a ∷ cond b (a ∷ rest_q) rest_q) (sym (ap q (sym same) ∙ isnt))
          ∙ ap (λ x. x ∷ cond (q a) (a ∷ rest_q) rest_q) (sym same))
    ]

-- ---- rows that a test passes

pub rows_where-append : (test : ℕ → Bool) (a n m : ℕ) → rows_where test a (n + m) ≡ rows_where test a n ++ rows_where test (a + n) m
unfolding rows_where
rows_where-append test a n m =
    ap (λ l. map (λ i. Some i) (filter test l)) (range-append a n m)
    ∙ ap (map (λ i. Some i)) (filter-append test (range_with_len a n) (range_with_len (a + n) m))
    ∙ map-append (λ i. Some i) (filter test (range_with_len a n)) (filter test (range_with_len (a + n) m))

rows_where-same : (p q : ℕ → Bool) (a n : ℕ) → ((i : ℕ) → a ≤ i → i < a + n → p i ≡ q i) → rows_where p a n ≡ rows_where q a n
unfolding rows_where
rows_where-same p q a n same = ap (map (λ i. Some i)) (filter-same p q a n same)

rows_where-none : (p : ℕ → Bool) (a n : ℕ) → ((i : ℕ) → a ≤ i → i < a + n → p i ≡ false) → rows_where p a n ≡ []
unfolding rows_where
rows_where-none p a n none = ap (map (λ i. Some i)) (filter-none p a n none)

rows_where-first : (p q : ℕ → Bool) (a n t : ℕ) → a ≤ t → t < a + n → p t ≡ true → q t ≡ false → ((i : ℕ) → a ≤ i → i < t → p i ≡ false)
    → ((i : ℕ) → a ≤ i → i < a + n → i ≢ t → q i ≡ p i) → rows_where p a n ≡ Some t ∷ rows_where q a n
unfolding rows_where
rows_where-first p q a n t low high is isnt before other = ap (map (λ i. Some i)) (filter-first p q a n t low high is isnt before other)

pub rows_where-nothing : (test : ℕ → Bool) (a : ℕ) → rows_where test a 0 ≡ []
unfolding rows_where
rows_where-nothing test a = refl

one_row : (test : ℕ → Bool) (a n : ℕ) → a ≡ n → rows_where test a 1 ≡ cond (test n) (Some n ∷ []) []
unfolding rows_where
one_row test a n same = ap (λ m. map (λ i. Some i) (cond (test m) (m ∷ []) [])) same ∙ by (test n)
  where
    by : (b : Bool) → map (λ i. Some i) (cond b (n ∷ []) []) ≡ cond b (Some n ∷ []) []
    by true = refl
    by false = refl

-- one row more
pub rows_where-more : (test : ℕ → Bool) (n : ℕ) → rows_where test 0 (n + 1) ≡ rows_where test 0 n ++ cond (test n) (Some n ∷ []) []
rows_where-more test n = rows_where-append test 0 n 1 ∙ ap (λ l. rows_where test 0 n ++ l) (one_row test (0 + n) n (zero-add n))

-- ---- rows of bits

no_bit : (bits : List Bool) (i : ℕ) → length bits ≤ i → bit_of bits i ≡ false
no_bit bits i past = get_or_past bits i false past

-- the rows of a word, and those of the bits behind it, are those of the bits from the word on
word_reported : (bits : List Bool) (a word : ℕ) → ((j : ℕ) → j < 64 → bit_in word j ≡ bit_of bits (a + j))
    → rows_where (λ i. bit_in word (i - a)) a 64 ++ rows_where (bit_of bits) (a + 64) (length bits) ≡ rows_where (bit_of bits) a (length bits)
word_reported bits a word reported =
    let n = length bits in
    let turn : 64 + n ≡ n + 64 = omega arith in
    ap (λ l. l ++ rows_where (bit_of bits) (a + 64) n)
    (rows_where-same (λ i. bit_in word (i - a)) (bit_of bits) a 64
    (λ i low high. reported (i - a) (omega (arith, low, high)) ∙ ap (bit_of bits) (back a i low)))
    ∙ sym (rows_where-append (bit_of bits) a 64 n)
    ∙ ap (rows_where (bit_of bits) a) turn
    ∙ rows_where-append (bit_of bits) a n 64
    ∙ ap (λ l. rows_where (bit_of bits) a n ++ l) (rows_where-none (bit_of bits) (a + n) 64 (λ i low high. no_bit bits i (omega (arith, low))))
    ∙ append-nil (rows_where (bit_of bits) a n)
  where
    back : (a i : ℕ) → a ≤ i → a + (i - a) ≡ i
    back a i low = omega (arith, low)

-- before the first word all rows are left
pub all_left : (bits : List Bool) (word : ℕ) → ((j : ℕ) → j < 64 → bit_in word j ≡ bit_of bits (0 + j)) → ones_left bits 0 word ≡ rows_of_ones bits
all_left bits word reported = word_reported bits 0 word reported

-- a word without ones has no rows
none_left : (bits : List Bool) (at word : ℕ) → word ≡ 0 → ones_left bits at word ≡ rows_where (bit_of bits) (64 * at + 64) (length bits)
none_left bits at word none =
    ap (λ l. l ++ rows_where (bit_of bits) (64 * at + 64) (length bits))
    (rows_where-none (λ i. bit_in word (i - 64 * at)) (64 * at) 64 (λ i low high. ap (λ w. bit_in w (i - 64 * at)) none ∙ ap (λ b. nat_eq b 1) (bit_at-zero (i - 64 * at))))

-- where rows are left behind a word without ones, bits are
pub bits_left : (bits : List Bool) (at word : ℕ) → word ≡ 0 → 0 < length (ones_left bits at word) → 64 * at + 64 < length bits
bits_left bits at word none some =
    elim (cases_lt (64 * at + 64) (length bits)) [
      | inl below ↦ below
      | inr past ↦ absurd (omega (
        arith,
        some,
        ap (λ (l : List (Option ℕ)). length l) (none_left bits at word none ∙ rows_where-none (bit_of bits) (64 * at + 64) (length bits) (λ i low high. no_bit bits i (omega (arith, low, past)))),
      ))
    ]

-- the same where so much is left as was
pub more_bits : (bits : List Bool) (at word at_first first : ℕ) → ones_left bits at word ≡ ones_left bits at_first first → 0 < length (ones_left bits at_first first) → word ≡ 0 → 64 * at + 64 < length bits
more_bits bits at word at_first first same some none =
    bits_left bits at word none (subst (λ (l : List (Option ℕ)). 0 < length l) (sym same) some)

-- the next word
pub next_left : (bits : List Bool) (at word next : ℕ) → word ≡ 0 → ((j : ℕ) → j < 64 → bit_in next j ≡ bit_of bits (64 * (at + 1) + j)) → ones_left bits (at + 1) next ≡ ones_left bits at word
next_left bits at word next none reported =
    let same : 64 * (at + 1) ≡ 64 * at + 64 = omega arith in
    word_reported bits (64 * (at + 1)) next reported ∙ ap (λ a. rows_where (bit_of bits) a (length bits)) same ∙ sym (none_left bits at word none)

-- the first one of a word
pub record IsFirstOne (word j : ℕ) : Type 0 where
  pub inside : j < 64
  pub here : bit_in word j ≡ true
  pub before : (i : ℕ) → i < j → bit_in word i ≡ false

pub first_one : (word : ℕ) → 0 < word → word < 2 ^ 64 → IsFirstOne word (trailing_zeros w64 word)
first_one word some fits =
    let is = bit_at-trailing_zeros w64 word some fits in
    record { inside = is.0; here = ap (λ b. nat_eq b 1) is.1; before = λ i below. ap (λ b. nat_eq b 1) (is.2 i below) }

pub one_reported : (bits : List Bool) (at word j : ℕ) → IsFirstOne word j → ones_left bits at word ≡ Some (64 * at + j) ∷ ones_left bits at (bit_and word (bit_not w64 (1 * 2 ^ j % 2 ^ 64)))
one_reported bits at word j first =
    let a = 64 * at in
    let less = bit_and word (bit_not w64 (1 * 2 ^ j % 2 ^ 64)) in
    let place : a + j - a ≡ j = omega arith in
    ap (λ l. l ++ rows_where (bit_of bits) (a + 64) (length bits))
    (rows_where-first (λ i. bit_in word (i - a)) (λ i. bit_in less (i - a)) a 64 (a + j) (omega arith) (omega (arith, first.inside))
    (ap (bit_in word) place ∙ first.here)
    (ap (bit_in less) place ∙ ap (λ b. nat_eq b 1) (bit_at_clear_same w64 word j first.inside))
    (λ i low high. first.before (i - a) (omega (arith, low, high)))
    (λ i low high other. ap (λ b. nat_eq b 1) (bit_at_clear_other w64 word j first.inside (i - a) (omega (arith, low, high)) (λ same. absurd (other (again a i j low same))))))
  where
    again : (a i j : ℕ) → a ≤ i → i - a ≡ j → i ≡ a + j
    again a i j low same = omega (arith, low, same)

-- ---- how many rows there are

ones-filtered : (f : ℕ → Bool) (xs : List ℕ) → length (filter (λ b. b) (map f xs)) ≡ length (filter f xs)
ones-filtered f [] = refl
ones-filtered f (x ∷ xs) = by (f x) (ones-filtered f xs)
  where
    by : (b : Bool) → length (filter (λ b. b) (map f xs)) ≡ length (filter f xs) → length (cond b (b ∷ filter (λ b. b) (map f xs)) (filter (λ b. b) (map f xs))) ≡ length (cond b (x ∷ filter f xs) (filter f xs))
    by true same = omega (arith, same)
    by false same = same

pub length-rows_of_ones : (bits : List Bool) → length (rows_of_ones bits) ≡ count_by (λ b. b) bits
unfolding rows_where
length-rows_of_ones bits =
    let rows = range_with_len 0 (length bits) in
    length-map (filter (bit_of bits) rows) (λ i. Some i)
    ∙ sym (ones-filtered (bit_of bits) rows)
    ∙ length-filter (λ b. b) (map (bit_of bits) rows)
    ∙ ap (count_by (λ b. b)) (listed bits)

-- each of them is a row
pub one-row : (bits : List Bool) (j : ℕ) → j < length (rows_of_ones bits) → is_row (get_or (rows_of_ones bits) j None) ≡ true
unfolding rows_where
one-row bits j below =
    let xs = filter (bit_of bits) (range_with_len 0 (length bits)) in
    ap is_row (get_or-map-any (λ i. Some i) xs j None 0 (omega (arith, below, length-map xs (λ (i : ℕ). Some i))))
