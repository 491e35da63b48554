-- Rows that are true, a word at a time.
use Rattle.std.proofs.Common.{◌≡◌, ◌≢◌, ◌∙◌, ℕ, zero, suc, ◌+◌, ◌-◌, ◌*◌, ◌/◌, ◌%◌, ◌^◌, ◌<◌, ◌≤◌, ◌&&◌, List, [], ◌∷◌, ◌++◌, length, map, filter, take, drop, Bool, true, false, cond, nat_eq, bit_and, w64, Option, inl, inr, refl, sym, ap, arith, add-zero, append_assoc, zero-add, append-nil, count_by}
use Rattle.std.specs.List.{range_with_len}
use Rattle.std.specs.Int.{bit_not, trailing_zeros}
use Rattle.std.specs.Int.RustNames.{count_ones}
use Rattle.std.proofs.lemmas.Bool.{cases_lt}
use Rattle.std.proofs.lemmas.List.{get_or_past, map-append}
use Rattle.std.proofs.lemmas.List.Elements.{filter-append}
use Rattle.std.proofs.lemmas.List.FromFn.{get_or-map-range_with_len, length-map-range_with_len}
use Rattle.std.proofs.lemmas.List.Sums.{length-filter}
use Rattle.std.proofs.lemmas.Nat.Bits.{bit_at-trailing_zeros, bit_at-zero, bit_at_clear_other, bit_at_clear_same}
use Rattle.arrays.specs.Prelude.{HasBits, Item, Seen, bit_in, bit_of, boolean, item_at, null, valid_at, valid_in}
use Rattle.arrays.proofs.WordLemmas.{ones-rest}
use Rattle.answers.specs.Prelude.{is_set, keeps_item, ones_of, set_rows}

-- ---- numbers that a test passes

filter-same : (p q : ℕ → Bool) (a n : ℕ) → ((i : ℕ) → a ≤ i → i < a + n → p i ≡ q i) → filter p (range_with_len a n) ≡ filter q (range_with_len a n)
filter-same p q a zero same = refl
filter-same p q a (suc n) same =
    ap (λ b. cond b (a ∷ filter p (range_with_len (a + 1) n)) (filter p (range_with_len (a + 1) n))) (same a (omega arith) (omega arith))
    ∙ ap (λ l. cond (q a) (a ∷ l) l) (filter-same p q (a + 1) n (λ i low high. same i (omega (arith, low)) (omega (arith, high))))

filter-none : (p : ℕ → Bool) (a n : ℕ) → ((i : ℕ) → a ≤ i → i < a + n → p i ≡ false) → filter p (range_with_len a n) ≡ []
filter-none p a zero none = refl
filter-none p a (suc n) none =
    ap (λ b. cond b (a ∷ filter p (range_with_len (a + 1) n)) (filter p (range_with_len (a + 1) n))) (none a (omega arith) (omega arith))
    ∙ filter-none p (a + 1) n (λ i low high. none i (omega (arith, low)) (omega (arith, high)))

pub range-append : (a n m : ℕ) → range_with_len a (n + m) ≡ range_with_len a n ++ range_with_len (a + n) m
range-append a zero m = ap (range_with_len a) (zero-add m) ∙ ap (λ b. range_with_len b m) (sym (add-zero a))
range-append a (suc n) m =
    let more : suc n + m ≡ suc (n + m) = omega arith in
    let next : a + 1 + n ≡ a + suc n = omega arith in
    ap (range_with_len a) more
    ∙ ap (λ l. a ∷ l) (range-append (a + 1) n m)
    ∙ ap (λ b. a ∷ (range_with_len (a + 1) n ++ range_with_len b m)) next

-- the first of them, and those that pass when it doesn't any more
filter-first : (p q : ℕ → Bool) (a n t : ℕ) → a ≤ t → t < a + n → p t ≡ true → q t ≡ false → ((i : ℕ) → a ≤ i → i < t → p i ≡ false)
    → ((i : ℕ) → a ≤ i → i < a + n → i ≢ t → q i ≡ p i) → filter p (range_with_len a n) ≡ t ∷ filter q (range_with_len a n)
filter-first p q a zero t low high is isnt before other = absurd (omega (arith, low, high))
filter-first p q a (suc n) t low high is isnt before other =
    let rest_p = filter p (range_with_len (a + 1) n) in
    let rest_q = filter q (range_with_len (a + 1) n) in
    elim (cases_lt a t) [
      | inl below ↦ (
          let none : p a ≡ false = before a (omega arith) below in
          let none_q : q a ≡ false = other a (omega arith) (omega arith) (λ same. absurd (omega (arith, same, below))) ∙ none in
          ap (λ b. cond b (a ∷ rest_p) rest_p) none
          ∙ filter-first p q (a + 1) n t (omega (arith, below)) (omega (arith, high)) is isnt (λ i from to. before i (omega (arith, from)) to)
          (λ i from to. other i (omega (arith, from)) (omega (arith, to)))
          ∙ ap (λ b. t ∷ cond b (a ∷ rest_q) rest_q) (sym none_q))
      | inr past ↦ (
          let same : t ≡ a = omega (arith, low, past) in
          ap (λ b. cond b (a ∷ rest_p) rest_p) (ap p (sym same) ∙ is)
          ∙ ap (λ l. a ∷ l) (filter-same p q (a + 1) n (λ i from to. sym (other i (omega (arith, from)) (omega (arith, to)) (λ e. absurd (omega (arith, e, same, from))))))
          ∙ ap (λ b. a ∷ cond b (a ∷ rest_q) rest_q) (sym (ap q (sym same) ∙ isnt))
          ∙ ap (λ x. x ∷ cond (q a) (a ∷ rest_q) rest_q) (sym same))
    ]

-- numbers counted from another place
shifted : (test p : ℕ → Bool) (first n a m : ℕ) → ((j : ℕ) → a ≤ j → j < a + m → p j ≡ test (n + j))
    → map (λ i. first + i) (filter test (range_with_len (n + a) m)) ≡ map (λ j. first + n + j) (filter p (range_with_len a m))
shifted test p first n a zero same = refl
shifted test p first n a (suc m) same =
    let next : n + a + 1 ≡ n + (a + 1) = omega arith in
    let rest = ap (λ b. map (λ i. first + i) (filter test (range_with_len b m))) next
    ∙ shifted test p first n (a + 1) m (λ j low high. same j (omega (arith, low)) (omega (arith, high))) in
    let left = filter test (range_with_len (n + a + 1) m) in
    ap (λ b. map (λ i. first + i) (cond b ((n + a) ∷ left) left)) (sym (same a (omega arith) (omega arith)))
    ∙ by (p a) left (filter p (range_with_len (a + 1) m)) rest
  where
    by : (b : Bool) (xs ys : List ℕ) → map (λ i. first + i) xs ≡ map (λ j. first + n + j) ys
        → map (λ i. first + i) (cond b ((n + a) ∷ xs) xs) ≡ map (λ j. first + n + j) (cond b (a ∷ ys) ys)
    by true xs ys e =
        let here : first + (n + a) ≡ first + n + a = omega arith in
        ap (λ x. x ∷ map (λ i. first + i) xs) here ∙ ap (λ l. (first + n + a) ∷ l) e
    by false xs ys e = e

-- a word more
pub places-more : (test : ℕ → Bool) (first n word : ℕ) → ((j : ℕ) → j < 64 → bit_in word j ≡ test (n + j))
    → map (λ i. first + i) (filter test (range_with_len 0 (n + 64))) ≡ map (λ i. first + i) (filter test (range_with_len 0 n)) ++ map (λ j. first + n + j) (ones_of word)
places-more test first n word reported =
    let before = map (λ i. first + i) (filter test (range_with_len 0 n)) in
    ap (λ l. map (λ i. first + i) (filter test l)) (range-append 0 n 64)
    ∙ ap (map (λ i. first + i)) (filter-append test (range_with_len 0 n) (range_with_len (0 + n) 64))
    ∙ map-append (λ i. first + i) (filter test (range_with_len 0 n)) (filter test (range_with_len (0 + n) 64))
    ∙ ap (λ m. before ++ map (λ i. first + i) (filter test (range_with_len m 64))) (zero-add n ∙ sym (add-zero n))
    ∙ ap (λ l. before ++ l) (shifted test (bit_in word) first n 0 64 (λ j low high. reported j (omega (arith, high))))

-- what comes past the last that passes
pub places-whole : (test : ℕ → Bool) (len m : ℕ) → len ≤ m → ((i : ℕ) → len ≤ i → test i ≡ false) → filter test (range_with_len 0 m) ≡ filter test (range_with_len 0 len)
places-whole test len m long past =
    let rest : m ≡ len + (m - len) = omega (arith, long) in
    ap (λ k. filter test (range_with_len 0 k)) rest
    ∙ ap (filter test) (range-append 0 len (m - len))
    ∙ filter-append test (range_with_len 0 len) (range_with_len (0 + len) (m - len))
    ∙ ap (λ l. filter test (range_with_len 0 len) ++ l) (filter-none test (0 + len) (m - len) (λ i low high. past i (omega (arith, low))))
    ∙ append-nil (filter test (range_with_len 0 len))

-- ---- the ones of a word

-- the first one of a word
pub record IsFirstOne (word j : ℕ) : Type 0 where
  pub inside : j < 64
  pub here : bit_in word j ≡ true
  pub before : (i : ℕ) → i < j → bit_in word i ≡ false

pub first_one : (word : ℕ) → 0 < word → word < 2 ^ 64 → IsFirstOne word (trailing_zeros w64 word)
first_one word some fits =
    let is = bit_at-trailing_zeros w64 word some fits in
    record { inside = is.0; here = ap (λ b. nat_eq b 1) is.1; before = λ i below. ap (λ b. nat_eq b 1) (is.2 i below) }

pub one_reported : (word j : ℕ) → IsFirstOne word j → ones_of word ≡ j ∷ ones_of (bit_and word (bit_not w64 (1 * 2 ^ j % 2 ^ 64)))
one_reported word j first =
    let less = bit_and word (bit_not w64 (1 * 2 ^ j % 2 ^ 64)) in
    filter-first (bit_in word) (bit_in less) 0 64 j (omega arith) (omega (arith, first.inside)) first.here
    (ap (λ b. nat_eq b 1) (bit_at_clear_same w64 word j first.inside))
    (λ i low high. first.before i high)
    (λ i low high other. ap (λ b. nat_eq b 1) (bit_at_clear_other w64 word j first.inside i (omega (arith, high)) other))

pub no_ones : (word : ℕ) → word ≡ 0 → ones_of word ≡ []
no_ones word none = filter-none (bit_in word) 0 64 (λ i low high. ap (λ w. bit_in w i) none ∙ ap (λ b. nat_eq b 1) (bit_at-zero i))

-- the first one is put to the places, and the others are left
pub one_put : (first word j : ℕ) (before places : List ℕ) → IsFirstOne word j → places ≡ before ++ (first + j) ∷ []
    → places ++ map (λ i. first + i) (ones_of (bit_and word (bit_not w64 (1 * 2 ^ j % 2 ^ 64)))) ≡ before ++ map (λ i. first + i) (ones_of word)
one_put first word j before places is put =
    let rest = map (λ i. first + i) (ones_of (bit_and word (bit_not w64 (1 * 2 ^ j % 2 ^ 64)))) in
    ap (λ l. l ++ rest) put ∙ append_assoc before ((first + j) ∷ []) rest
    ∙ ap (λ l. before ++ map (λ i. first + i) l) (sym (one_reported word j is))

-- ---- rows that are set

pub not_set : (validity : Option (List Bool)) (bits : List Bool) (i : ℕ) → length bits ≤ i → is_set validity bits i ≡ false
not_set validity bits i past = ap (λ b. valid_in validity i && b) (get_or_past bits i false past) ∙ by (valid_in validity i)
  where
    by : (b : Bool) → (b && false) ≡ false
    by true = refl
    by false = refl

-- Whether each row is true.
abbrev pub reported : Option (List Bool) → List Bool → List Bool
reported validity bits = map (is_set validity bits) (range_with_len 0 (length bits))

pub cell_of_group : (validity : Option (List Bool)) (bits : List Bool) (i : ℕ) → is_set validity bits i ≡ bit_of (reported validity bits) i
cell_of_group validity bits i =
    elim (cases_lt i (length bits)) [
      | inl below ↦ sym (get_or-map-range_with_len (is_set validity bits) 0 (length bits) i i false below (zero-add i))
      | inr past ↦ not_set validity bits i past ∙ sym (get_or_past (reported validity bits) i false (omega (arith, past, length-map-range_with_len (is_set validity bits) 0 (length bits))))
    ]

ones-filtered : (f : ℕ → Bool) (xs : List ℕ) → length (filter (λ b. b) (map f xs)) ≡ length (filter f xs)
ones-filtered f [] = refl
ones-filtered f (x ∷ xs) = by (f x) (ones-filtered f xs)
  where
    by : (b : Bool) → length (filter (λ b. b) (map f xs)) ≡ length (filter f xs) → length (cond b (b ∷ filter (λ b. b) (map f xs)) (filter (λ b. b) (map f xs))) ≡ length (cond b (x ∷ filter f xs) (filter f xs))
    by true same = omega (arith, same)
    by false same = same

pub reported-count : (validity : Option (List Bool)) (bits : List Bool) → count_by (λ b. b) (reported validity bits) ≡ length (set_rows validity bits)
reported-count validity bits =
    sym (length-filter (λ b. b) (reported validity bits)) ∙ ones-filtered (is_set validity bits) (range_with_len 0 (length bits))

-- the ones of the whole words, and those of the last
pub all-ones : (xs : List Bool) (len w ones word : ℕ) → len ≡ length xs → len / 64 ≤ w → ones ≡ count_by (λ b. b) (take (64 * w) xs)
    → count_ones word ≡ count_by (λ b. b) (take 64 (drop (64 * w) xs)) → ones + count_ones word ≡ count_by (λ b. b) xs
all-ones xs len w ones word is end before last = omega (arith, before, last, ones-rest xs (64 * w) (omega arith))

-- ---- a view of truth values

set_item : (s : Seen) (bits : List Bool) (i : ℕ) → HasBits bits s → i < length s.items → is_set s.validity bits i ≡ keeps_item (item_at s.items i)
set_item s bits i has below =
    let slot : ℕ → Item = λ j. cond (valid_at s j) (boolean (bit_of bits j)) null in
    sym (ap (λ items. keeps_item (item_at items i)) has.values
    ∙ ap keeps_item (get_or-map-range_with_len slot 0 (length s.items) i i null below (zero-add i))
    ∙ by (valid_at s i) (bit_of bits i))
  where
    by : (v b : Bool) → keeps_item (cond v (boolean b) null) ≡ (v && b)
    by true b = refl
    by false b = refl

pub set_items : (s : Seen) (bits : List Bool) → HasBits bits s
    → set_rows s.validity bits ≡ filter (λ i. keeps_item (item_at s.items i)) (range_with_len 0 (length s.items))
set_items s bits has =
    ap (λ n. filter (is_set s.validity bits) (range_with_len 0 n)) has.size
    ∙ filter-same (is_set s.validity bits) (λ i. keeps_item (item_at s.items i)) 0 (length s.items)
    (λ i low high. set_item s bits i has (omega (arith, high)))
