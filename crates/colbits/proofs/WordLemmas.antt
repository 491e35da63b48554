-- Bits of words of 64 bits, and of the eight bytes that hold them.
use Rattle.std.proofs.Common.{◌≡◌, ℕ, zero, suc, ◌+◌, ◌-◌, ◌*◌, ◌/◌, ◌%◌, ◌^◌, ◌<◌, ◌≤◌, ◌&&◌, ◌||◌, ◌++◌, ◌∙◌, inl, inr, Bool, true, false, not, List, max, min, map, length, take, drop, get_or, slice_index, nat_eq, nat_lt, bit_and, bit_or, w64, cond, count_by, refl, sym, ap, subst, arith, add-zero, zero-add, length-append, lt-ltb, le-ltb}
use mir.Val.{bits as width}
use Rattle.std.specs.Int.{Width, bit_at, byte_at, byte_worth, bytes_low_first, sum_through, from_le_bytes, to_le_bytes}
use Rattle.std.specs.Int.RustNames.{count_ones}
use Rattle.std.specs.List.{range_with_len}
use Rattle.std.proofs.Math.Nat.{pow-suc, div-one, mul-le-mul_right}
use Rattle.std.proofs.Math.ListN.{get_or-append}
use Rattle.std.proofs.lemmas.Nat.{pow-add, pow_pos, shr-shr, shr_split}
use Rattle.std.proofs.lemmas.Nat.Bits.{bit_at-lt, bit_at-zero, bit_at_above, bit_at_ones, bit_at_ones_above, bit_at_and, bit_at_cat_high, bit_at_cat_low, bit_at_not, bit_at_or, same_from_bits_below}
use Rattle.std.proofs.lemmas.Bool.{cases_lt}
use Rattle.std.proofs.lemmas.List.{get_or-append-add, get_or-drop, get_or-take, get_or_past, length-take, length-take-le, map-id, take_all}
use Rattle.std.proofs.lemmas.List.Sums.{sum_by-append}
use Rattle.std.proofs.Math.Seq.{take-add}
use Rattle.std.proofs.Math.Pow.{ones_lt, pow-lt, pow_mono}
use Rattle.std.proofs.lemmas.Simd.{mask_l-lt, bit_mask_l, ones-mask_l}
use lib.Lanes.{mask_l}
use Rattle.std.proofs.lemmas.List.FromFn.{get_or-map-range_with_len}
use Rattle.colbits.proofs.BitLemmas.{bytes-whole}
use Rattle.colbits.specs.Prelude.{bit, bit_in, bit_of}

-- ---- one bit of a result

-- a fact of a bit, by its two values
by_bit : (P : ℕ → Type 0) → P 0 → P 1 → (n i : ℕ) → P (bit_at n i)
by_bit P unset set n i = go (bit_at n i) (bit_at-lt n i)
  where
    go : (b : ℕ) → b < 2 → P b
    go zero h = unset
    go (suc zero) h = set
    go (suc (suc b)) h = absurd (omega arith)

pub bit_in-and : (a b i : ℕ) → bit_in (bit_and a b) i ≡ (bit_in a i && bit_in b i)
bit_in-and a b i =
    ap (λ n. nat_eq n 1) (bit_at_and a b i)
    ∙ by_bit (λ x. nat_eq (min x (bit_at b i)) 1 ≡ (nat_eq x 1 && bit_in b i)) (by_bit (λ y. nat_eq (min 0 y) 1 ≡ (nat_eq 0 1 && nat_eq y 1)) refl refl b i)
    (by_bit (λ y. nat_eq (min 1 y) 1 ≡ (nat_eq 1 1 && nat_eq y 1)) refl refl b i) a i

pub bit_in-or : (a b i : ℕ) → bit_in (bit_or a b) i ≡ (bit_in a i || bit_in b i)
bit_in-or a b i =
    ap (λ n. nat_eq n 1) (bit_at_or a b i)
    ∙ by_bit (λ x. nat_eq (max x (bit_at b i)) 1 ≡ (nat_eq x 1 || bit_in b i)) (by_bit (λ y. nat_eq (max 0 y) 1 ≡ (nat_eq 0 1 || nat_eq y 1)) refl refl b i)
    (by_bit (λ y. nat_eq (max 1 y) 1 ≡ (nat_eq 1 1 || nat_eq y 1)) refl refl b i) a i

pub bit_in-not : (w : Width) (a i : ℕ) → a < 2 ^ width w → i < width w → bit_in (2 ^ width w - 1 - a) i ≡ not (bit_in a i)
bit_in-not w a i fits within =
    ap (λ n. nat_eq n 1) (bit_at_not w a i fits within) ∙ by_bit (λ x. nat_eq (1 - x) 1 ≡ not (nat_eq x 1)) refl refl a i

-- ---- shifts

pub bit_at-shr : (n k i : ℕ) → bit_at (n / 2 ^ k) i ≡ bit_at n (k + i)
bit_at-shr n k i = ap (λ x. x % 2) (shr-shr n k i)

pub bit_at-mod : (n k i : ℕ) → i < k → bit_at (n % 2 ^ k) i ≡ bit_at n i
bit_at-mod n k i within = sym (bit_at_cat_low (n / 2 ^ k) k (n % 2 ^ k) i within) ∙ ap (λ x. bit_at x i) (shr_split n k)

pub bit_at-shl_low : (n k i : ℕ) → i < k → bit_at (n * 2 ^ k) i ≡ 0
bit_at-shl_low n k i below = ap (λ x. bit_at x i) (sym (add-zero (n * 2 ^ k))) ∙ bit_at_cat_low n k 0 i below ∙ bit_at-zero i

pub bit_at-shl_high : (n k i : ℕ) → bit_at (n * 2 ^ k) (k + i) ≡ bit_at n i
bit_at-shl_high n k i =
    ap (λ x. bit_at x (k + i)) (sym (add-zero (n * 2 ^ k))) ∙ bit_at_cat_high n k 0 (k + i) (pow_pos k) (omega arith) ∙ ap (bit_at n) (omega arith)

-- the two parts of `low >> shift | high << (n - shift)` at n bits
pub joined-low : (n low high shift i : ℕ) → shift + i < n → bit_in (bit_or (low / 2 ^ shift) (high * 2 ^ (n - shift) % 2 ^ n)) i ≡ bit_in low (shift + i)
joined-low n low high shift i within =
    let none : bit_at (high * 2 ^ (n - shift) % 2 ^ n) i ≡ 0 = bit_at-mod (high * 2 ^ (n - shift)) n i (omega arith) ∙ bit_at-shl_low high (n - shift) i (omega arith) in
    ap (λ b. nat_eq b 1) (bit_at_or (low / 2 ^ shift) _ i ∙ omega (arith, none, bit_at-shr low shift i))

pub joined-high : (n low high shift i : ℕ) → low < 2 ^ n → shift < n → i < shift
    → bit_in (bit_or (low / 2 ^ shift) (high * 2 ^ (n - shift) % 2 ^ n)) (n - shift + i) ≡ bit_in high i
joined-high n low high shift i fits some within =
    let none : bit_at (low / 2 ^ shift) (n - shift + i) ≡ 0 = bit_at-shr low shift (n - shift + i) ∙ bit_at_above low n (shift + (n - shift + i)) fits (omega arith) in
    let set : bit_at (high * 2 ^ (n - shift) % 2 ^ n) (n - shift + i) ≡ bit_at high i =
    bit_at-mod (high * 2 ^ (n - shift)) n (n - shift + i) (omega arith) ∙ bit_at-shl_high high (n - shift) i in
    ap (λ b. nat_eq b 1) (bit_at_or (low / 2 ^ shift) _ (n - shift + i) ∙ omega (arith, none, set))

-- ---- numbers and their bytes

pub pow-256 : (k : ℕ) → 256 ^ k ≡ 2 ^ (8 * k)
pow-256 zero = refl
pow-256 (suc k) =
    let more : 8 * suc k ≡ 8 + 8 * k = omega arith in
    pow-suc 256 k ∙ ap (λ n. n * 256) (pow-256 k) ∙ omega (arith, pow-add 2 8 (8 * k), ap (λ n. 2 ^ n) more)

-- the number that bytes 0 to k make
abbrev made : List ℕ → ℕ → ℕ
made bytes k = sum_through (λ i. byte_worth i (slice_index bytes i)) k

-- one byte above a number of m bits
above : (b low m : ℕ) → b < 256 → low < 2 ^ m → b * 2 ^ m + low < 2 ^ (8 + m)
above b low m small fits = omega (arith, pow-add 2 8 m, mul-le-mul_right (2 ^ m) (le-of b small))
  where
    le-of : (b : ℕ) → b < 256 → b ≤ 255
    le-of b h = omega arith

bit_at-made : (bytes : List ℕ) → ((i : ℕ) → get_or bytes i 0 < 256) → (k : ℕ)
    → (made bytes k < 2 ^ (8 * suc k)) × ((i : ℕ) → i < 8 * suc k → bit_at (made bytes k) i ≡ bit_at (slice_index bytes (i / 8)) (i % 8))
bit_at-made bytes fits zero = (fits 0, λ i h. ap (λ n. bit_at (slice_index bytes n) i) (omega arith) ∙ ap (bit_at (slice_index bytes (i / 8))) (omega arith))
bit_at-made bytes fits (suc k) =
    let m = 8 * suc k in
    let b = slice_index bytes (suc k) in
    let before = bit_at-made bytes fits k in
    let is : made bytes (suc k) ≡ b * 2 ^ m + made bytes k = omega (arith, ap (λ n. b * n) (pow-256 (suc k))) in
    let long : 8 + m ≡ 8 * suc (suc k) = omega arith in (
      subst (λ n. n < 2 ^ (8 * suc (suc k))) (sym is) (subst (λ n. b * 2 ^ m + made bytes k < 2 ^ n) long (above b (made bytes k) m (fits (suc k)) before.0)),
      λ i h. ap (λ n. bit_at n i) is ∙ elim (cases_lt i m) [
        | inl low ↦ bit_at_cat_low b m (made bytes k) i low ∙ before.1 i low
        | inr high ↦ (
            let byte : suc k ≡ i / 8 = omega arith in
            let place : i - m ≡ i % 8 = omega arith in
            bit_at_cat_high b m (made bytes k) i before.0 high ∙ ap (bit_at b) place ∙ ap (λ n. bit_at (slice_index bytes n) (i % 8)) byte)
      ],
    )

pub bit-from_le : (bytes : List ℕ) → ((i : ℕ) → get_or bytes i 0 < 256) → (i : ℕ) → i < 64 → bit_in (from_le_bytes w64 bytes) i ≡ bit bytes i
unfolding bit
bit-from_le bytes fits i within = ap (λ n. nat_eq n 1) ((bit_at-made bytes fits 7).1 i within)

byte_at-shr : (i n : ℕ) → byte_at i n ≡ n / 2 ^ (8 * i) % 256
byte_at-shr zero n = ap (λ m. m % 256) (sym (div-one n))
byte_at-shr (suc i) n = ap (λ p. n / p % 256) (pow-256 (suc i))

get_or-low_first : (i k n m : ℕ) → m < k → get_or (bytes_low_first i k n) m 0 ≡ byte_at (i + m) n
get_or-low_first i zero n m h = absurd (omega arith)
get_or-low_first i (suc k) n zero h = ap (λ j. byte_at j n) (sym (add-zero i))
get_or-low_first i (suc k) n (suc m) h = get_or-low_first (suc i) k n m (omega arith) ∙ ap (λ j. byte_at j n) (omega arith)

pub bit-to_le : (n i : ℕ) → i < 64 → bit (to_le_bytes w64 n) i ≡ bit_in n i
unfolding bit
bit-to_le n i within =
    ap (λ b. nat_eq (bit_at b (i % 8)) 1) (get_or-low_first 0 8 n (i / 8) (omega arith) ∙ ap (λ j. byte_at j n) (zero-add (i / 8)) ∙ byte_at-shr (i / 8) n)
    ∙ ap (λ d. nat_eq d 1) (bit_at-mod (n / 2 ^ (8 * (i / 8))) 8 (i % 8) (omega arith) ∙ bit_at-shr n (8 * (i / 8)) (i % 8) ∙ ap (bit_at n) (omega arith))

-- the eight bytes from byte `at` on, as a list
pub eight-bytes : (bytes : List ℕ) (at : ℕ) → ((i : ℕ) → get_or bytes i 0 < 256) → (i : ℕ) → i < 64
    → bit_in (from_le_bytes w64 (map (λ k. get_or bytes (at + k) 0) (range_with_len 0 8))) i ≡ bit bytes (8 * at + i)
unfolding bit
eight-bytes bytes at fits i within =
    let f = λ (k : ℕ). get_or bytes (at + k) 0 in
    let read = λ (k : ℕ) (h : k < 8). get_or-map-range_with_len f 0 8 k k 0 h (zero-add k) in
    let small = λ (k : ℕ). elim (cases_lt k 8) as (λ _. get_or (map f (range_with_len 0 8)) k 0 < 256) [
      | inl h ↦ subst (λ b. b < 256) (sym (read k h)) (fits (at + k))
      | inr h ↦ subst (λ b. b < 256) (sym (get_or_past (map f (range_with_len 0 8)) k 0 h)) (omega arith)
    ] in
    bit-from_le (map f (range_with_len 0 8)) small i within
    ∙ ap (λ b. nat_eq (bit_at b (i % 8)) 1) (read (i / 8) (omega arith) ∙ ap (λ k. get_or bytes k 0) (omega arith))
    ∙ ap (λ k. nat_eq (bit_at (slice_index bytes ((8 * at + i) / 8)) k) 1) (omega arith)

-- ---- how many bits are 1

bit-from_test : (x : ℕ) (b : Bool) → x < 2 → nat_eq x 1 ≡ b → x ≡ cond b 1 0
bit-from_test zero b h is = ap (λ c. cond c 1 0) is
bit-from_test (suc zero) b h is = ap (λ c. cond c 1 0) is
bit-from_test (suc (suc x)) b h is = absurd (omega arith)

-- a word has as many 1 bits as the 64 places that it tells
pub ones-of_word : (xs : List Bool) (i word : ℕ) → word < 2 ^ 64 → ((j : ℕ) → j < 64 → bit_in word j ≡ bit_of xs (i + j))
    → count_ones word ≡ count_by (λ b. b) (take 64 (drop i xs))
ones-of_word xs i word fits h =
    let part = take 64 (drop i xs) in
    let long : length part ≤ 64 = omega (arith, length-take 64 (drop i xs)) in
    let small : mask_l part < 2 ^ 64 = omega (arith, mask_l-lt part, pow_mono long) in
    let place = λ (j : ℕ) (within : j < 64). bit-from_test (bit_at word j) (get_or part j false) (bit_at-lt word j)
    (h j within ∙ sym (get_or-take 64 (drop i xs) j false within ∙ get_or-drop i xs j false)) ∙ sym (bit_mask_l part j) in
    ap count_ones (same_from_bits_below 64 word (mask_l part) fits small place)
    ∙ ap (λ ys. count_ones (mask_l ys)) (sym (map-id part))
    ∙ ones-mask_l (λ b. b) part

-- the ones of the first n bits, and of the 64 behind them
pub ones-more : (xs : List Bool) (n : ℕ) → count_by (λ b. b) (take (n + 64) xs) ≡ count_by (λ b. b) (take n xs) + count_by (λ b. b) (take 64 (drop n xs))
ones-more xs n = ap (count_by (λ b. b)) (take-add n 64 xs) ∙ sum_by-append (λ b. cond b 1 0) (take n xs) (take 64 (drop n xs))

pub ones-rest : (xs : List Bool) (n : ℕ) → length xs ≤ n + 64 → count_by (λ b. b) xs ≡ count_by (λ b. b) (take n xs) + count_by (λ b. b) (take 64 (drop n xs))
ones-rest xs n h = ap (count_by (λ b. b)) (sym (take_all (n + 64) xs h)) ∙ ones-more xs n

-- a word that tells the 64 places from place i on, of which the first n are there
module _ (xs : List Bool) (i n word : ℕ) (small : n ≤ 64) (fits : word < 2 ^ 64) (reported : (j : ℕ) → j < 64 → bit_in word j ≡ bit_of xs (i + j)) where
  -- they are 1 where it is all ones
  pub ones_from_word : word ≡ 2 ^ n - 1 → (j : ℕ) → j < n → bit_of xs (i + j) ≡ true
  ones_from_word is j below = sym (reported j (omega arith)) ∙ ap (λ w. bit_in w j) is ∙ ap (λ b. nat_eq b 1) (bit_at_ones n j below)

  -- and only there
  pub word_from_ones : ((j : ℕ) → n ≤ j → j < 64 → bit_of xs (i + j) ≡ false) → ((j : ℕ) → j < n → bit_of xs (i + j) ≡ true) → word ≡ 2 ^ n - 1
  word_from_ones zeros ones =
      let below : 2 ^ n - 1 < 2 ^ 64 = omega (arith, ones_lt n, pow_mono small) in
      same_from_bits_below 64 word (2 ^ n - 1) fits below
      (λ j within. elim (cases_lt j n) [
        | inl here ↦ bit-from_test (bit_at word j) true (bit_at-lt word j) (reported j within ∙ ones j here) ∙ sym (bit_at_ones n j here)
        | inr past ↦ bit-from_test (bit_at word j) false (bit_at-lt word j) (reported j within ∙ zeros j past within) ∙ sym (bit_at_ones_above n j past)
      ])

-- the ones of the first n bits, and of the m behind them
pub both_ones : (xs : List Bool) (n m : ℕ) → ((k : ℕ) → k < n → bit_of xs k ≡ true) → ((j : ℕ) → j < m → bit_of xs (n + j) ≡ true) → (k : ℕ) → k < n + m → bit_of xs k ≡ true
both_ones xs n m before here k within =
    elim (cases_lt k n) [
      | inl low ↦ before k low
      | inr high ↦ (let at : k ≡ n + (k - n) = omega arith in ap (bit_of xs) at ∙ here (k - n) (omega arith))
    ]

-- the first r bits
pub ones-shifted : (r : ℕ) → r < 64 → 1 * 2 ^ r % 2 ^ 64 - 1 ≡ 2 ^ r - 1
ones-shifted r small = omega (arith, pow-lt small)

-- ---- places that are packed

pub bit-append_low : (xs ys : List ℕ) (i : ℕ) → i < 8 * length xs → bit (xs ++ ys) i ≡ bit xs i
unfolding bit
bit-append_low xs ys i h = ap (λ b. nat_eq (bit_at b (i % 8)) 1) (get_or-append xs ys 0 (i / 8) (omega arith))

pub bit-append_high : (xs ys : List ℕ) (i : ℕ) → bit (xs ++ ys) (8 * length xs + i) ≡ bit ys i
unfolding bit
bit-append_high xs ys i =
    ap (λ b. nat_eq (bit_at b ((8 * length xs + i) % 8)) 1) (ap (λ k. get_or (xs ++ ys) k 0) (omega arith) ∙ get_or-append-add xs ys (i / 8) 0)
    ∙ ap (λ k. nat_eq (bit_at (slice_index ys (i / 8)) k) 1) (omega arith)

pub bit-take : (xs : List ℕ) (n i : ℕ) → i < 8 * n → bit (take n xs) i ≡ bit xs i
unfolding bit
bit-take xs n i h = ap (λ b. nat_eq (bit_at b (i % 8)) 1) (get_or-take n xs (i / 8) 0 (omega arith))

-- the places of some bytes, and those of more behind them
pub places-more : (f : ℕ → Bool) (bytes more : List ℕ) (k m : ℕ) → length bytes ≡ k → ((i : ℕ) → i < 8 * k → bit bytes i ≡ f i)
    → ((j : ℕ) → j < m → bit more j ≡ f (8 * k + j)) → (i : ℕ) → i < 8 * k + m → bit (bytes ++ more) i ≡ f i
places-more f bytes more k m long before here i h =
    elim (cases_lt i (8 * k)) [
      | inl low ↦ bit-append_low bytes more i (omega arith) ∙ before i low
      | inr high ↦ (
          let at : 8 * length bytes + (i - 8 * k) ≡ i = omega arith in
          let back : 8 * k + (i - 8 * k) ≡ i = omega arith in
          ap (bit (bytes ++ more)) (sym at) ∙ bit-append_high bytes more (i - 8 * k) ∙ here (i - 8 * k) (omega arith) ∙ ap f back)
    ]

-- the places of a word behind those of w others
pub word-more : (f : ℕ → Bool) (bytes : List ℕ) (w word : ℕ) → length bytes ≡ 8 * w → ((i : ℕ) → i < 64 * w → bit bytes i ≡ f i)
    → ((j : ℕ) → j < 64 → bit_in word j ≡ f (64 * w + j)) → (i : ℕ) → i < 64 * (w + 1) → bit (bytes ++ to_le_bytes w64 word) i ≡ f i
word-more f bytes w word long before here i h =
    places-more f bytes (to_le_bytes w64 word) (8 * w) 64 long (λ k low. before k (omega arith))
    (λ j low. bit-to_le word j low ∙ here j low ∙ ap f (omega arith)) i (omega arith)

-- the bytes of n places: those of w words, and as many of the last as are needed
pub record ArePlaces (f : ℕ → Bool) (n : ℕ) (bytes : List ℕ) : Type 0 where
  pub long : length bytes ≡ (n + 7) / 8
  pub bits_are : (i : ℕ) → bit bytes i ≡ (nat_lt i n && f i)

pub word-last : (f : ℕ → Bool) (bytes : List ℕ) (n w last : ℕ) → length bytes ≡ 8 * w → 64 * w ≤ n → n < 64 * w + 64 → ((i : ℕ) → i < 64 * w → bit bytes i ≡ f i)
    → ((k : ℕ) → k < 64 → bit_in last k ≡ (nat_lt k (n - 64 * w) && f (64 * w + k))) → ArePlaces f n (bytes ++ take ((n - 64 * w + 7) / 8) (to_le_bytes w64 last))
word-last f bytes n w last long within end before here =
    let rest = n - 64 * w in
    let size = (rest + 7) / 8 in
    let more = take size (to_le_bytes w64 last) in
    let few : size ≤ 8 = omega arith in
    let sized : length (bytes ++ more) ≡ (n + 7) / 8 = omega (arith, length-append bytes more, length-take-le size (to_le_bytes w64 last) few) in
    let low = λ (i : ℕ) (h : i < 8 * (8 * w)). before i (omega arith) ∙ ap (λ b. b && f i) (sym (lt-ltb i n (omega arith))) in
    let high = λ (j : ℕ) (h : j < 8 * size). bit-take (to_le_bytes w64 last) size j h ∙ bit-to_le last j (omega arith) ∙ here j (omega arith)
    ∙ (λ i. same j i && f (at j i)) in
    record {
      long = sized;
      bits_are = bytes-whole f n (bytes ++ more) sized (λ i h. places-more (λ k. nat_lt k n && f k) bytes more (8 * w) (8 * size) long low high i (omega arith));
    }
  where
    at : (j : ℕ) → 64 * w + j ≡ 8 * (8 * w) + j
    at j = omega arith

    same : (j : ℕ) → nat_lt j (n - 64 * w) ≡ nat_lt (8 * (8 * w) + j) n
    same j =
        elim (cases_lt j (n - 64 * w)) [
          | inl low ↦ lt-ltb j (n - 64 * w) low ∙ sym (lt-ltb (8 * (8 * w) + j) n (omega arith))
          | inr high ↦ le-ltb j (n - 64 * w) high ∙ sym (le-ltb (8 * (8 * w) + j) n (omega arith))
        ]
