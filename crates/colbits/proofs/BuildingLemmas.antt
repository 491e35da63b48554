-- Bits that are packed word by word, and grow or shrink at the end.
use Rattle.std.proofs.Common.{◌≡◌, ◌∙◌, ℕ, ◌+◌, ◌-◌, ◌*◌, ◌/◌, ◌%◌, ◌^◌, ◌<◌, ◌≤◌, ◌&&◌, ◌||◌, ◌++◌, ◌∷◌, [], List, Bool, true, false, not, map, length, replicate, take, nat_eq, nat_lt, bit_and, bit_or, w64, inl, inr, ap, sym, subst, refl, arith, zero-add, length-append, lt-ltb, le-ltb}
use Rattle.std.specs.Int.{bit_at, from_bool, to_le_bytes}
use Rattle.std.specs.List.{range_with_len}
use Rattle.std.proofs.lemmas.Bool.{cases_lt}
use Rattle.std.proofs.lemmas.List.{append_assoc, get_or-append-add, get_or_append_left, get_or_past, get_or-replicate, get_or-take, length-replicate, length-take-le}
use Rattle.std.proofs.lemmas.List.FromFn.{fill_by_all, get_or-map-range_with_len, length-map-range_with_len}
use Rattle.std.proofs.lemmas.Nat.Bits.{bit_at_above, bit_at-zero, bit_at_ones, bit_at_ones_above}
use Rattle.colbits.specs.Prelude.{AreWords, bit, bit_in, bit_of, bits, first_bits}
use Rattle.colbits.proofs.BitLemmas.{get_or-bits, length-bits}
use Rattle.colbits.proofs.WordLemmas.{bit-append_high, bit-append_low, bit-take, bit-to_le, bit_at-mod, bit_at-shl_high, bit_at-shl_low, bit_in-and, bit_in-or, ones-shifted, places-more, ArePlaces, word-last}

-- ---- bits of words

shl-high : (word used j : ℕ) → used ≤ j → j < 64 → bit_in (word * 2 ^ used % 2 ^ 64) j ≡ bit_in word (j - used)
shl-high word used j high small =
    let at : used + (j - used) ≡ j = omega arith in
    ap (λ b. nat_eq b 1) (bit_at-mod (word * 2 ^ used) 64 j small ∙ ap (bit_at (word * 2 ^ used)) (sym at) ∙ bit_at-shl_high word used (j - used))

pub joined-bits : (last word used j : ℕ) → j < 64 → bit_in (bit_or last (word * 2 ^ used % 2 ^ 64)) j ≡ (bit_in last j || (not (nat_lt j used) && bit_in word (j - used)))
joined-bits last word used j small =
    bit_in-or last (word * 2 ^ used % 2 ^ 64) j
    ∙ ap (λ b. bit_in last j || b) (elim (cases_lt j used) [
      | inl low ↦ shl-low-any low ∙ sym (ap (λ b. not b && bit_in word (j - used)) (lt-ltb j used low))
      | inr high ↦ shl-high word used j high small ∙ sym (ap (λ b. not b && bit_in word (j - used)) (le-ltb j used high))
    ])
  where
    shl-low-any : j < used → bit_in (word * 2 ^ used % 2 ^ 64) j ≡ false
    shl-low-any low = ap (λ b. nat_eq b 1) (bit_at-mod (word * 2 ^ used) 64 j small ∙ bit_at-shl_low word used j low)

and-true_r : (b : Bool) → (b && true) ≡ b
and-true_r true = refl
and-true_r false = refl

pub first-bits : (word count j : ℕ) → count < 64 → bit_in (bit_and word (1 * 2 ^ count % 2 ^ 64 - 1)) j ≡ (bit_in word j && nat_lt j count)
first-bits word count j small =
    bit_in-and word (1 * 2 ^ count % 2 ^ 64 - 1) j
    ∙ ap (λ b. bit_in word j && b) (ap (λ n. bit_in n j) (ones-shifted count small) ∙ elim (cases_lt j count) [
      | inl low ↦ ap (λ b. nat_eq b 1) (bit_at_ones count j low) ∙ sym (lt-ltb j count low)
      | inr high ↦ ap (λ b. nat_eq b 1) (bit_at_ones_above count j high) ∙ sym (le-ltb j count high)
    ])

-- ---- words that hold bits

-- the bytes are those of k whole words of the bits, and the word behind them has the others, and 0 past the last one
pub record Packs (bytes : List ℕ) (last k : ℕ) (xs : List Bool) : Type 0 where
  pub size : length bytes ≡ 8 * k
  pub low : 64 * k ≤ length xs
  pub high : length xs < 64 * k + 64
  pub words : (i : ℕ) → i < 64 * k → bit bytes i ≡ bit_of xs i
  pub rest : (j : ℕ) → j < 64 → bit_in last j ≡ bit_of xs (64 * k + j)

-- a bit of the bytes with those of the last word
packed_at : (bytes : List ℕ) (last k : ℕ) (xs : List Bool) → Packs bytes last k xs → (i : ℕ) → i < 64 * k + 64 → bit (bytes ++ to_le_bytes w64 last) i ≡ bit_of xs i
packed_at bytes last k xs is i within =
    places-more (bit_of xs) bytes (to_le_bytes w64 last) (8 * k) 64 is.size (λ m below. is.words m (omega arith))
    (λ j below. bit-to_le last j below ∙ is.rest j below ∙ ap (bit_of xs) (omega arith)) i (omega arith)

pub first_bits-packed : (bytes : List ℕ) (last k n : ℕ) (xs : List Bool) → Packs bytes last k xs → n ≡ length xs → first_bits bytes last n ≡ xs
unfolding first_bits bits
first_bits-packed bytes last k n xs is size =
    let high = is.high in
    sym (fill_by_all (bit (bytes ++ to_le_bytes w64 last)) xs n false (sym size) (λ i below. sym (packed_at bytes last k xs is i (omega arith))))

pub AreWords-packed : (bytes : List ℕ) (last k n : ℕ) (xs : List Bool) → Packs bytes last k xs → n ≡ length xs → AreWords bytes last n
AreWords-packed bytes last k n xs is size =
    let low = is.low in
    let high = is.high in
    let long = is.size in
    let words : k ≡ n / 64 = omega arith in
    record {
      size = omega arith;
      past = λ j above small. is.rest j small ∙ get_or_past xs (64 * k + j) false (omega arith);
    }

pub length-first_bits : (bytes : List ℕ) (last n : ℕ) → length (first_bits bytes last n) ≡ n
unfolding first_bits
length-first_bits bytes last n = length-bits (bytes ++ to_le_bytes w64 last) 0 n

bit_of-first_bits : (bytes : List ℕ) (last n i : ℕ) → i < n → bit_of (first_bits bytes last n) i ≡ bit (bytes ++ to_le_bytes w64 last) i
unfolding first_bits
bit_of-first_bits bytes last n i below = get_or-bits (bytes ++ to_le_bytes w64 last) 0 n i false below ∙ ap (bit (bytes ++ to_le_bytes w64 last)) (zero-add i)

pub Packs-words : (bytes : List ℕ) (last n : ℕ) (xs : List Bool) → AreWords bytes last n → first_bits bytes last n ≡ xs → Packs bytes last (n / 64) xs
Packs-words bytes last n xs are is = subst (Packs bytes last (n / 64)) is of_view
  where
    of_view : Packs bytes last (n / 64) (first_bits bytes last n)
    of_view =
        let long = length-first_bits bytes last n in
        let size = are.size in
        record {
          size = are.size;
          low = omega arith;
          high = omega arith;
          words = λ i below. sym (bit_of-first_bits bytes last n i (omega arith) ∙ bit-append_low bytes (to_le_bytes w64 last) i (omega arith));
          rest = λ j small. elim (cases_lt (64 * (n / 64) + j) n) [
            | inl below ↦ (
                let at : 64 * (n / 64) + j ≡ 8 * length bytes + j = omega arith in
                sym (bit_of-first_bits bytes last n (64 * (n / 64) + j) below ∙ ap (bit (bytes ++ to_le_bytes w64 last)) at ∙ bit-append_high bytes (to_le_bytes w64 last) j ∙ bit-to_le last j small))
            | inr past ↦ are.past j (omega arith) small ∙ sym (get_or_past (first_bits bytes last n) (64 * (n / 64) + j) false (omega arith))
          ];
        }

-- ---- more bits

bit_of-reported : (word count j : ℕ) → ((i : ℕ) → count ≤ i → i < 64 → bit_in word i ≡ false) → j < 64 → bit_of (map (bit_in word) (range_with_len 0 count)) j ≡ bit_in word j
bit_of-reported word count j zeros small =
    elim (cases_lt j count) [
      | inl below ↦ get_or-map-range_with_len (bit_in word) 0 count j j false below (zero-add j)
      | inr past ↦ (
          let long = length-map-range_with_len (bit_in word) 0 count in
          get_or_past (map (bit_in word) (range_with_len 0 count)) j false (omega arith) ∙ sym (zeros j past small))
    ]

bit_of-behind : (xs ys : List Bool) (i m : ℕ) → i ≡ length xs + m → bit_of (xs ++ ys) i ≡ bit_of ys m
bit_of-behind xs ys i m at = ap (bit_of (xs ++ ys)) at ∙ get_or-append-add xs ys m false

-- what is joined has the bits of both
joined_at : (last word k used j : ℕ) (xs ys : List Bool) → used + 64 * k ≡ length xs → used < 64 → j < 64 → ((m : ℕ) → m < 64 → bit_in last m ≡ bit_of xs (64 * k + m))
    → ((m : ℕ) → m < 64 → bit_of ys m ≡ bit_in word m) → (bit_in last j || (not (nat_lt j used) && bit_in word (j - used))) ≡ bit_of (xs ++ ys) (64 * k + j)
joined_at last word k used j xs ys long few small rest reported =
    elim (cases_lt j used) [
      | inl low ↦ (
          ap (λ b. bit_in last j || (not b && bit_in word (j - used))) (lt-ltb j used low)
          ∙ or-false (bit_in last j)
          ∙ rest j small
          ∙ sym (get_or_append_left xs ys false (64 * k + j) (omega arith)))
      | inr high ↦ (
          ap (λ b. bit_in last j || (not b && bit_in word (j - used))) (le-ltb j used high)
          ∙ ap (λ b. b || bit_in word (j - used)) (rest j small ∙ get_or_past xs (64 * k + j) false (omega arith))
          ∙ sym (bit_of-behind xs ys (64 * k + j) (j - used) (omega arith) ∙ reported (j - used) (omega arith)))
    ]
  where
    or-false : (b : Bool) → (b || false) ≡ b
    or-false true = refl
    or-false false = refl

-- a few bits fit behind the last ones
pub Packs-few : (bytes : List ℕ) (last word joined k used count : ℕ) (xs : List Bool) → Packs bytes last k xs → used + 64 * k ≡ length xs → used + count < 64
    → ((i : ℕ) → count ≤ i → i < 64 → bit_in word i ≡ false) → ((j : ℕ) → j < 64 → bit_in joined j ≡ (bit_in last j || (not (nat_lt j used) && bit_in word (j - used))))
    → Packs bytes joined k (xs ++ map (bit_in word) (range_with_len 0 count))
Packs-few bytes last word joined k used count xs is long few zeros both =
    let ys = map (bit_in word) (range_with_len 0 count) in
    let more = length-map-range_with_len (bit_in word) 0 count in
    let all = length-append xs ys in
    record {
      size = is.size;
      low = omega arith;
      high = omega arith;
      words = λ i below. is.words i below ∙ sym (get_or_append_left xs ys false i (omega arith));
      rest = λ j small. both j small ∙ joined_at last word k used j xs ys long (omega arith) small is.rest (λ m within. bit_of-reported word count m zeros within);
    }

-- more of them fill a word
pub Packs-word : (bytes longer : List ℕ) (last word joined carried k used count : ℕ) (xs : List Bool) → Packs bytes last k xs → used + 64 * k ≡ length xs → used < 64 → count ≤ 64 → 64 ≤ used + count
    → word < 2 ^ 64 → ((i : ℕ) → count ≤ i → i < 64 → bit_in word i ≡ false) → ((j : ℕ) → j < 64 → bit_in joined j ≡ (bit_in last j || (not (nat_lt j used) && bit_in word (j - used))))
    → ((j : ℕ) → j < 64 → bit_in carried j ≡ bit_in word (64 - used + j)) → longer ≡ bytes ++ to_le_bytes w64 joined
    → Packs longer carried (k + 1) (xs ++ map (bit_in word) (range_with_len 0 count))
Packs-word bytes longer last word joined carried k used count xs is long few most many fits zeros both behind grows =
    let ys = map (bit_in word) (range_with_len 0 count) in
    let more = length-map-range_with_len (bit_in word) 0 count in
    let all = length-append xs ys in
    let size = is.size in
    let grown = ap length grows ∙ length-append bytes (to_le_bytes w64 joined) in
    record {
      size = omega arith;
      low = omega arith;
      high = omega arith;
      words = λ i below. ap (λ bs. bit bs i) grows ∙ places-more (bit_of (xs ++ ys)) bytes (to_le_bytes w64 joined) (8 * k) 64 size
          (λ m low. is.words m (omega arith) ∙ sym (get_or_append_left xs ys false m (omega arith)))
          (λ j small. bit-to_le joined j small ∙ both j small ∙ joined_at last word k used j xs ys long few small is.rest (λ m within. bit_of-reported word count m zeros within)
          ∙ ap (bit_of (xs ++ ys)) (omega arith)) i (omega arith);
      rest = λ j small. behind j small ∙ elim (cases_lt (64 - used + j) 64) [
        | inl within ↦ sym (bit_of-behind xs ys (64 * (k + 1) + j) (64 - used + j) (omega arith) ∙ bit_of-reported word count (64 - used + j) zeros within)
        | inr past ↦ (
            ap (λ b. nat_eq b 1) (bit_at_above word 64 (64 - used + j) fits past)
            ∙ sym (get_or_past (xs ++ ys) (64 * (k + 1) + j) false (omega arith)))
      ];
    }

-- ---- lists of bits

pub first_bits-none : (bytes : List ℕ) (last : ℕ) → first_bits bytes last 0 ≡ []
unfolding first_bits bits
first_bits-none bytes last = refl

pub length-reported : (word count n : ℕ) (xs : List Bool) → n ≡ length xs → n + count ≡ length (xs ++ map (bit_in word) (range_with_len 0 count))
length-reported word count n xs is = omega (arith, is, length-append xs (map (bit_in word) (range_with_len 0 count)), length-map-range_with_len (bit_in word) 0 count)

-- the words hold exactly these bits
pub record ArePacked (bytes : List ℕ) (last n : ℕ) (xs : List Bool) : Type 0 where
  pub are : AreWords bytes last n
  pub shows : first_bits bytes last n ≡ xs

pub shown_length : (bytes : List ℕ) (last n : ℕ) (xs : List Bool) → first_bits bytes last n ≡ xs → n ≡ length xs
shown_length bytes last n xs is = sym (length-first_bits bytes last n) ∙ ap length is

packed : (bytes : List ℕ) (last k n : ℕ) (xs : List Bool) → Packs bytes last k xs → n ≡ length xs → ArePacked bytes last n xs
packed bytes last k n xs is size = record { are = AreWords-packed bytes last k n xs is size; shows = first_bits-packed bytes last k n xs is size }

pub few_pushed : (bytes : List ℕ) (last word joined n count : ℕ) (xs : List Bool) → AreWords bytes last n → first_bits bytes last n ≡ xs → n % 64 + count < 64
    → ((i : ℕ) → count ≤ i → i < 64 → bit_in word i ≡ false) → ((j : ℕ) → j < 64 → bit_in joined j ≡ (bit_in last j || (not (nat_lt j (n % 64)) && bit_in word (j - n % 64))))
    → ArePacked bytes joined (n + count) (xs ++ map (bit_in word) (range_with_len 0 count))
few_pushed bytes last word joined n count xs are is few zeros both =
    let size = shown_length bytes last n xs is in
    packed bytes joined (n / 64) (n + count) (xs ++ map (bit_in word) (range_with_len 0 count))
    (Packs-few bytes last word joined (n / 64) (n % 64) count xs (Packs-words bytes last n xs are is) (omega arith) few zeros both) (length-reported word count n xs size)

pub word_pushed : (bytes longer : List ℕ) (last word joined carried n count : ℕ) (xs : List Bool) → AreWords bytes last n → first_bits bytes last n ≡ xs → 64 ≤ n % 64 + count → count ≤ 64
    → word < 2 ^ 64 → ((i : ℕ) → count ≤ i → i < 64 → bit_in word i ≡ false) → ((j : ℕ) → j < 64 → bit_in joined j ≡ (bit_in last j || (not (nat_lt j (n % 64)) && bit_in word (j - n % 64))))
    → ((j : ℕ) → j < 64 → bit_in carried j ≡ bit_in word (64 - n % 64 + j)) → longer ≡ bytes ++ to_le_bytes w64 joined
    → ArePacked longer carried (n + count) (xs ++ map (bit_in word) (range_with_len 0 count))
word_pushed bytes longer last word joined carried n count xs are is many most fits zeros both behind grows =
    let size = shown_length bytes last n xs is in
    packed longer carried (n / 64 + 1) (n + count) (xs ++ map (bit_in word) (range_with_len 0 count))
    (Packs-word bytes longer last word joined carried (n / 64) (n % 64) count xs (Packs-words bytes last n xs are is) (omega arith) (omega arith) most many fits zeros both behind grows)
    (length-reported word count n xs size)

pub length-places : (f : ℕ → Bool) (n : ℕ) (xs now : List Bool) → now ≡ xs ++ map f (range_with_len 0 n) → length now ≡ length xs + n
length-places f n xs now is = ap length is ∙ length-append xs (map f (range_with_len 0 n)) ∙ ap (λ m. length xs + m) (length-map-range_with_len f 0 n)

-- the places of a word behind others
places-joined : (f : ℕ → Bool) (n m next word : ℕ) → ((j : ℕ) → j < m → bit_in word j ≡ f (n + j)) → next ≡ n + m
    → map f (range_with_len 0 n) ++ map (bit_in word) (range_with_len 0 m) ≡ map f (range_with_len 0 next)
places-joined f n m next word reported sum =
    let xs = map f (range_with_len 0 n) in
    let ys = map (bit_in word) (range_with_len 0 m) in
    let front = length-map-range_with_len f 0 n in
    let back = length-map-range_with_len (bit_in word) 0 m in
    let all = length-append xs ys in
    fill_by_all f (xs ++ ys) next false (omega arith)
    (λ k within. elim (cases_lt k n) [
      | inl low ↦ get_or_append_left xs ys false k (omega arith) ∙ get_or-map-range_with_len f 0 n k k false low (zero-add k)
      | inr high ↦ (
          bit_of-behind xs ys k (k - n) (omega arith)
          ∙ get_or-map-range_with_len (bit_in word) 0 m (k - n) (k - n) false (omega arith) (zero-add (k - n))
          ∙ reported (k - n) (omega arith)
          ∙ ap f (omega arith))
    ])

pub places-grown : (f : ℕ → Bool) (xs now new : List Bool) (n m next word : ℕ) → now ≡ xs ++ map f (range_with_len 0 n) → new ≡ now ++ map (bit_in word) (range_with_len 0 m)
    → ((j : ℕ) → j < m → bit_in word j ≡ f (n + j)) → next ≡ n + m → new ≡ xs ++ map f (range_with_len 0 next)
places-grown f xs now new n m next word before grows reported sum =
    grows
    ∙ ap (λ ys. ys ++ map (bit_in word) (range_with_len 0 m)) before
    ∙ append_assoc xs (map f (range_with_len 0 n)) (map (bit_in word) (range_with_len 0 m))
    ∙ ap (λ ys. xs ++ ys) (places-joined f n m next word reported sum)

pub all_ones : (count : ℕ) → map (λ (i : ℕ). true) (range_with_len 0 count) ≡ replicate count true
all_ones count = sym (fill_by_all (λ (i : ℕ). true) (replicate count true) count false (length-replicate count true) (λ k below. get_or-replicate count k true false below))

-- the word of one bit
pub one_bit : (b : Bool) → map (bit_in (from_bool b)) (range_with_len 0 1) ≡ b ∷ []
one_bit true = refl
one_bit false = refl

pub one_bit-zeros : (b : Bool) (j : ℕ) → 1 ≤ j → bit_in (from_bool b) j ≡ false
one_bit-zeros true j past = ap (λ n. nat_eq n 1) (bit_at_above 1 1 j (omega arith) past)
one_bit-zeros false j past = ap (λ n. nat_eq n 1) (bit_at-zero j)

-- ---- fewer bits

-- whole words of some bits, and a word behind them that has those of the next 64 below place n
pub record Keeps (bytes : List ℕ) (last k n : ℕ) (xs : List Bool) : Type 0 where
  pub size : length bytes ≡ 8 * k
  pub words : (i : ℕ) → i < 64 * k → bit bytes i ≡ bit_of xs i
  pub rest : (j : ℕ) → j < 64 → 64 * k + j < n → bit_in last j ≡ bit_of xs (64 * k + j)

pub Keeps-packed : (bytes : List ℕ) (last k n : ℕ) (xs : List Bool) → Packs bytes last k xs → Keeps bytes last k n xs
Keeps-packed bytes last k n xs is = record { size = is.size; words = is.words; rest = λ j small below. is.rest j small }

-- so many of the whole words, and the next in a word of its own
pub Keeps-words : (bytes fewer : List ℕ) (last word k m n : ℕ) (xs : List Bool) → Packs bytes last k xs → m < k → fewer ≡ take (8 * m) bytes
    → ((j : ℕ) → j < 64 → bit_in word j ≡ bit bytes (8 * (8 * m) + 0 + j)) → Keeps fewer word m n xs
Keeps-words bytes fewer last word k m n xs is less cut reported =
    let size = is.size in
    record {
      size = ap length cut ∙ length-take-le (8 * m) bytes (omega arith);
      words = λ i below. ap (λ bs. bit bs i) cut ∙ bit-take bytes (8 * m) i (omega arith) ∙ is.words i (omega arith);
      rest = λ j small below. reported j small ∙ is.words (8 * (8 * m) + 0 + j) (omega arith) ∙ ap (bit_of xs) (omega arith);
    }

pub Packs-take : (bytes : List ℕ) (last first n : ℕ) (xs : List Bool) → Keeps bytes last (n / 64) n xs → n ≤ length xs
    → ((j : ℕ) → j < 64 → bit_in first j ≡ (bit_in last j && nat_lt j (n % 64))) → Packs bytes first (n / 64) (take n xs)
Packs-take bytes last first n xs is enough cut =
    let k = n / 64 in
    let long = length-take-le n xs enough in
    record {
      size = is.size;
      low = omega arith;
      high = omega arith;
      words = λ i below. is.words i below ∙ sym (get_or-take n xs i false (omega arith));
      rest = λ j small. cut j small ∙ elim (cases_lt j (n % 64)) [
        | inl below ↦ (
            ap (λ b. bit_in last j && b) (lt-ltb j (n % 64) below)
            ∙ and-true_r (bit_in last j)
            ∙ is.rest j small (omega arith)
            ∙ sym (get_or-take n xs (64 * k + j) false (omega arith)))
        | inr past ↦ (
            ap (λ b. bit_in last j && b) (le-ltb j (n % 64) past)
            ∙ and-false_r (bit_in last j)
            ∙ sym (get_or_past (take n xs) (64 * k + j) false (omega arith)))
      ];
    }
  where
    and-false_r : (b : Bool) → (b && false) ≡ false
    and-false_r true = refl
    and-false_r false = refl

-- ---- the bytes of all

pub ArePlaces-packed : (bytes all : List ℕ) (last k n size : ℕ) (xs : List Bool) → Packs bytes last k xs → n ≡ length xs → size ≡ (n % 64 + 7) / 8
    → all ≡ bytes ++ take size (to_le_bytes w64 last) → ArePlaces (bit_of xs) n all
ArePlaces-packed bytes all last k n size xs is long few whole =
    let low = is.low in
    let high = is.high in
    let words : k ≡ n / 64 = omega arith in
    let rest : n % 64 ≡ n - 64 * k = omega arith in
    subst (ArePlaces (bit_of xs) n) (sym (whole ∙ ap (λ m. bytes ++ take m (to_le_bytes w64 last)) (few ∙ ap (λ m. (m + 7) / 8) rest)))
    (word-last (bit_of xs) bytes n k last is.size (omega arith) (omega arith) is.words
    (λ j small. is.rest j small ∙ elim (cases_lt j (n - 64 * k)) [
      | inl below ↦ sym (ap (λ b. b && bit_of xs (64 * k + j)) (lt-ltb j (n - 64 * k) below))
      | inr past ↦ get_or_past xs (64 * k + j) false (omega arith) ∙ sym (ap (λ b. b && bit_of xs (64 * k + j)) (le-ltb j (n - 64 * k) past))
    ]))
