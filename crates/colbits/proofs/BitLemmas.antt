-- Bits of bytes, as a list.
use Rattle.std.proofs.Common.{◌&&◌, ◌≢◌, ◌^◌, true, inl, inr, not, nat_lt, bit_or, subst, zero-add, lt-ltb, le-ltb, ◌≡◌, ℕ, zero, suc, ◌+◌, ◌*◌, ◌-◌, ◌/◌, ◌%◌, ◌<◌, ◌≤◌, ◌∙◌, List, ◌∷◌, Bool, false, Some, map, length, take, drop, get_or, slice_get, slice_index, nat_eq, ap, sym, refl, arith, add-zero}
use Rattle.std.specs.List.{range_with_len}
use Rattle.std.specs.Int.{bit_at, Width}
use mir.Val.{bits as width}
use Rattle.std.proofs.lemmas.List.FromFn.{fill_by_all, length-map-range_with_len, get_or-map-range_with_len, take-map-range_with_len}
use Rattle.std.proofs.lemmas.List.{get_or-drop, get_or_past}
use Rattle.std.proofs.lemmas.Simd.{map-map}
use Rattle.std.proofs.lemmas.Bool.{cases_lt, cases_eq}
use Rattle.std.proofs.lemmas.Nat.Bits.{bit_at-zero, bit_at_set_same, bit_at_set_other}
use Rattle.std.proofs.lemmas.Option.{slice_get-get_or}
use Rattle.colbits.specs.Prelude.{bit, bit_in, bit_of, bits, slice}

-- ---- lists of f a, f (a + 1), ..

pub map-range-same : {X : Type 0} (f g : ℕ → X) (a b n : ℕ) → ((i : ℕ) → f (a + i) ≡ g (b + i)) → map f (range_with_len a n) ≡ map g (range_with_len b n)
map-range-same f g a b zero h = refl
map-range-same f g a b (suc n) h =
    let here : f a ≡ g b = ap f (sym (add-zero a)) ∙ h 0 ∙ ap g (add-zero b) in
    let there = map-range-same f g (a + 1) (b + 1) n (λ i. ap f (omega arith) ∙ h (1 + i) ∙ ap g (omega arith)) in
    ap (λ x. x ∷ map f (range_with_len (a + 1) n)) here ∙ ap (λ xs. g b ∷ xs) there

pub drop-map-range : {X : Type 0} (f : ℕ → X) (a n k : ℕ) → k ≤ n → drop k (map f (range_with_len a n)) ≡ map f (range_with_len (a + k) (n - k))
drop-map-range f a n zero h =
    ap (λ b. map f (range_with_len b n)) (sym (add-zero a)) ∙ ap (λ m. map f (range_with_len (a + 0) m)) (omega arith)
drop-map-range f a zero (suc k) h = absurd (omega arith)
drop-map-range f a (suc n) (suc k) h =
    drop-map-range f (a + 1) n k (omega arith)
    ∙ ap (λ b. map f (range_with_len b (n - k))) (omega arith)
    ∙ ap (λ m. map f (range_with_len (a + suc k) m)) (omega arith)

-- ---- bits

pub length-bits : (bytes : List ℕ) (s n : ℕ) → length (bits bytes s n) ≡ n
unfolding bits
length-bits bytes s n = length-map-range_with_len (bit bytes) s n

pub get_or-bits : (bytes : List ℕ) (s n i : ℕ) (d : Bool) → i < n → get_or (bits bytes s n) i d ≡ bit bytes (s + i)
unfolding bits
get_or-bits bytes s n i d h = get_or-map-range_with_len (bit bytes) s n i (s + i) d h refl

pub slice_get-bits : (bytes : List ℕ) (s n i : ℕ) → i < n → slice_get (bits bytes s n) i ≡ Some (bit bytes (s + i))
slice_get-bits bytes s n i h =
    let within : i < length (bits bytes s n) = omega (arith, length-bits bytes s n) in
    slice_get-get_or (bits bytes s n) i false within ∙ ap Some (get_or-bits bytes s n i false h)

-- a bit of the bytes from byte k on
pub bit-drop : (bytes : List ℕ) (k i : ℕ) → bit (drop k bytes) i ≡ bit bytes (8 * k + i)
unfolding bit
bit-drop bytes k i =
    let byte : slice_index (drop k bytes) (i / 8) ≡ slice_index bytes ((8 * k + i) / 8) =
    get_or-drop k bytes (i / 8) 0 ∙ ap (slice_index bytes) (omega arith) in
    let place : i % 8 ≡ (8 * k + i) % 8 = omega arith in
    ap (λ b. nat_eq (bit_at b (i % 8)) 1) byte ∙ ap (λ p. nat_eq (bit_at (slice_index bytes ((8 * k + i) / 8)) p) 1) place

pub bits-drop : (bytes : List ℕ) (k s n : ℕ) → bits (drop k bytes) s n ≡ bits bytes (8 * k + s) n
unfolding bits
bits-drop bytes k s n =
    map-range-same (bit (drop k bytes)) (bit bytes) s (8 * k + s) n (λ i. bit-drop bytes k (s + i) ∙ ap (bit bytes) (omega arith))

pub slice-bits : (bytes : List ℕ) (s n start len : ℕ) → start + len ≤ n → slice (bits bytes s n) start len ≡ bits bytes (s + start) len
unfolding bits
slice-bits bytes s n start len h =
    ap (take len) (drop-map-range (bit bytes) s n start (omega arith))
    ∙ take-map-range_with_len (bit bytes) (s + start) (n - start) len (omega arith)

-- the bytes before the one that holds bit s don't matter
pub bits-from_byte : (bytes : List ℕ) (s n : ℕ) → bits (drop (s / 8) bytes) (s % 8) n ≡ bits bytes s n
bits-from_byte bytes s n = bits-drop bytes (s / 8) (s % 8) n ∙ ap (λ p. bits bytes p n) (omega arith)

pub ruleset bit_lists = (length-bits, slice_get-bits)

-- ---- bitmaps

-- a list of bits, read place by place
pub listed : (xs : List Bool) → map (bit_of xs) (range_with_len 0 (length xs)) ≡ xs
listed xs = sym (fill_by_all (bit_of xs) xs (length xs) false refl (λ k h. refl))

-- the negation, read place by place
pub listed_not : (xs : List Bool) → map (λ i. not (bit_of xs i)) (range_with_len 0 (length xs)) ≡ map not xs
listed_not xs = sym (map-map not (bit_of xs) (range_with_len 0 (length xs))) ∙ ap (map not) (listed xs)

-- one more bit of a number made 1, or none
pub bits-set : (w : Width) (f : ℕ → Bool) (byte j : ℕ) → j < width w → f j ≡ true → ((k : ℕ) → bit_in byte k ≡ (nat_lt k j && f k))
    → (k : ℕ) → bit_in (bit_or byte (1 * 2 ^ j % 2 ^ width w)) k ≡ (nat_lt k (j + 1) && f k)
bits-set w f byte j small one h k =
    elim (cases_eq k j) [
      | inl same ↦ (
          let set : bit_in (bit_or byte (1 * 2 ^ j % 2 ^ width w)) j ≡ true = ap (λ b. nat_eq b 1) (bit_at_set_same w byte j small) in
          subst (λ i. bit_in (bit_or byte (1 * 2 ^ j % 2 ^ width w)) i ≡ (nat_lt i (j + 1) && f i)) (sym same)
          (set ∙ sym (ap (λ b. b && f j) (lt-ltb j (j + 1) (omega arith)) ∙ one)))
      | inr other ↦ (
          ap (λ b. nat_eq b 1) (bit_at_set_other w byte j small k other) ∙ h k ∙ ap (λ b. b && f k) (below-next k j other))
    ]
  where
    below-next : (k j : ℕ) → k ≢ j → nat_lt k j ≡ nat_lt k (j + 1)
    below-next k j other =
        elim (cases_lt k j) [
          | inl h ↦ lt-ltb k j h ∙ sym (lt-ltb k (j + 1) (omega arith))
          | inr h ↦ le-ltb k j h ∙ sym (le-ltb k (j + 1) (omega arith))
        ]

pub bits-left : (f : ℕ → Bool) (byte j : ℕ) → f j ≡ false → ((k : ℕ) → bit_in byte k ≡ (nat_lt k j && f k))
    → (k : ℕ) → bit_in byte k ≡ (nat_lt k (j + 1) && f k)
bits-left f byte j unset h k = h k ∙ next
  where
    next : (nat_lt k j && f k) ≡ (nat_lt k (j + 1) && f k)
    next =
        elim (cases_lt k j) [
          | inl below ↦ ap (λ b. b && f k) (lt-ltb k j below ∙ sym (lt-ltb k (j + 1) (omega arith)))
          | inr past ↦ elim (cases_eq k j) [
            | inl same ↦ ap (λ b. b && f k) (le-ltb k j past) ∙ sym (ap (λ b. nat_lt k (j + 1) && b) (ap f same ∙ unset) ∙ none (nat_lt k (j + 1)))
            | inr other ↦ ap (λ b. b && f k) (le-ltb k j past ∙ sym (le-ltb k (j + 1) (omega arith)))
          ]
        ]
      where
        none : (b : Bool) → (b && false) ≡ false
        none true = refl
        none false = refl

-- no bit of a byte of 0 is 1
pub bits-zero : (f : ℕ → Bool) (k : ℕ) → bit_in 0 k ≡ (nat_lt k 0 && f k)
bits-zero f k = ap (λ b. nat_eq b 1) (bit_at-zero k) ∙ sym (ap (λ b. b && f k) (le-ltb k 0 (omega arith)))

-- no byte lies past the last
pub bit-past : (bytes : List ℕ) (i : ℕ) → 8 * length bytes ≤ i → bit bytes i ≡ false
unfolding bit
bit-past bytes i h =
    ap (λ b. nat_eq (bit_at b (i % 8)) 1) (get_or_past bytes (i / 8) 0 (omega arith)) ∙ ap (λ b. nat_eq b 1) (bit_at-zero (i % 8))

-- bytes for n places have f at each place below n, and 0 at all others
pub bytes-whole : (f : ℕ → Bool) (n : ℕ) (bytes : List ℕ) → length bytes ≡ (n + 7) / 8 → ((i : ℕ) → i < 8 * length bytes → bit bytes i ≡ (nat_lt i n && f i))
    → (i : ℕ) → bit bytes i ≡ (nat_lt i n && f i)
bytes-whole f n bytes long h i =
    elim (cases_lt i (8 * length bytes)) [
      | inl below ↦ h i below
      | inr past ↦ bit-past bytes i past ∙ sym (ap (λ b. b && f i) (le-ltb i n (omega arith)))
    ]

-- bytes that have f at each place below n, and 0 at all others
pub bits-filled : (f : ℕ → Bool) (bytes : List ℕ) (n : ℕ) → ((k : ℕ) → bit bytes k ≡ (nat_lt k n && f k)) → bits bytes 0 n ≡ map f (range_with_len 0 n)
bits-filled f bytes n h =
    fill_by_all f (bits bytes 0 n) n false (length-bits bytes 0 n)
    (λ k within. get_or-bits bytes 0 n k false within ∙ ap (bit bytes) (zero-add k) ∙ h k ∙ ap (λ b. b && f k) (lt-ltb k n within))

pub past-filled : (f : ℕ → Bool) (bytes : List ℕ) (n : ℕ) → ((k : ℕ) → bit bytes k ≡ (nat_lt k n && f k)) → (k : ℕ) → n ≤ k → bit bytes k ≡ false
past-filled f bytes n h k past = h k ∙ ap (λ b. b && f k) (le-ltb k n past)
