-- Bits of vectors of 32 bytes, which proofs see as the lists of their lanes.
use Rattle.std.proofs.Common.{true, zero, suc, [], ◌∷◌, refl, ◌≡◌, ◌&&◌, ◌||◌, not, Bool, Fits, map, bit_and, w8, ℕ, ◌+◌, ◌-◌, ◌*◌, ◌/◌, ◌%◌, ◌^◌, ◌<◌, ◌∙◌, List, length, drop, get_or, slice_index, nat_eq, replicate, bit_or, ap, arith}
use Rattle.std.proofs.lemmas.Simd.{Each1-get_or, get_or_narrower, get_or-replicate, get_or-zip2, length-zip2}
use Rattle.std.proofs.lemmas.List.{get_or-map}
use Rattle.std.proofs.lemmas.Nat.Bits.{bit_at_ones}
use lib.Lanes.{Each1, digits_l, number_l, zip2}
use Rattle.std.specs.Int.{bit_at}
use Rattle.colbits.specs.Prelude.{bit, bit_in, slice}
use Rattle.colbits.proofs.BitLemmas.{bit-drop}
use Rattle.colbits.proofs.WordLemmas.{bit_at-mod, bit_at-shr, pow-256, bit-take, bit_in-and, bit_in-not, bit_in-or}

-- in each lane the high bits of low, with the low bits of high above them
abbrev joined : List ℕ → List ℕ → ℕ → List ℕ
joined low high shift =
    zip2 (λ a b. bit_or a b) (zip2 (λ a b. a / 2 ^ b) low (replicate 32 shift)) (zip2 (λ a b. a * 2 ^ b % 256) high (replicate 32 (8 - shift)))

pub lane-joined : (low high : List ℕ) (shift k : ℕ) → length low ≡ 32 → length high ≡ 32 → k < 32
    → get_or (joined low high shift) k 0 ≡ bit_or (get_or low k 0 / 2 ^ shift) (get_or high k 0 * 2 ^ (8 - shift) % 256)
lane-joined low high shift k l h within =
    let x = zip2 (λ a b. a / 2 ^ b) low (replicate 32 shift) in
    let y = zip2 (λ a b. a * 2 ^ b % 256) high (replicate 32 (8 - shift)) in
    let a = length-zip2 (λ a b. a / 2 ^ b) low (replicate 32 shift) l ∙ l in
    let b = length-zip2 (λ a b. a * 2 ^ b % 256) high (replicate 32 (8 - shift)) h ∙ h in
    get_or-zip2 (λ a b. bit_or a b) x y k 0 0 0 (omega arith) (omega arith)
    ∙ (λ i. bit_or
    ((get_or-zip2 (λ a b. a / 2 ^ b) low (replicate 32 shift) k 0 0 0 (omega arith) within ∙ ap (λ s. get_or low k 0 / 2 ^ s) (get_or-replicate 32 k shift 0 within)) i)
    ((get_or-zip2 (λ a b. a * 2 ^ b % 256) high (replicate 32 (8 - shift)) k 0 0 0 (omega arith) within ∙ ap (λ s. get_or high k 0 * 2 ^ s % 256) (get_or-replicate 32 k (8 - shift) 0 within)) i))

-- a bit of a lane
pub bit-lane : (lanes : List ℕ) (k i : ℕ) → i < 8 → bit lanes (8 * k + i) ≡ bit_in (slice_index lanes k) i
unfolding bit
bit-lane lanes k i h =
    ap (λ b. nat_eq (bit_at (slice_index lanes b) ((8 * k + i) % 8)) 1) (omega arith) ∙ ap (λ p. nat_eq (bit_at (slice_index lanes k) p) 1) (omega arith)

-- the bits of a load
pub bit-load : (bytes : List ℕ) (at i : ℕ) → i < 256 → bit (slice bytes at 32) i ≡ bit bytes (8 * at + i)
bit-load bytes at i h = bit-take (drop at bytes) 32 i (omega arith) ∙ bit-drop bytes at i

-- ---- operations on vectors

-- what f does to each bit of two numbers, it does to each bit of two vectors
bit-both : (f : ℕ → ℕ → ℕ) (g : Bool → Bool → Bool) → ((a b i : ℕ) → bit_in (f a b) i ≡ g (bit_in a i) (bit_in b i))
    → (xs ys : List ℕ) (i : ℕ) → length xs ≡ 32 → length ys ≡ 32 → i < 256 → bit (zip2 f xs ys) i ≡ g (bit xs i) (bit ys i)
unfolding bit
bit-both f g law xs ys i l m h =
    let k = i / 8 in
    ap (λ b. nat_eq (bit_at b (i % 8)) 1) (get_or-zip2 f xs ys k 0 0 0 (omega arith) (omega arith)) ∙ law (get_or xs k 0) (get_or ys k 0) (i % 8)

pub bit-lanes_and : (xs ys : List ℕ) (i : ℕ) → length xs ≡ 32 → length ys ≡ 32 → i < 256 → bit (zip2 (λ a b. bit_and a b) xs ys) i ≡ (bit xs i && bit ys i)
bit-lanes_and = bit-both (λ a b. bit_and a b) ◌&&◌ bit_in-and

pub bit-lanes_or : (xs ys : List ℕ) (i : ℕ) → length xs ≡ 32 → length ys ≡ 32 → i < 256 → bit (zip2 (λ a b. bit_or a b) xs ys) i ≡ (bit xs i || bit ys i)
bit-lanes_or = bit-both (λ a b. bit_or a b) ◌||◌ bit_in-or

pub bit-lanes_not : (xs : List ℕ) (i : ℕ) → length xs ≡ 32 → Each1 (Fits w8) xs → i < 256 → bit (map (λ a. 255 - a) xs) i ≡ not (bit xs i)
unfolding bit
bit-lanes_not xs i l fits h =
    let k = i / 8 in
    let within : k < length xs = omega arith in
    ap (λ b. nat_eq (bit_at b (i % 8)) 1) (get_or-map (λ a. 255 - a) xs k 0 0 within)
    ∙ bit_in-not w8 (get_or xs k 0) (i % 8) (Each1-get_or (Fits w8) xs k 0 within fits).fits (omega arith)

-- ---- four words

-- the bits of four words that are cut into bytes
pub bit-lanes_of : (words : List ℕ) → Each1 (λ x. x < 2 ^ 64) words → (k i : ℕ) → k < 4 → i < 64
    → bit (digits_l 256 32 (number_l (2 ^ 64) words)) (64 * k + i) ≡ bit_in (slice_index words k) i
unfolding bit
bit-lanes_of words fits k i few within =
    let lanes = digits_l 256 32 (number_l (2 ^ 64) words) in
    let r = i / 8 in
    let word = slice_index words k in
    let lane : (64 * k + i) / 8 ≡ 8 * k + r = omega arith in
    let place : (64 * k + i) % 8 ≡ i % 8 = omega arith in
    ap (λ n. nat_eq (bit_at (slice_index lanes n) ((64 * k + i) % 8)) 1) lane
    ∙ ap (λ n. nat_eq (bit_at (slice_index lanes (8 * k + r)) n) 1) place
    ∙ ap (λ b. nat_eq (bit_at b (i % 8)) 1) (get_or_narrower (2 ^ 64) 8 256 32 words k r refl fits (omega arith) (omega arith) ∙ ap (λ p. word / p % 256) (pow-256 r))
    ∙ ap (λ b. nat_eq b 1) (bit_at-mod (word / 2 ^ (8 * r)) 8 (i % 8) (omega arith) ∙ bit_at-shr word (8 * r) (i % 8) ∙ ap (bit_at word) (omega arith))

-- what holds of each of four
pub each-of_four : (P : ℕ → ℕ → Type 0) (a b c d : ℕ) → P 0 a → P 1 b → P 2 c → P 3 d → (k : ℕ) → k < 4 → P k (slice_index (a ∷ b ∷ c ∷ d ∷ []) k)
each-of_four P a b c d p q r s zero h = p
each-of_four P a b c d p q r s (suc zero) h = q
each-of_four P a b c d p q r s (suc (suc zero)) h = r
each-of_four P a b c d p q r s (suc (suc (suc zero))) h = s
each-of_four P a b c d p q r s (suc (suc (suc (suc k)))) h = absurd (omega arith)

-- each bit of bytes of 255 is 1
pub bit-ones : (i : ℕ) → i < 256 → bit (replicate 32 255) i ≡ true
unfolding bit
bit-ones i h =
    ap (λ b. nat_eq (bit_at b (i % 8)) 1) (get_or-replicate 32 (i / 8) 255 0 (omega arith)) ∙ ap (λ n. nat_eq n 1) (bit_at_ones 8 (i % 8) (omega arith))
