-- Validities that are kept only where a slot isn't valid.
use Rattle.std.proofs.Common.{◌≡◌, ◌∙◌, ℕ, ◌<◌, List, map, Bool, true, false, not, cond, length, Option, Some, None, is_some, option_map, get_or, ap, sym, refl, arith, zero-add, le-ltb}
use Rattle.std.specs.List.{range_with_len, list_any, All}
use Rattle.std.proofs.lemmas.List.FromFn.{length-map-range_with_len, get_or-map-range_with_len}
use Rattle.std.proofs.lemmas.List.Folds.{list_any_at, list_any_none}
use Rattle.colbits.specs.Bit.{bit, bits}
use Rattle.colbits.proofs.BitLemmas.{get_or-bits}
use Rattle.layout.specs.Prelude.{Item, bytes_for, is_null, is_valid_in, is_validity_short, null, valid_in}
use Rattle.arrays.specs.Prelude.{IsBufferOf, kept}

-- ---- bits with a 0, or none

none_is_zero : (xs : List Bool) → All (λ b. b ≡ true) xs → list_any not xs ≡ false
none_is_zero xs h = list_any_none not xs (λ k d below. ap not (h k d below))

settled : (b c : Bool) → (b ≡ false → c ≡ true) → c ≡ false → b ≡ true
settled true c h e = refl
settled false c h e = let found = h refl in cc

all_are_one : (xs : List Bool) → list_any not xs ≡ false → All (λ b. b ≡ true) xs
all_are_one xs none k d below =
    settled (get_or xs k d) (list_any not xs) (λ zero. list_any_at not xs k d below (ap not zero)) none

pub kept-ones : (xs : List Bool) → All (λ b. b ≡ true) xs → kept xs ≡ None
kept-ones xs h = ap (λ b. cond b (Some xs) None) (none_is_zero xs h)

kept-by : (xs : List Bool) (b : Bool) → list_any not xs ≡ b → (All (λ b. b ≡ true) xs → ⊥) → kept xs ≡ Some xs
kept-by xs true e h = ap (λ b. cond b (Some xs) None) e
kept-by xs false e h = absurd (h (all_are_one xs e))

pub kept-some : (xs : List Bool) → (All (λ b. b ≡ true) xs → ⊥) → kept xs ≡ Some xs
kept-some xs h = kept-by xs (list_any not xs) refl h

-- what is known of bits by what is kept of them
valid-kept-by : (xs : List Bool) (b : Bool) (i : ℕ) → list_any not xs ≡ b → i < length xs → valid_in (cond b (Some xs) None) i ≡ get_or xs i false
valid-kept-by xs true i e below = refl
valid-kept-by xs false i e below = sym (all_are_one xs e i false below)

pub valid-kept : (xs : List Bool) (i : ℕ) → i < length xs → valid_in (kept xs) i ≡ get_or xs i false
valid-kept xs i below = valid-kept-by xs (list_any not xs) i refl below

pub valid-kept-places : (f : ℕ → Bool) (n i : ℕ) → i < n → valid_in (kept (map f (range_with_len 0 n))) i ≡ f i
valid-kept-places f n i below =
    let xs = map f (range_with_len 0 n) in
    valid-kept xs i (omega (arith, length-map-range_with_len f 0 n)) ∙ get_or-map-range_with_len f 0 n i i false below (zero-add i)

-- places that are all 1
pub kept-places-ones : (f : ℕ → Bool) (n : ℕ) → ((i : ℕ) → i < n → f i ≡ true) → kept (map f (range_with_len 0 n)) ≡ None
kept-places-ones f n h =
    kept-ones (map f (range_with_len 0 n))
    (λ k d below.
    let within : k < n = omega (arith, length-map-range_with_len f 0 n) in
    get_or-map-range_with_len f 0 n k k d within (zero-add k) ∙ h k within)

-- ---- without a validity

pub valid-none : (v : Option (List Bool)) (i : ℕ) → is_some v ≡ false → valid_in v i ≡ true
valid-none None i e = refl
valid-none (Some xs) i e = cc

-- ---- buffers

kept-length-by : (xs ys : List Bool) (b : Bool) → cond b (Some xs) None ≡ Some ys → ys ≡ xs
kept-length-by xs ys true e = cc
kept-length-by xs ys false e = cc

-- a bitmap of what is kept
pub record IsKept (n : ℕ) (f : ℕ → Bool) (buffer : Option (List ℕ)) : Type 0 where
  pub shown : option_map (λ bytes. bits bytes 0 n) buffer ≡ kept (map f (range_with_len 0 n))
  pub each : (i : ℕ) → i < n → is_valid_in buffer i ≡ f i
  pub long : is_validity_short n buffer ≡ false

bit-shown : (bytes : List ℕ) (n i : ℕ) → i < n → valid_in (Some (bits bytes 0 n)) i ≡ bit bytes i
bit-shown bytes n i below = get_or-bits bytes 0 n i false below ∙ ap (bit bytes) (zero-add i)

pub kept_buffer : (n : ℕ) (f : ℕ → Bool) (buffer : Option (List ℕ)) (validity : Option (List Bool)) → validity ≡ kept (map f (range_with_len 0 n)) → IsBufferOf buffer validity
    → IsKept n f buffer
kept_buffer n f None None e is = record {
  shown = e;
  each = λ i below. ap (λ v. valid_in v i) e ∙ valid-kept-places f n i below;
  long = refl;
}
kept_buffer n f None (Some ys) e is = absurd is
kept_buffer n f (Some bytes) None e is = absurd is
kept_buffer n f (Some bytes) (Some ys) e is =
    let xs = map f (range_with_len 0 n) in
    let same : ys ≡ xs = kept-length-by xs ys (list_any not xs) (sym e) in
    let size : length ys ≡ n = ap length same ∙ length-map-range_with_len f 0 n in
    let packed : bits bytes 0 n ≡ ys = ap (bits bytes 0) (sym size) ∙ is.values_are in
    record {
      shown = ap Some packed ∙ e;
      each =
          λ i below.
          sym (bit-shown bytes n i below)
          ∙ ap (λ v. valid_in (Some v) i) packed
          ∙ ap (λ v. valid_in v i) e
          ∙ valid-kept-places f n i below;
      long = le-ltb (length bytes) (bytes_for n) (omega (arith, is.bitmap.length_is, size));
    }

-- ---- a value where its slot is valid, else null

pub is_there : (v : Bool) (x : Item) → is_null x ≡ false → not (is_null (cond v x null)) ≡ v
is_there true x h = ap not h
is_there false x h = refl

pub slot_same : (p q : Bool) (x y : Item) → p ≡ q → (q ≡ true → x ≡ y) → cond p x null ≡ cond q y null
slot_same p true x y same is = ap (λ v. cond v x null) same ∙ is refl
slot_same p false x y same is = ap (λ v. cond v x null) same
