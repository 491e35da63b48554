-- Results packed into a word, and words chosen bit by bit.
use Rattle.std.proofs.Common.{◌≡◌, ◌∙◌, ℕ, ◌+◌, ◌*◌, ◌%◌, ◌^◌, ◌<◌, Bool, true, false, not, ◌&&◌, ◌||◌, ◌==◌, cond, nat_lt, bit_or, List, length, get_or, set, get_or-set_other, get_or-set_same, ◌≢◌, arith, refl, sym, ap}
use borrow.Author.Count.{below_more}
use mir.Val.{bits as width}
use Rattle.std.specs.Int.{Width, from_bool}
use Rattle.std.specs.Int.Bits.{or_zero_r}
use Rattle.std.proofs.Math.Nat.{zero-mod, zero-mul}
use Rattle.colbits.specs.Bit.{bit_in}
use Rattle.colbits.proofs.BitLemmas.{bits-set, bits-left}

-- one more result put into a word
set_by : (w : Width) (f : ℕ → Bool) (word j : ℕ) (b : Bool) → j < width w → b ≡ f j → ((k : ℕ) → bit_in word k ≡ (nat_lt k j && f k))
    → (k : ℕ) → bit_in (bit_or word (from_bool b * 2 ^ j % 2 ^ width w)) k ≡ (nat_lt k (j + 1) && f k)
set_by w f word j true small is before = bits-set w f word j small (sym is) before
set_by w f word j false small is before = λ k.
    ap (λ n. bit_in (bit_or word (n % 2 ^ width w)) k) (zero-mul (2 ^ j))
    ∙ ap (λ n. bit_in (bit_or word n) k) (zero-mod (2 ^ width w))
    ∙ ap (λ n. bit_in n k) (or_zero_r word)
    ∙ bits-left f word j (sym is) before k

pub bits-reported : (w : Width) (f : ℕ → Bool) (word j n : ℕ) (b : Bool) → j < width w → n ≡ from_bool b → b ≡ f j → ((k : ℕ) → bit_in word k ≡ (nat_lt k j && f k))
    → (k : ℕ) → bit_in (bit_or word (n * 2 ^ j % 2 ^ width w)) k ≡ (nat_lt k (j + 1) && f k)
bits-reported w f word j n b small from is before k =
    ap (λ m. bit_in (bit_or word (m * 2 ^ j % 2 ^ width w)) k) from ∙ set_by w f word j b small is before k

-- one of two answers, by a bit
pub choice : (b there elsewhere : Bool) → ((b && there) || (not b && elsewhere)) ≡ cond b there elsewhere
choice true true elsewhere = refl
choice true false elsewhere = refl
choice false there elsewhere = refl

-- a flag that is a truth value as a number
pub flag_is : (b : Bool) → not (from_bool b == 0) ≡ b
flag_is true = refl
flag_is false = refl

-- one more flag set
pub flags_more : (f : ℕ → Bool) (flags : List ℕ) (j flag : ℕ) → j < length flags → flag ≡ from_bool (f j) → ((k : ℕ) → k < j → get_or flags k 0 ≡ from_bool (f k))
    → (k : ℕ) → k < j + 1 → get_or (set flags j flag) k 0 ≡ from_bool (f k)
flags_more f flags j flag within is before =
    below_more (λ k. get_or (set flags j flag) k 0 ≡ from_bool (f k)) j
    (λ k below. let ne : k ≢ j = omega arith in rw get_or-set_other (before k below))
    (rw get_or-set_same is)
