-- Bits of words.
use Rattle.std.proofs.Common.{◌≡◌, ◌∙◌, ℕ, ◌+◌, ◌*◌, ◌%◌, ◌^◌, ◌<◌, Bool, true, false, ◌&&◌, nat_lt, bit_or, sym, ap}
use mir.Val.{bits as width}
use Rattle.std.specs.Int.{Width, from_bool}
use Rattle.std.specs.Int.Bits.{or_zero_r}
use Rattle.std.proofs.Math.Nat.{zero-mod, zero-mul}
use Rattle.arrays.specs.Prelude.{bit_in}
use Rattle.arrays.proofs.BitLemmas.{bits-set, bits-left}

-- one more answer put into a word
set_by : (w : Width) (f : ℕ → Bool) (word j : ℕ) (b : Bool) → j < width w → b ≡ f j → ((k : ℕ) → bit_in word k ≡ (nat_lt k j && f k))
    → (k : ℕ) → bit_in (bit_or word (from_bool b * 2 ^ j % 2 ^ width w)) k ≡ (nat_lt k (j + 1) && f k)
set_by w f word j true small is before = bits-set w f word j small (sym is) before
set_by w f word j false small is before = λ k.
    ap (λ n. bit_in (bit_or word (n % 2 ^ width w)) k) (zero-mul (2 ^ j))
    ∙ ap (λ n. bit_in (bit_or word n) k) (zero-mod (2 ^ width w))
    ∙ ap (λ n. bit_in n k) (or_zero_r word)
    ∙ bits-left f word j (sym is) before k

pub bits-reported : (w : Width) (f : ℕ → Bool) (word j n : ℕ) (b : Bool) → j < width w → n ≡ from_bool b → b ≡ f j → ((k : ℕ) → bit_in word k ≡ (nat_lt k j && f k))
    → (k : ℕ) → bit_in (bit_or word (n * 2 ^ j % 2 ^ width w)) k ≡ (nat_lt k (j + 1) && f k)
bits-reported w f word j n b small from is before k =
    ap (λ m. bit_in (bit_or word (m * 2 ^ j % 2 ^ width w)) k) from ∙ set_by w f word j b small is before k
