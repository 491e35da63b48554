-- The integer of a text.
use Rattle.std.proofs.Common.{◌≡◌, ◌^◌, ℕ, ℤ, nat_abs, nat_lt, Bool, true, false, cond, List, Option, Some, None, option_and_then, sym}
use Rattle.json_read.specs.Prelude.{narrow, spelled}

chosen : (b : Bool) (z w : ℤ) → Some w ≡ cond b (Some z) None → Some z ≡ Some w
chosen true z w e = sym e
chosen false z w e = absurd cc

pub text_spelled : (s : List ℕ) (w : ℤ) → Some w ≡ option_and_then narrow (spelled s) → spelled s ≡ Some w
text_spelled s w e = go (spelled s) e
  where
    go : (o : Option ℤ) → Some w ≡ option_and_then narrow o → o ≡ Some w
    go None f = absurd cc
    go (Some z) f = chosen (nat_lt (nat_abs z) (2 ^ 64)) z w f
