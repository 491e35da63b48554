use Rattle.std.proofs.Common.{◌≡◌, ◌+◌, ◌/◌, ◌%◌, ◌<◌, ◌∙◌, ℕ, List, Some, length, slice_get, slice_index, nat_eq, sym, ap, arith}
use Rattle.std.proofs.lemmas.Nat.Bits.{shr_and_one}
use Rattle.std.specs.Int.{bit_at}
use Rattle.colbits.specs.Bit.{bit}
use Rattle.colbits.proofs.BitLemmas.{length-bits, slice_get-bits}
use Rattle.colbits.proofs.bits.Bits.get.Goals as goal

-- byte and bit of place shift + i, apart
bit-apart : (bytes : List ℕ) (shift i : ℕ) → bit bytes (shift + i) ≡ nat_eq (bit_at (slice_index bytes (i / 8 + (i % 8 + shift) / 8)) ((i % 8 + shift) % 8)) 1
unfolding bit
bit-apart bytes shift i =
    let byte : (shift + i) / 8 ≡ i / 8 + (i % 8 + shift) / 8 = omega arith in
    let place : (shift + i) % 8 ≡ (i % 8 + shift) % 8 = omega arith in
    ap (λ k. nat_eq (bit_at (slice_index bytes k) ((shift + i) % 8)) 1) byte
    ∙ ap (λ k. nat_eq (bit_at (slice_index bytes (i / 8 + (i % 8 + shift) / 8)) k) 1) place

pub bounds-self-inside-i : goal.bounds-self-inside-i
bounds-self-inside-i c =
    let len = ap length (sym c.self.view_is) ∙ length-bits _ _ _ in
    omega (arith, len)

pub returns : goal.returns
returns c =
    let s = c.self.inside in
    let len = ap length (sym c.self.view_is) ∙ length-bits _ _ _ in
    let within : c.args.i < s.len = omega (arith, len) in
    ap (λ b. slice_get b c.args.i) (sym c.self.view_is)
    ∙ slice_get-bits _ _ _ c.args.i within
    ∙ ap Some (bit-apart s.bytes.now s.shift c.args.i)
    ∙ ap (λ b. Some (nat_eq b 1)) (sym (shr_and_one _ _))
