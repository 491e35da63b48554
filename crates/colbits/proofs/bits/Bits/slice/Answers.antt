use Rattle.std.proofs.Common.{◌≡◌, ◌+◌, ◌/◌, ◌%◌, ◌≤◌, ◌∙◌, ℕ, List, ◌-◌, length, take, drop, sym, ap, arith, length-drop}
use Rattle.std.proofs.lemmas.List.{take_rest}
use Rattle.colbits.specs.Prelude.{bits, slice}
use Rattle.colbits.proofs.BitLemmas.{length-bits, bits-drop, slice-bits}
use Rattle.colbits.proofs.bits.Bits.slice.Goals as goal

-- the part that begins at place start, from the byte that holds its first bit on
part_of : (bytes : List ℕ) (shift n start len : ℕ) → start + len ≤ n
    → let k = start / 8 + (start % 8 + shift) / 8 in
    bits (take (length bytes - k) (drop k bytes)) ((start % 8 + shift) % 8) len ≡ slice (bits bytes shift n) start len
part_of bytes shift n start len h =
    ap (λ b. bits b ((start % 8 + shift) % 8) len) (take_rest bytes (start / 8 + (start % 8 + shift) / 8))
    ∙ bits-drop bytes _ _ len
    ∙ ap (λ p. bits bytes p len) (omega arith)
    ∙ sym (slice-bits bytes shift n start len h)

pub slice_bounds-result-count : goal.slice_bounds-result-count
slice_bounds-result-count c =
    let len = ap length (sym c.self.view_is) ∙ length-bits _ _ _ in
    omega (arith, len)

pub slice_bounds-result-start : goal.slice_bounds-result-start
slice_bounds-result-start c =
    let len = ap length (sym c.self.view_is) ∙ length-bits _ _ _ in
    omega (arith, len)

pub invariant_of-result : goal.invariant_of-result
invariant_of-result c =
    let len = ap length (sym c.self.view_is) ∙ length-bits _ _ _ in
    (omega arith, omega (arith, len, length-drop {A = ℕ}))

pub returns : goal.returns
returns c =
    let s = c.self.inside in
    let len = ap length (sym c.self.view_is) ∙ length-bits _ _ _ in
    part_of s.bytes.now s.shift s.len c.args.start c.args.len (omega (arith, len))
    ∙ ap (λ b. slice b c.args.start c.args.len) c.self.view_is
