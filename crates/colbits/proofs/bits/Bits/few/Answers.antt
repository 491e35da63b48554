use Rattle.std.proofs.Common.{◌≡◌, ◌+◌, ◌&&◌, ◌<◌, ℕ, nat_lt, false, sym, ◌∙◌, subst, arith, w64}
use Rattle.std.proofs.lemmas.Option.{get_or_from_slice_get}
use Rattle.colbits.specs.Prelude.{bit_in, bit_of}
use Rattle.colbits.proofs.BitLemmas.{bits-set, bits-left, bits-zero}
use Rattle.colbits.proofs.bits.Bits.few.Goals as goal
use Rattle.colbits.proofs.bits.Bits.few.Goals.{then-get, else-get}

pub loop-j-init : goal.loop-j-init
loop-j-init c = bits-zero (λ k. bit_of c.args.self.now (c.args.start + k))

pub loop-j-preserved : goal.loop-j-preserved
loop-j-preserved c =
    let f = λ (k : ℕ). bit_of c.args.self.now (c.args.start + k) in
    let j = c.loop-j.j in
    let P = λ (word : ℕ). (k : ℕ) → bit_in word k ≡ (nat_lt k (j + 1) && f k) in
    let small : j < 64 = omega arith in
    let is = get_or_from_slice_get c.args.self.now (c.args.start + j) _ false c.get.ensures in
    elim c.if-get.branch [
      | then-get w ↦ subst P (sym w.word-is) (bits-set w64 f c.loop-j.word j small (is ∙ w.if-get.true) c.loop-j.invariant)
      | else-get w ↦ subst P (sym w.word-is) (bits-left f c.loop-j.word j (is ∙ w.if-get.false) c.loop-j.invariant)
    ]
