use Rattle.std.proofs.Common.{◌≡◌, ◌+◌, ◌&&◌, ◌<◌, ℕ, nat_lt, sym, ◌∙◌, subst, arith, w64}
use Rattle.colbits.specs.Bit.{bit_in}
use Rattle.colbits.proofs.BitLemmas.{bits-set, bits-left, bits-zero}
use Rattle.colbits.proofs.bitmap.last_word.Goals as goal
use Rattle.colbits.proofs.bitmap.last_word.Goals.{then-at, else-at}

pub loop-j-init : goal.loop-j-init
loop-j-init g c = bits-zero (λ k. g.P.Places.at c.args.places.now (c.args.start + k))

pub loop-j-preserved : goal.loop-j-preserved
loop-j-preserved g c =
    let f = λ (k : ℕ). g.P.Places.at c.args.places.now (c.args.start + k) in
    let j = c.loop-j.j in
    let P = λ (word : ℕ). (k : ℕ) → bit_in word k ≡ (nat_lt k (j + 1) && f k) in
    let small : j < 64 = omega arith in
    elim c.if-at.branch [
      | then-at w ↦ subst P (sym w.word-is) (bits-set w64 f c.loop-j.word j small (sym c.at.ensures ∙ w.if-at.true) c.loop-j.invariant)
      | else-at w ↦ subst P (sym w.word-is) (bits-left f c.loop-j.word j (sym c.at.ensures ∙ w.if-at.false) c.loop-j.invariant)
    ]
