use Rattle.std.proofs.Common.{◌≡◌, ◌+◌, ◌*◌, ◌/◌, ◌%◌, ◌<◌, ◌∙◌, ℕ, ap, arith}
use Rattle.colbits.specs.Prelude.{bit, bit_in, bit_of}
use Rattle.colbits.proofs.LaneLemmas.{each-of_four}
use Rattle.colbits.proofs.bits.Bits.few_lanes.Goals as goal

pub returns : goal.returns
returns c = λ j h.
    let f = bit_of c.args.self.now in
    let i = c.args.i in
    let P = λ (k word : ℕ). (n : ℕ) → n < 64 → bit_in word n ≡ f (i + (64 * k + n)) in
    let reported = each-of_four P _ _ _ _
    (λ n m. c.word-a.ensures n m ∙ ap f (omega arith))
    (λ n m. c.word-b.ensures n m ∙ ap f (omega arith))
    (λ n m. c.word-c.ensures n m ∙ ap f (omega arith))
    (λ n m. c.word-d.ensures n m ∙ ap f (omega arith)) in
    ap (bit c.lanes_of.result) (omega arith)
    ∙ c.lanes_of.ensures (j / 64) (j % 64) (omega arith) (omega arith)
    ∙ reported (j / 64) (omega arith) (j % 64) (omega arith)
    ∙ ap f (omega arith)
