use Rattle.std.proofs.Common.{◌&&◌, ◌+◌, ◌∙◌, ap, not, w64}
use Rattle.colbits.proofs.WordLemmas.{bit_in-and, bit_in-not}
use Rattle.arrays.proofs.TruthLemmas.{false_slot}
use Rattle.arrays.proofs.view.bools.Bools.false_word.Goals as goal

pub returns : goal.returns
returns c = λ j h.
    let i = c.args.i + j in
    let unset = bit_in-not w64 _ j c.whole_word.type_inv h ∙ ap not (c.whole_word.ensures j h) in
    bit_in-and _ _ j
    ∙ (λ k. c.valid_word.ensures j h k && unset k)
    ∙ false_slot c.args.self.now.values c.args.self.now.validity i
