use Rattle.std.proofs.Common.{◌&&◌, ◌+◌, ◌∙◌}
use Rattle.colbits.proofs.WordLemmas.{bit_in-and}
use Rattle.arrays.proofs.TruthLemmas.{true_slot}
use Rattle.arrays.proofs.view.bools.Bools.true_word.Goals as goal

pub returns : goal.returns
returns c = λ j h.
    let i = c.args.i + j in
    bit_in-and _ _ j
    ∙ (λ k. c.valid_word.ensures j h k && c.whole_word.ensures j h k)
    ∙ true_slot c.args.self.now.values c.args.self.now.validity i
