use Rattle.std.proofs.Common.{◌&&◌, ◌||◌, ◌∙◌, ap, w64}
use Rattle.colbits.specs.Bit.{bit_in}
use Rattle.colbits.proofs.WordLemmas.{bit_in-not, bit_in-or}
use Rattle.kernels.proofs.PackedLemmas.{choice}
use Rattle.kernels.proofs.comparison.packed.chosen.Goals as goal

pub returns : goal.returns
returns c = λ j h.
    let word = c.args.word in
    bit_in-or _ _ j
    ∙ (λ k. c.kept_if.ensures j k || c.kept_if-2.ensures j k)
    ∙ ap (λ b. (bit_in word j && c.args.there) || (b && c.args.elsewhere)) (bit_in-not w64 word j c.ranges.word.fits h)
    ∙ choice (bit_in word j) c.args.there c.args.elsewhere
