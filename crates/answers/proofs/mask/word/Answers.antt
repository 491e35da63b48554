use Rattle.std.proofs.Common.{◌&&◌, ◌∙◌}
use Rattle.arrays.proofs.WordLemmas.{bit_in-and}
use Rattle.answers.proofs.mask.word.Goals as goal

pub returns : goal.returns
returns c = λ j h. bit_in-and c.valid_word.result c.word.result j ∙ (λ k. c.valid_word.ensures j h k && c.word.ensures j h k)
