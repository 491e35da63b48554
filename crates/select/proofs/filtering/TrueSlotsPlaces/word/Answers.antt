use Rattle.std.proofs.Common.{◌∙◌, ◌&&◌}
use Rattle.arrays.proofs.WordLemmas.{bit_in-and}
use Rattle.select.proofs.filtering.TrueSlotsPlaces.word.Goals as goal

pub returns : goal.returns
returns c = λ j h. bit_in-and c.whole_word.result c.word.result j ∙ (λ k. c.whole_word.ensures j h k && c.word.ensures j h k)
