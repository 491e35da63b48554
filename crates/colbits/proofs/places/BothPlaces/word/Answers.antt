use Rattle.std.proofs.Common.{◌&&◌, ◌∙◌}
use Rattle.colbits.proofs.WordLemmas.{bit_in-and}
use Rattle.colbits.proofs.places.BothPlaces.word.Goals as goal

pub returns : goal.returns
returns g c = λ j h. bit_in-and _ _ j ∙ (λ i. c.word.ensures j h i && c.word-2.ensures j h i)
