use Rattle.std.proofs.Common.{◌||◌, ◌∙◌}
use Rattle.colbits.proofs.WordLemmas.{bit_in-or}
use Rattle.colbits.proofs.places.EitherPlaces.word.Goals as goal

pub returns : goal.returns
returns g c = λ j h. bit_in-or _ _ j ∙ (λ i. c.word.ensures j h i || c.word-2.ensures j h i)
