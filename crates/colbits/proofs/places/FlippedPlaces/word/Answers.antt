use Rattle.std.proofs.Common.{w64, not, ◌∙◌, ap}
use Rattle.colbits.proofs.WordLemmas.{bit_in-not}
use Rattle.colbits.proofs.places.FlippedPlaces.word.Goals as goal

pub returns : goal.returns
returns g c = λ j h. bit_in-not w64 _ j c.word.type_inv h ∙ ap not (c.word.ensures j h)
