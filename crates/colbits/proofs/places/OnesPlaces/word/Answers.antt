use Rattle.std.proofs.Common.{ap, nat_eq}
use Rattle.std.proofs.lemmas.Nat.Bits.{bit_at_ones}
use Rattle.colbits.proofs.places.OnesPlaces.word.Goals as goal

pub returns : goal.returns
returns c = λ j h. ap (λ b. nat_eq b 1) (bit_at_ones 64 j h)
