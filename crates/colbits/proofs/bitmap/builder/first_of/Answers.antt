use Rattle.colbits.proofs.BuildingLemmas.{first-bits}
use Rattle.colbits.proofs.bitmap.builder.first_of.Goals as goal

pub returns : goal.returns
returns c = λ j h. first-bits c.args.word c.args.count j c.requires
