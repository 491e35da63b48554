use Rattle.colbits.proofs.BuildingLemmas.{joined-bits}
use Rattle.colbits.proofs.bitmap.builder.joined.Goals as goal

pub returns : goal.returns
returns c = λ j h. joined-bits c.args.last c.args.word c.args.used j h
