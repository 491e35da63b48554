use Rattle.colbits.proofs.LaneLemmas.{bit-lanes_or}
use Rattle.colbits.proofs.lanes.either.Goals as goal

pub returns : goal.returns
returns c = λ j h. bit-lanes_or c.args.a c.args.b j c.fits-a.0 c.fits-b.0 h
