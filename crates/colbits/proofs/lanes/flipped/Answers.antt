use Rattle.colbits.proofs.LaneLemmas.{bit-lanes_not}
use Rattle.colbits.proofs.lanes.flipped.Goals as goal

pub returns : goal.returns
returns c = λ j h. bit-lanes_not c.args.a j c.fits-a.0 c.fits-a.1 h
