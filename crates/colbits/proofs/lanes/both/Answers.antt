use Rattle.colbits.proofs.LaneLemmas.{bit-lanes_and}
use Rattle.colbits.proofs.lanes.both.Goals as goal

pub returns : goal.returns
returns c = λ j h. bit-lanes_and c.args.a c.args.b j c.fits-a.0 c.fits-b.0 h
