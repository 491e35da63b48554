use Rattle.std.proofs.Common.{[], ◌∷◌}
use Rattle.colbits.proofs.LaneLemmas.{bit-lanes_of}
use Rattle.colbits.proofs.lanes.lanes_of.Goals as goal

pub returns : goal.returns
returns c = λ k j h g.
    bit-lanes_of (c.args.a ∷ c.args.b ∷ c.args.c ∷ c.args.d ∷ []) (c.ranges.a.fits, (c.ranges.b.fits, (c.ranges.c.fits, (c.ranges.d.fits, tt)))) k j h g
