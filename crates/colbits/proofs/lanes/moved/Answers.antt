use Rattle.std.proofs.Common.{◌+◌, ◌-◌, ◌<◌, ◌∙◌, Fits, ap, arith, get_or, length, w8}
use Rattle.std.proofs.lemmas.Simd.{Each1-get_or}
use Rattle.colbits.specs.Bit.{bit_in}
use Rattle.colbits.proofs.LaneLemmas.{lane-joined}
use Rattle.colbits.proofs.WordLemmas.{joined-high, joined-low}
use Rattle.colbits.proofs.lanes.moved.Goals as goal

pub returns-clause-low : goal.returns-clause-low
returns-clause-low c = λ k j h g.
    ap (λ n. bit_in n j) (lane-joined c.args.low c.args.high c.args.shift k c.fits-low.0 c.fits-high.0 h)
    ∙ joined-low 8 (get_or c.args.low k 0) (get_or c.args.high k 0) c.args.shift j g

pub returns-clause-high : goal.returns-clause-high
returns-clause-high c = λ k j h g.
    let long : k < length c.args.low = omega (arith, c.fits-low.0) in
    ap (λ n. bit_in n (8 - c.args.shift + j)) (lane-joined c.args.low c.args.high c.args.shift k c.fits-low.0 c.fits-high.0 h)
    ∙ joined-high 8 (get_or c.args.low k 0) (get_or c.args.high k 0) c.args.shift j (Each1-get_or (Fits w8) c.args.low k 0 long c.fits-low.1).fits c.requires.1 g
