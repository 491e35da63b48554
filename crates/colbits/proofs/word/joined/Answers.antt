use Rattle.colbits.proofs.WordLemmas.{joined-high, joined-low}
use Rattle.std.proofs.Common.{arith, ◌∙◌, ap}
use Rattle.colbits.specs.Bit.{bit_in}
use Rattle.colbits.proofs.word.joined.Goals as goal

pub returns-clause-low : goal.returns-clause-low
returns-clause-low c = λ j h. joined-low 64 c.args.low c.from.result c.args.shift j h

pub returns-clause-high : goal.returns-clause-high
returns-clause-high c = λ j h. joined-high 64 c.args.low c.from.result c.args.shift j c.ranges.low.fits (omega arith) h ∙ ap (λ n. bit_in n j) c.from.ensures
