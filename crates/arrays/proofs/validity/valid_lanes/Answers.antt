use Rattle.std.proofs.Common.{◌+◌, ◌∙◌, ap, sym}
use Rattle.colbits.proofs.LaneLemmas.{bit-ones}
use Rattle.layout.specs.Seen.{valid_in}
use Rattle.arrays.proofs.validity.valid_lanes.Goals as goal

pub returns-in-None : goal.returns-in-None
returns-in-None c = λ j h. bit-ones j h ∙ ap (λ v. valid_in v (c.args.i + j)) (sym c.in-None.is)
