use Rattle.select.specs.Named.{NameRows}
use Rattle.select.proofs.indices.first_outside.Given as goal

abbrev pub invariant-loop-i : goal.invariant-loop-i
invariant-loop-i g l = NameRows g.T.Integer.ty l.numbers.values.now l.numbers.validity l.len l.i
