use Rattle.std.specs.Int.{int_max}
use Rattle.group.proofs.NumberLemmas.{greatest_law, no_best}
use Rattle.group.proofs.laws.greatest_is_at_least_each.Goals as goal

pub returns-clause-greatest : goal.returns-clause-greatest
returns-clause-greatest c = greatest_law

pub returns-clause-none : goal.returns-clause-none
returns-clause-none c = no_best int_max
