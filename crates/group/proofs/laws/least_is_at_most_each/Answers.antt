use Rattle.std.specs.Int.{int_min}
use Rattle.group.proofs.NumberLemmas.{least_law, no_best}
use Rattle.group.proofs.laws.least_is_at_most_each.Goals as goal

pub returns-clause-least : goal.returns-clause-least
returns-clause-least c = least_law

pub returns-clause-none : goal.returns-clause-none
returns-clause-none c = no_best int_min
