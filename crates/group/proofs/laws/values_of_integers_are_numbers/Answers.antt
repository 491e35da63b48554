use Rattle.group.proofs.NumberLemmas.{least_values, greatest_values}
use Rattle.group.proofs.laws.values_of_integers_are_numbers.Goals as goal

pub returns-clause-least : goal.returns-clause-least
returns-clause-least c = least_values

pub returns-clause-greatest : goal.returns-clause-greatest
returns-clause-greatest c = greatest_values
