use Rattle.group.proofs.BoundLemmas.{greatest_bounds, greatest_none}
use Rattle.group.proofs.laws.greatest_is_before_none.Goals as goal

pub returns-clause-greatest : goal.returns-clause-greatest
returns-clause-greatest c = greatest_bounds

pub returns-clause-none : goal.returns-clause-none
returns-clause-none c = greatest_none
