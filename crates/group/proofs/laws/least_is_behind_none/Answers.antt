use Rattle.group.proofs.BoundLemmas.{least_bounds, least_none}
use Rattle.group.proofs.laws.least_is_behind_none.Goals as goal

pub returns-clause-least : goal.returns-clause-least
returns-clause-least c = least_bounds

pub returns-clause-none : goal.returns-clause-none
returns-clause-none c = least_none
