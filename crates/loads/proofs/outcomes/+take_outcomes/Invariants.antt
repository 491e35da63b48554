use Rattle.std.proofs.Common.{length}
use Rattle.loads.proofs.outcomes.+take_outcomes.Given as goal

abbrev pub decreases-take_outcomes : goal.decreases-take_outcomes
decreases-take_outcomes g l = length l.workers.now
