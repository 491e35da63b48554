use Rattle.std.proofs.Common.{take}
use Rattle.loads.specs.Report.{IsLeastStopOf}
use Rattle.loads.proofs.outcomes.least_stop.Given as goal

abbrev pub invariant-loop-outcome : goal.invariant-loop-outcome
invariant-loop-outcome g l = IsLeastStopOf l.least (take l.outcome-index l.outcomes)
