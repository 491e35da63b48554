use Rattle.std.proofs.Common.{take}
use Rattle.loads.specs.Report.{AllFinished}
use Rattle.loads.proofs.outcomes.any_stopped.Given as goal

abbrev pub invariant-loop-outcome : goal.invariant-loop-outcome
invariant-loop-outcome g l = AllFinished (take l.outcome-index l.outcomes)
