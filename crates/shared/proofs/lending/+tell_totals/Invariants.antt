use Rattle.std.specs.Prelude.{length}
use Rattle.shared.proofs.lending.+tell_totals.Given as goal

abbrev pub decreases-tell_totals : goal.decreases-tell_totals
decreases-tell_totals g l = length l.workers.now
