use Rattle.shared.specs.Missing.{AllThere}
use Rattle.shared.proofs.missing.first_missing.Given as goal

abbrev pub invariant-loop-number : goal.invariant-loop-number
invariant-loop-number g l = AllThere l.number l.workers
