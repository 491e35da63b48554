use Rattle.std.specs.Prelude.{◌≡◌, false, take}
use Rattle.shared.specs.Missing.{is_there}
use Rattle.shared.proofs.missing.is_there.Given as goal

abbrev pub invariant-loop-worker : goal.invariant-loop-worker
invariant-loop-worker g l = is_there (take l.worker-index l.workers) l.number ≡ false
