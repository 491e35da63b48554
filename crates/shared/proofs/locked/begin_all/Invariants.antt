use Rattle.std.specs.Prelude.{All, take}
use Rattle.shared.specs.Prelude.{IsWorkerOf, known_after}
use Rattle.shared.proofs.locked.begin_all.Given as goal

abbrev pub invariant-loop-worker : goal.invariant-loop-worker
invariant-loop-worker g l = All (IsWorkerOf g.N.Naming-1.workers (known_after g.N.Naming-1.fields l.front)) (take l.worker-index l.workers)
