use Rattle.std.proofs.Common.{◌≡◌, arith, length, subst, take}
use Rattle.std.proofs.Math.Seq.{take-length}
use Rattle.std.proofs.lemmas.List.Elements.{All-more}
use Rattle.std.specs.Prelude.{All}
use Rattle.shared.specs.Prelude.{IsWorkerOf, known_after}
use Rattle.shared.proofs.locked.begin_all.Goals as goal

pub loop-worker-preserved : goal.loop-worker-preserved
loop-worker-preserved g c =
    let is_part = IsWorkerOf g.N.Naming-1.workers (known_after g.N.Naming-1.fields c.args.front.now) in
    All-more is_part c.args.workers.now c.loop-worker.worker-index c.worker-item.result c.loop-worker-test.true c.loop-worker.invariant (subst is_part c.worker-item.is c.begin_worker.ensures)

pub returns : goal.returns
returns g c =
    let workers = c.args.workers.now in
    let is_part = IsWorkerOf g.N.Naming-1.workers (known_after g.N.Naming-1.fields c.args.front.now) in
    let all : c.loop-worker.worker-index ≡ length workers = omega (arith, c.loop-worker-test.false, c.loop-worker.auto.worker-index-end) in
    subst (λ ws. All is_part ws) (take-length workers) (subst (λ n. All is_part (take n workers)) all c.loop-worker.invariant)
