use Rattle.std.proofs.Common.{None, Option, Some, ap, subst, sym}
use Rattle.std.specs.Prelude.{unwrap_or}
use Rattle.shared.specs.Left.{Left}
use Rattle.loads.specs.Prelude.{IsRun, batches_of_files}
use Rattle.loads.proofs.RunLemmas.{run_left}
use Rattle.loads.proofs.work.work.Goals as goal

pub returns : goal.returns
returns g c =
    let files = batches_of_files c.args.files.now in
    let o = c.add_files-outcome.result in
    subst (IsRun files c.args.count c.args.place c.args.worker.now c.leave.new.self) (ap (λ (p : Option Left). unwrap_or p (record { last = None; stop = None })) (sym c.leave.ensures.rest))
    (run_left files c.args.count c.args.place c.args.worker.now c.add_files-outcome.new.worker c.leave.new.self o (Some o) c.add_files-outcome.ensures c.leave.ensures)
