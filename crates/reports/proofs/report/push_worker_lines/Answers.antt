use Rattle.std.proofs.Common.{◌≡◌, ◌+◌, ◌-◌, suc, append_assoc, arith}
use Rattle.reports.proofs.report.push_worker_lines.Goals as goal

pub loop-worker-preserved : goal.loop-worker-preserved
loop-worker-preserved c =
    let left : c.args.workers - c.loop-worker.worker ≡ suc (c.args.workers - (c.loop-worker.worker + 1)) = omega arith in
    rw (c.in_ok-push_line_of.ensures, append_assoc) (rw left at c.loop-worker.invariant)
