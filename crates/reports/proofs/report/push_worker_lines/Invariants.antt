use Rattle.std.proofs.Common.{◌≡◌, ◌++◌, ◌-◌, length, string_bytes}
use Rattle.std.specs.List.{flat_map, range_with_len}
use Rattle.table.specs.History.{of, rows}
use Rattle.reports.specs.Shown.{worker_line, worker_lines}
use Rattle.reports.proofs.report.push_worker_lines.Given as goal

-- The lines that are left.
abbrev pub invariant-loop-worker : goal.invariant-loop-worker
invariant-loop-worker l =
    let h = l.version.history in
    string_bytes l.text ++ flat_map (λ w. worker_line w (length (of h w)) (length (rows (of h w)))) (range_with_len l.worker (l.workers - l.worker))
    ≡ string_bytes l.fn.text ++ worker_lines l.workers h
