use Rattle.std.proofs.Common.{◌≡◌, ◌+◌, ◌*◌, ◌≤◌, drop, length}
use Rattle.table.specs.History.{of, rows}
use Rattle.reports.proofs.report.share.Given as goal

-- What is counted, and what the entries that are left have.
abbrev pub invariant-loop-place : goal.invariant-loop-place
invariant-loop-place l =
    let left = of (drop l.place l.version.history) l.worker in record {
      calls : l.calls + length left ≡ length (of l.version.history l.worker);
      rows : l.rows + length (rows left) ≡ length (rows (of l.version.history l.worker));
      few : l.calls ≤ l.place;
      small : l.rows ≤ 4294967295 * l.place;
    }
