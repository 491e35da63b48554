use Rattle.std.proofs.Common.{◌≡◌, ◌++◌, drop, string_bytes}
use Rattle.std.specs.List.{enumerate_from, flat_map}
use Rattle.arrays.specs.Prelude.{column}
use Rattle.table.specs.History.{rows}
use Rattle.reports.specs.Shown.{column_lines, field_line}
use Rattle.reports.proofs.report.push_column_lines.Given as goal

-- The lines that are left.
abbrev pub invariant-loop-k : goal.invariant-loop-k
invariant-loop-k l =
    let t = rows l.version.history in
    string_bytes l.text ++ flat_map (λ p. field_line p.1 (column t p.0)) (enumerate_from l.k (drop l.k l.version.fields)) ≡ string_bytes l.fn.text ++ column_lines l.version.fields t
