use Rattle.std.proofs.Common.{◌≡◌, ◌++◌, string_bytes, take}
use Rattle.std.specs.List.{flat_map}
use Rattle.arrays.specs.Prelude.{fields_of, rows_of}
use Rattle.reports.specs.Rows.{row_line}
use Rattle.reports.proofs.head.push_first_rows.Given as goal

-- The rows so far.
abbrev pub invariant-loop-row : goal.invariant-loop-row
invariant-loop-row l = string_bytes l.text ≡ string_bytes l.fn.text ++ flat_map (row_line (fields_of l.fields)) (take l.row (rows_of l.batch))
