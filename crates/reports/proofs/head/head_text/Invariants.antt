use Rattle.std.proofs.Common.{◌≡◌, ◌++◌, drop, map, string_bytes, take}
use Rattle.std.specs.Arc.{arc_value}
use Rattle.std.specs.List.{flat_map}
use Rattle.arrays.specs.Prelude.{fields_of}
use Rattle.table.specs.Lawful.{rows_of_batches}
use Rattle.reports.specs.Rows.{row_line}
use Rattle.reports.proofs.head.head_text.Given as goal

-- The rows that are left, of the batches that are left.
abbrev pub invariant-loop-batch : goal.invariant-loop-batch
invariant-loop-batch l =
    let line = row_line (fields_of l.fields) in
    string_bytes l.text ++ flat_map line (take l.left (rows_of_batches (map arc_value (drop l.batch-index l.batches)))) ≡ flat_map line (take l.count (rows_of_batches (map arc_value l.batches)))
