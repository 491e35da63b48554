use Rattle.std.proofs.Common.{◌≡◌, append_assoc, arith, length, min}
use Rattle.std.proofs.lemmas.List.{take_min}
use Rattle.arrays.specs.Prelude.{fields_of, rows_of}
use Rattle.arrays.proofs.BatchLemmas.{length-rows_of}
use Rattle.reports.specs.Rows.{row_line}
use Rattle.reports.proofs.RowLemmas.{columns_long, row_more}
use Rattle.reports.proofs.head.push_first_rows.Goals as goal

pub push_row-requires-clause-within : goal.push_row-requires-clause-within
push_row-requires-clause-within c = columns_long c.args.batch.now c.loop-row.row c.columns.result.now c.columns.ensures.lawful (omega (arith, c.min-count.ensures)) c.columns.ensures.value

pub loop-row-preserved : goal.loop-row-preserved
loop-row-preserved c =
    let more = row_more (row_line (fields_of c.args.fields.now)) c.args.batch.now c.loop-row.row (omega (arith, c.min-count.ensures)) in
    rw (c.in_ok-push_row.ensures, c.columns.ensures.value, c.loop-row.invariant, more, append_assoc)

pub returns-clause-lines : goal.returns-clause-lines
returns-clause-lines c =
    let rows = rows_of c.args.batch.now in
    let all : c.loop-row.row ≡ min c.args.left (length rows) = omega (arith, c.min-count.ensures, length-rows_of c.args.batch.now) in
    rw (← take_min c.args.left rows, ← all) c.loop-row.invariant
