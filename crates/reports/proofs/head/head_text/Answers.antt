use Rattle.std.proofs.Common.{◌≡◌, ◌∙◌, ◌∷◌, ◌+◌, append_assoc, ap, arith, drop, map, sym}
use Rattle.std.proofs.lemmas.List.{drop_more}
use Rattle.std.specs.Arc.{arc_value}
use Rattle.arrays.specs.Prelude.{fields_of}
use Rattle.table.specs.Lawful.{rows_of_batches}
use Rattle.reports.specs.Rows.{row_line}
use Rattle.reports.proofs.RowLemmas.{first_rows}
use Rattle.reports.proofs.head.head_text.Goals as goal

pub loop-batch-preserved : goal.loop-batch-preserved
loop-batch-preserved c =
    let given = c.batches-batches.result.now in
    let i = c.loop-batch.batch-index in
    let item = c.batch-item.result in
    let rest = drop (i + 1) given in
    let next : drop i given ≡ item ∷ rest = drop_more given i item (omega arith) ∙ ap (λ x. x ∷ rest) (sym c.batch-item.is) in
    let before = rw (next, first_rows (row_line (fields_of c.fields-fields.result.now)) (arc_value item) (rows_of_batches (map arc_value rest)) c.loop-batch.left) at c.loop-batch.invariant in
    rw (c.in_ok-left.ensures.lines, c.in_ok-left.ensures.left, c.deref.ensures, append_assoc) before
