use Rattle.std.proofs.Common.{◌<◌, arith, get_or, length, subst, sym}
use Rattle.arrays.specs.Prelude.{kind_of_field}
use Rattle.compaction.specs.Fronts.{IsLongest}
use Rattle.compaction.proofs.FrontLemmas.{any_field, fits_so_far, kinds-at, length-tables, so-far-all, so-far-more, so-far-none, tables_of}
use Rattle.compaction.proofs.groups.group_len.Goals as goal

pub loop-column-init : goal.loop-column-init
loop-column-init c = so-far-none c.args.schema.now c.args.max_rows (length c.args.batches.now) c.rows_front-len.result (tables_of c.args.batches.now) c.rows_front-len.ensures

pub loop-column-preserved : goal.loop-column-preserved
loop-column-preserved c =
    let fields = c.args.schema.now in
    let batches = c.args.batches.now in
    let i = c.loop-column.column in
    let below : i < length fields = omega (arith, c.loop-column-test.true, c.len-column-end.ensures) in
    so-far-more fields c.args.max_rows i (length batches) c.loop-column.len c.column_front-len.result any_field (tables_of batches) below c.loop-column.invariant
    (c.column_front-len.ensures (kind_of_field (get_or fields i any_field)) (kinds-at fields batches i below c.requires.batches))

pub returns : goal.returns
returns c =
    let fields = c.args.schema.now in
    let tables = tables_of c.args.batches.now in
    let n = c.loop-column.len in
    so-far-all fields c.args.max_rows c.loop-column.column n tables (omega (arith, c.loop-column-test.false, c.len-column-end.ensures))
    (subst (λ most. IsLongest (fits_so_far fields c.args.max_rows c.loop-column.column) most n tables) (sym (length-tables c.args.batches.now)) c.loop-column.invariant)
