use Rattle.std.proofs.Common.{◌≡◌, ◌∙◌, ◌+◌, ap, arith, length, take}
use Rattle.arrays.specs.Batch.{Batch}
use Rattle.compaction.specs.Neighbours.{together}
use Rattle.compaction.proofs.FrontLemmas.{rows-front, rows-more, tables_of}
use Rattle.compaction.proofs.joining.rows_in.Goals as goal

pub overflow_add-rows : goal.overflow_add-rows
overflow_add-rows c =
    let n = c.loop-batch.batch-index in
    let rows = c.rows-rows.ensures ∙ ap (λ (b : Batch). b.rows) c.deref.ensures in
    let more = rows-more c.args.batches.now n c.batch-item.result c.loop-batch-test.true c.batch-item.is in
    let before : c.loop-batch.rows ≡ length (together (take n (tables_of c.args.batches.now))) = c.loop-batch.invariant in
    omega (arith, rows, more, before, rows-front (n + 1) (tables_of c.args.batches.now), c.requires)

pub loop-batch-preserved : goal.loop-batch-preserved
loop-batch-preserved c =
    let n = c.loop-batch.batch-index in
    let rows = c.rows-rows.ensures ∙ ap (λ (b : Batch). b.rows) c.deref.ensures in
    let more = rows-more c.args.batches.now n c.batch-item.result c.loop-batch-test.true c.batch-item.is in
    let before : c.loop-batch.rows ≡ length (together (take n (tables_of c.args.batches.now))) = c.loop-batch.invariant in
    let after : c.loop-batch.rows + c.rows-rows.result ≡ length (together (take (n + 1) (tables_of c.args.batches.now))) = omega (arith, rows, more, before) in
    after
