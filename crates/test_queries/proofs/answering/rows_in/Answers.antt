use Rattle.std.proofs.Common.{◌≡◌, ◌∙◌, ap, arith}
use Rattle.std.specs.Arc.{arc_value}
use Rattle.arrays.specs.Batch.{Batch}
use Rattle.test_queries.proofs.BatchLemmas.{more_rows}
use Rattle.test_queries.proofs.answering.rows_in.Goals as goal

pub loop-batch-preserved : goal.loop-batch-preserved
loop-batch-preserved c =
    let rows : c.from.result ≡ (arc_value c.batch-item.result).rows = c.from.ensures ∙ c.rows.ensures ∙ ap (λ (b : Batch). b.rows) c.deref.ensures in
    omega (
      arith,
      c.loop-batch.invariant,
      c.in_ok-rows.ensures,
      rows,
      more_rows arc_value c.args.batches.now c.loop-batch.batch-index c.batch-item.result (omega arith) c.batch-item.is,
    )
