use Rattle.std.proofs.Common.{subst}
use Rattle.std.specs.Arc.{arc_value}
use Rattle.json_laws.specs.IsFile.{IsBatch}
use Rattle.json_laws.proofs.WholeTables.{all_reported, one_more}
use Rattle.json_laws.proofs.whole.tell_batches.Goals as goal

pub loop-batch-preserved : goal.loop-batch-preserved
loop-batch-preserved c =
    one_more (λ b. IsBatch (arc_value b)) c.args.batches.now c.loop-batch.batch-index c.batch-item.result c.loop-batch-test.true c.batch-item.is c.loop-batch.invariant
    (subst IsBatch c.deref.ensures c.tell_batch.ensures)

pub returns : goal.returns
returns c = all_reported (λ b. IsBatch (arc_value b)) c.args.batches.now c.loop-batch.batch-index c.loop-batch-test.false c.loop-batch.invariant
