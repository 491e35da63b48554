use Rattle.std.proofs.Common.{arith}
use Rattle.json_query.specs.QueryDocument.{agg}
use Rattle.json_query.proofs.Readings.{each_read, each_told}
use Rattle.json_query.proofs.lists.read_all.Goals as goal

pub loop-index-preserved : goal.loop-index-preserved
loop-index-preserved c = each_read agg _ _ c.args.values.now c.loop-index.index _ _ _ _ c.loop-index.invariant (omega arith) c.index-values-index.is c.in-Ok.ensures.ok c.in_ok-push-in-Ok.ensures.ok

pub returns-in-Err-clause-err : goal.returns-in-Err-clause-err
returns-in-Err-clause-err c = each_told agg _ _ c.args.values.now c.loop-index.index _ _ _ c.loop-index.invariant c.in-Err.ensures.err (omega arith) c.index-values-index.is c.under.ensures
