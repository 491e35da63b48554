use Rattle.std.proofs.Common.{arith}
use Rattle.group.proofs.ColumnsLemmas.{joined-more}
use Rattle.group.proofs.columns.joined_all.Goals as goal

pub loop-k-preserved : goal.loop-k-preserved
loop-k-preserved c =
    joined-more c.args.stats.now c.args.others.now c.loop-k.all.items c.push.new.self.items c.loop-k.k c.index-stats-k.result c.index-others-k.result c.in_ok-joined.field-0
    (omega arith) c.requires.count c.index-stats-k.is c.index-others-k.is c.in_ok-push.ensures.items c.loop-k.invariant c.in_ok-joined.ensures
