use Rattle.table.proofs.WiderLemmas.{copies-more}
use Rattle.table.proofs.widening.stats_copied.Goals as goal

pub loop-one-preserved : goal.loop-one-preserved
loop-one-preserved c =
    copies-more c.args.stats.now c.loop-one.copied.items c.push.new.self.items c.loop-one.one-index c.in_ok-copy.field-0 c.one-item.result c.loop-one-test.true c.one-item.is
    c.in_ok-push.ensures.items c.loop-one.invariant c.in_ok-copy.ensures
