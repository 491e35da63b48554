use Rattle.std.proofs.Common.{◌+◌}
use Rattle.compaction.proofs.StatisticsLemmas.{AreOfFirst}
use Rattle.compaction.proofs.statistics.joined.Given as goal

abbrev pub invariant-loop-stats : goal.invariant-loop-stats
invariant-loop-stats l = AreOfFirst (2 + l.stats-index) l.batch_stats l.all.items
