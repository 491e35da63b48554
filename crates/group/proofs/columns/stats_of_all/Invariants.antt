use Rattle.std.proofs.Common.{take}
use Rattle.group.specs.StatsOfColumns.{AreTheirs}
use Rattle.group.proofs.columns.stats_of_all.Given as goal

abbrev pub invariant-loop-column : goal.invariant-loop-column
invariant-loop-column l = AreTheirs (take l.column-index l.columns) l.stats.items
