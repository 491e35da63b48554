use Rattle.std.proofs.Common.{take}
use Rattle.group.specs.StatsOfColumns.{AreJoined}
use Rattle.group.proofs.columns.joined_all.Given as goal

abbrev pub invariant-loop-k : goal.invariant-loop-k
invariant-loop-k l = AreJoined (take l.k l.stats) (take l.k l.others) l.all.items
