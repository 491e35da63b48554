use Rattle.std.proofs.Common.{◌≡◌, map, option_map, take, true}
use Rattle.std.specs.Arc.{arc_value}
use Rattle.std.specs.List.{list_all, zip}
use Rattle.compaction.proofs.JoinedLemmas.{as_long}
use Rattle.compaction.proofs.dictionaries.names_whole.Given as goal

abbrev pub invariant-loop-k : goal.invariant-loop-k
invariant-loop-k l = list_all as_long (take l.k (zip (map (option_map arc_value) l.dictionaries) l.batch.columns)) ≡ true
