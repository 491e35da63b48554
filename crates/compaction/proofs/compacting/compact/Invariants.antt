use Rattle.std.proofs.Common.{◌-◌, ◌≤◌, ◌++◌, All, List, drop, length, map}
use Rattle.std.specs.Arc.{arc_value}
use Rattle.arrays.specs.Batch.{Table}
use Rattle.compaction.specs.Prelude.{AreGroups, HaveStats, IsUnder, pieces_of}
use Rattle.compaction.proofs.FrontLemmas.{tables_of}
use Rattle.compaction.proofs.JoinedLemmas.{words_of}
use Rattle.compaction.proofs.compacting.compact.Given as goal

-- What is done is followed by the groups of what is to come.
abbrev pub invariant-loop-start : goal.invariant-loop-start
invariant-loop-start l = record {
  within : l.start ≤ length l.batches;
  groups :
      (rest : List Table) → AreGroups (arc_value l.schema) l.max_rows (drop l.start (tables_of l.batches)) rest
      → AreGroups (arc_value l.schema) l.max_rows (tables_of l.batches) (tables_of l.compacted.batches.items ++ rest);
  under : All (IsUnder (arc_value l.schema) (words_of l.dictionaries)) (map arc_value l.compacted.batches.items);
  stats : HaveStats (map arc_value l.compacted.batches.items) (pieces_of l.compacted.batch_stats.items);
}

abbrev pub decreases-loop-start : goal.decreases-loop-start
decreases-loop-start l = length l.batches - l.start
