use Rattle.std.proofs.Common.{◌≡◌, ◌≤◌, All, map, take}
use Rattle.std.specs.Arc.{arc_value}
use Rattle.arrays.specs.Prelude.{Kind, column, most_slots}
use Rattle.compaction.specs.Prelude.{IsOfKind, size_at, together}
use Rattle.compaction.proofs.FrontLemmas.{tables_of}
use Rattle.compaction.proofs.groups.level_front.Given as goal

abbrev pub invariant-loop-n : goal.invariant-loop-n
invariant-loop-n l = record {
  size : (k : Kind) → All (IsOfKind k l.column) (map arc_value l.batches) → l.size ≡ size_at k l.level (column (together (take l.n (tables_of l.batches))) l.column);
  few : l.size ≤ most_slots;
}
