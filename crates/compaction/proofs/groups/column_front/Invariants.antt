use Rattle.std.proofs.Common.{◌≤◌, All, map}
use Rattle.std.specs.Arc.{arc_value}
use Rattle.arrays.specs.Prelude.{Kind}
use Rattle.compaction.specs.Fronts.{IsLongest, IsOfKind}
use Rattle.compaction.proofs.FrontLemmas.{fits_below, tables_of}
use Rattle.compaction.proofs.groups.column_front.Given as goal

abbrev pub invariant-loop-level : goal.invariant-loop-level
invariant-loop-level l = record {
  some : 1 ≤ l.len;
  within : l.len ≤ l.most;
  longest : (k : Kind) → All (IsOfKind k l.column) (map arc_value l.batches) → IsLongest (fits_below k l.column l.level) l.most l.len (tables_of l.batches);
}
