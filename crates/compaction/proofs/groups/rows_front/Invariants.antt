use Rattle.std.proofs.Common.{◌≡◌, ◌≤◌, length, take}
use Rattle.compaction.specs.Neighbours.{together}
use Rattle.compaction.proofs.FrontLemmas.{tables_of}
use Rattle.compaction.proofs.groups.rows_front.Given as goal

abbrev pub invariant-loop-n : goal.invariant-loop-n
invariant-loop-n l = record {
  counted : l.rows ≡ length (together (take l.n (tables_of l.batches)));
  few : l.rows ≤ l.most;
}
