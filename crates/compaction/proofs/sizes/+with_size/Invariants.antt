use Rattle.std.proofs.Common.{◌≡◌, ◌+◌, ◌≤◌, drop}
use Rattle.compaction.specs.Sizes.{size_at}
use Rattle.compaction.proofs.sizes.+with_size.Given as goal
use Rattle.arrays.specs.Prelude.{most_slots}

abbrev pub decreases-with_size : goal.decreases-with_size
decreases-with_size l = l.level

abbrev pub invariant-loop-i : goal.invariant-loop-i
invariant-loop-i l = record {
  sum : l.size + size_at l.view.kind l.level (drop l.i l.view.items) ≡ l.before + size_at l.view.kind l.level l.view.items;
  few : l.size ≤ most_slots;
}
