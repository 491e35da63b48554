use Rattle.std.proofs.Common.{◌≡◌, ◌+◌, ◌≤◌, drop, length}
use Rattle.arrays.specs.Prelude.{inner_items, most_slots}
use Rattle.compaction.proofs.sizes.with_items.Given as goal

abbrev pub invariant-loop-i : goal.invariant-loop-i
invariant-loop-i l = record {
  sum : l.items + length (inner_items (drop l.i l.view.items)) ≡ l.before + length (inner_items l.view.items);
  few : l.items ≤ most_slots;
}
