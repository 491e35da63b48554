use Rattle.std.proofs.Common.{◌≡◌, ◌+◌, ◌≤◌, drop, length}
use Rattle.arrays.specs.Prelude.{joined_items, most_slots}
use Rattle.select.proofs.joining.slots_of.Given as goal

abbrev pub invariant-loop-view : goal.invariant-loop-view
invariant-loop-view l = (l.slots + length (joined_items (drop l.view-index l.views)) ≡ length (joined_items l.views)) × (l.slots ≤ most_slots)
