use Rattle.std.proofs.Common.{◌≡◌, ◌+◌, drop, length}
use Rattle.arrays.specs.Lengths.{joined_items}
use Rattle.json_print.proofs.slots.slot_count.Given as goal

-- with the columns that are left all are counted
abbrev pub invariant-loop-column : goal.invariant-loop-column
invariant-loop-column l = l.count + length (joined_items (drop l.column-index l.columns)) ≡ length (joined_items l.columns)
