use Rattle.std.proofs.Common.{◌+◌, ◌*◌}
use Rattle.arrays.specs.Prelude.{size-Field}
use Rattle.json_print.proofs.column.+columns.Given as goal

-- each of the three is passed the item's field, and calls the next one
abbrev pub decreases-write_lists : goal.decreases-write_lists
decreases-write_lists l = 3 * size-Field l.list.1.now + 2

abbrev pub decreases-write_children : goal.decreases-write_children
decreases-write_children l = 3 * size-Field l.item.now + 1

abbrev pub decreases-write_column : goal.decreases-write_column
decreases-write_column l = 3 * size-Field l.field.now
