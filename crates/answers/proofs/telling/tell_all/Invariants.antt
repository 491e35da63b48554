use Rattle.std.proofs.Common.{◌≡◌, map, take}
use Rattle.group.specs.Scalars.{item_of_scalar}
use Rattle.tallies.specs.Columns.{show_column, cell_of_group}
use Rattle.answers.proofs.telling.tell_all.Given as goal

-- What the columns so far tell.
abbrev pub invariant-loop-column : goal.invariant-loop-column
invariant-loop-column l = map item_of_scalar l.cells.items ≡ map (cell_of_group l.group) (map show_column (take l.column-index l.columns))
