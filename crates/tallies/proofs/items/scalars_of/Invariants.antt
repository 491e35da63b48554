use Rattle.std.proofs.Common.{◌≡◌, map, take}
use Rattle.tallies.specs.Columns.{show_item, show_number}
use Rattle.tallies.proofs.items.scalars_of.Given as goal

-- The numbers so far.
abbrev pub invariant-loop-number : goal.invariant-loop-number
invariant-loop-number l = map show_item l.items.items ≡ map show_number (take l.number-index l.numbers)
