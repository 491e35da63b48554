use Rattle.std.proofs.Common.{◌≡◌, map, take}
use Rattle.arrays.specs.Slot.{item_of_bool}
use Rattle.arrays.proofs.array.Array.of_bools.Given as goal

abbrev pub invariant-loop-value : goal.invariant-loop-value
invariant-loop-value l = l.builder ≡ map item_of_bool (take l.value-index l.values)
