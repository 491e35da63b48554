use Rattle.std.proofs.Common.{◌≡◌, take}
use Rattle.select.proofs.joining.lists.parts.Given as goal

abbrev pub invariant-loop-array : goal.invariant-loop-array
invariant-loop-array l = l.views.items ≡ take l.array-index l.arrays
