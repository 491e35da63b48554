use Rattle.std.proofs.Common.{◌≡◌, replicate}
use Rattle.layout.specs.Item.{null}
use Rattle.arrays.proofs.array.nulls.null_bools.Given as goal

abbrev pub invariant-loop-slot : goal.invariant-loop-slot
invariant-loop-slot l = l.bools ≡ replicate l._slot null
