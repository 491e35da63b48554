use Rattle.std.proofs.Common.{◌≡◌, replicate}
use Rattle.layout.specs.Item.{null}
use Rattle.arrays.proofs.array.nulls.null_numbers.Given as goal

abbrev pub invariant-loop-slot : goal.invariant-loop-slot
invariant-loop-slot l = (l.numbers.ty ≡ l.fn.ty) × (l.numbers.items ≡ replicate l._slot null)
