use Rattle.std.proofs.Common.{◌≡◌, None, replicate}
use Rattle.arrays.proofs.array.nulls.null_slots.Given as goal

abbrev pub invariant-loop-slot : goal.invariant-loop-slot
invariant-loop-slot l = (l.lists.width ≡ l.fn.width) × (l.lists.lengths ≡ replicate l._slot None)
