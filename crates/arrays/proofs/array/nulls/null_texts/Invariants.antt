use Rattle.std.proofs.Common.{◌≡◌, replicate}
use Rattle.layout.specs.Item.{null}
use Rattle.arrays.proofs.array.nulls.null_texts.Given as goal

abbrev pub invariant-loop-slot : goal.invariant-loop-slot
invariant-loop-slot l = (l.texts.width ≡ l.fn.width) × (l.texts.items ≡ replicate l._slot null)
