use Rattle.std.proofs.Common.{◌≡◌, map, option_map, take}
use Rattle.arrays.specs.Slot.{item_of}
use Rattle.arrays.proofs.array.Array.of_ints.Given as goal

abbrev pub invariant-loop-number : goal.invariant-loop-number
invariant-loop-number g l = record {
  ty : l.builder.ty ≡ g.T.Integer.ty;
  items : l.builder.items ≡ map (λ n. item_of (option_map g.T.Integer.value n)) (take l.number-index l.numbers);
}
