use Rattle.std.proofs.Common.{◌≡◌, ◌++◌, take, map}
use Rattle.arrays.specs.Lengths.{list_length}
use Rattle.select.proofs.joining.lists.push_all.Given as goal

abbrev pub invariant-loop-i : goal.invariant-loop-i
invariant-loop-i l = record {
  width : l.builder.width ≡ l.fn.builder.width;
  lengths : l.builder.lengths ≡ l.fn.builder.lengths ++ map list_length (take l.i l.view.items);
}
