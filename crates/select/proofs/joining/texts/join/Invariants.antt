use Rattle.std.proofs.Common.{◌≡◌, ◌++◌, drop}
use Rattle.arrays.specs.Lengths.{joined_items}
use Rattle.select.proofs.joining.texts.join.Given as goal

abbrev pub invariant-loop-view : goal.invariant-loop-view
invariant-loop-view l = record {
  width : l.all.width ≡ l.width;
  items : l.all.items ++ joined_items (drop l.view-index l.views) ≡ joined_items l.views;
}
