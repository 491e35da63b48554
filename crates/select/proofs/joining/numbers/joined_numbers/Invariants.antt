use Rattle.std.proofs.Common.{take}
use Rattle.std.specs.Prelude.{All}
use Rattle.select.specs.Joined.{AreNumbersOf, TellsNulls}
use Rattle.arrays.specs.Lengths.{joined_items}
use Rattle.select.proofs.joining.numbers.joined_numbers.Given as goal

abbrev pub invariant-loop-view : goal.invariant-loop-view
invariant-loop-view l = record {
  numbers : AreNumbersOf l.ty (joined_items (take l.view-index l.views)) l.values.items;
  reported : All TellsNulls (take l.view-index l.views);
}
