use Rattle.std.proofs.Common.{◌≡◌, length, take}
use Rattle.select.specs.Joined.{AreStarts}
use Rattle.arrays.specs.Lengths.{joined_items}
use Rattle.select.proofs.joining.valid.starts_of.Given as goal

abbrev pub invariant-loop-view : goal.invariant-loop-view
invariant-loop-view l = record {
  slots : l.slots ≡ length (joined_items (take l.view-index l.views));
  starts : AreStarts l.views l.view-index l.starts.items;
}
