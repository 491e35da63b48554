use Rattle.std.proofs.Common.{take}
use Rattle.arrays.specs.Prelude.{kind_of, out-Field}
use Rattle.select.specs.Children.{AreChildren}
use Rattle.select.proofs.joining.lists.children.Given as goal

abbrev pub invariant-loop-view : goal.invariant-loop-view
invariant-loop-view l = AreChildren (kind_of (out-Field l.item).ty) (take l.view-index l.views) l.children.items
