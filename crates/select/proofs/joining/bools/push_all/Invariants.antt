use Rattle.std.proofs.Common.{◌≡◌, ◌++◌, take}
use Rattle.select.proofs.joining.bools.push_all.Given as goal

abbrev pub invariant-loop-i : goal.invariant-loop-i
invariant-loop-i l = l.builder ≡ l.fn.builder ++ take l.i l.view.items
