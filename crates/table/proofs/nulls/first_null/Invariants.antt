use Rattle.std.proofs.Common.{◌≡◌, None, position, take}
use Rattle.arrays.specs.Prelude.{is_null}
use Rattle.table.proofs.nulls.first_null.Given as goal

abbrev pub invariant-loop-i : goal.invariant-loop-i
invariant-loop-i l = position is_null (take l.i l.view.items) ≡ None
