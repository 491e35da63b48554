use Rattle.std.proofs.Common.{◌≡◌, ◌++◌, take, map}
use Rattle.arrays.specs.Prelude.{int32}
use Rattle.select.specs.Joined.{shifted}
use Rattle.select.proofs.joining.dicts.push_shifted.Given as goal

abbrev pub invariant-loop-i : goal.invariant-loop-i
invariant-loop-i l = record {
  ty : l.builder.ty ≡ int32;
  items : l.builder.items ≡ l.fn.builder.items ++ map (shifted l.before) (take l.i l.view.codes);
}
