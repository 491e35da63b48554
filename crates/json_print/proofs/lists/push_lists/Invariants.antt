use Rattle.std.proofs.Common.{◌≡◌, ◌++◌, Some, drop}
use Rattle.arrays.specs.Prelude.{Kind, inner_items, item_kind, joined_items}
use Rattle.json_print.specs.Slots.{AreOf}
use Rattle.json_print.proofs.lists.push_lists.Given as goal

-- with the lists that are left all are there
abbrev pub invariant-loop-i : goal.invariant-loop-i
invariant-loop-i l = record {
  items : joined_items l.lists.items ++ inner_items (drop l.i l.column.items) ≡ joined_items l.fn.lists.items ++ inner_items l.column.items;
  kinds : (k : Kind) → item_kind l.column.kind ≡ Some k → AreOf k l.fn.lists.items → AreOf k l.lists.items;
}
