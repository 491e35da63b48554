use Rattle.std.proofs.Common.{◌≡◌, ◌++◌, Some, drop}
use Rattle.std.specs.List.{All}
use Rattle.arrays.specs.Prelude.{Kind, inner_items, item_kind, joined_items}
use Rattle.json_print.specs.Slots.{AreOf}
use Rattle.json_print.proofs.lists.lists_of.Given as goal

-- with the columns that are left all lists are there
abbrev pub invariant-loop-column : goal.invariant-loop-column
invariant-loop-column l = record {
  items : joined_items l.lists.items ++ inner_items (joined_items (drop l.column-index l.columns)) ≡ inner_items (joined_items l.columns);
  kinds : (k : Kind) → All (λ c. item_kind c.kind ≡ Some k) l.columns → AreOf k l.lists.items;
}
