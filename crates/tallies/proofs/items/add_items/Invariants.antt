use Rattle.std.proofs.Common.{List, take}
use Rattle.arrays.specs.Prelude.{Item}
use Rattle.tallies.specs.Prelude.{AreTallies, agg_at, items_at, show_item, spread}
use Rattle.tallies.proofs.items.add_items.Given as goal

-- The rows so far are added.
abbrev pub invariant-loop-i : goal.invariant-loop-i
invariant-loop-i l =
    (groups : List (List Item)) → AreTallies show_item (agg_at l.end 0) l.initial.bests groups
    → AreTallies show_item (agg_at l.end 0) l.bests (spread (take l.i l.ids) (take l.i (items_at l.view.items l.rows)) groups)
