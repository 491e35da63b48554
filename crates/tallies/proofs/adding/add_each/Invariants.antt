use Rattle.std.proofs.Common.{List, take}
use Rattle.arrays.specs.Prelude.{Item}
use Rattle.tallies.specs.Prelude.{AreTallies, items_at, spread}
use Rattle.tallies.proofs.adding.add_each.Given as goal

-- The rows so far are added.
abbrev pub invariant-loop-i : goal.invariant-loop-i
invariant-loop-i g l =
    (groups : List (List Item)) → AreTallies g.S.Source.show (g.S.Source.agg l.source) l.initial.cells groups
    → AreTallies g.S.Source.show (g.S.Source.agg l.source) l.cells (spread (take l.i l.ids) (take l.i (items_at (g.S.Source.items l.source) l.rows)) groups)
