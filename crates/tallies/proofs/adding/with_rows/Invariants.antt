use Rattle.std.proofs.Common.{◌≡◌, ◌++◌, List, take}
use Rattle.arrays.specs.Prelude.{Item}
use Rattle.tallies.specs.Prelude.{items_at, tally_of}
use Rattle.tallies.proofs.adding.with_rows.Given as goal

-- The rows so far are added.
abbrev pub invariant-loop-row : goal.invariant-loop-row
invariant-loop-row g l =
    (xs : List Item) → g.S.Source.show l.fn.cell ≡ tally_of (g.S.Source.agg l.source) xs
    → g.S.Source.show l.whole ≡ tally_of (g.S.Source.agg l.source) (xs ++ take l.row-index (items_at (g.S.Source.items l.source) l.rows))
