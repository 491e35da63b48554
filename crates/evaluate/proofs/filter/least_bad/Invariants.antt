use Rattle.std.proofs.Common.{◌≡◌, ◌<◌, None}
use Rattle.query.specs.Tree.{tree_of}
use Rattle.evaluate.specs.Prelude.{row_in, value}
use Rattle.evaluate.proofs.filter.least_bad.Given as goal

-- the row is bad, and each turn finds one before it
abbrev pub invariant-loop-earlier : goal.invariant-loop-earlier
invariant-loop-earlier l = (l.least < l.slice.len) × (value l.slice.batch.now.fields (row_in l.slice.batch.now l.slice.start l.least) (tree_of l.expr) ≡ None)

abbrev pub decreases-loop-earlier : goal.decreases-loop-earlier
decreases-loop-earlier l = l.least
