use Rattle.arrays.specs.Prelude.{depth, view_kind}
use Rattle.select.proofs.joining.+join.Given as goal

abbrev pub decreases-join : goal.decreases-join
decreases-join l = depth (view_kind l.ty)
