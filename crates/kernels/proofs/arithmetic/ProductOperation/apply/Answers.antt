use Rattle.std.specs.Int.{w128}
use Rattle.std.proofs.lemmas.Int.{to_z-of_z}
use Rattle.kernels.proofs.NumberLemmas.{unheld}
use Rattle.kernels.proofs.arithmetic.ProductOperation.apply.Goals as goal

pub returns-clause-none : goal.returns-clause-none
returns-clause-none c =
    unheld c.checked_mul.result c.args.x c.args.y _ _ (to_z-of_z w128 c.args.x c.ranges.x) (to_z-of_z w128 c.args.y c.ranges.y) c.checked_mul.ensures
