use Rattle.std.proofs.Common.{◌≡◌, map, drop}
use Rattle.std.specs.Result.{result_err}
use Rattle.query.specs.Prelude.{all_checked, tree_of, trees}
use Rattle.query.proofs.check.+check.Given as goal

-- the first fault of all is that of the operands that are left
abbrev pub invariant-walk-loop-operand : goal.invariant-walk-loop-operand
invariant-walk-loop-operand g l =
    result_err (all_checked (g.C.Column.sort_in l.schema) (trees (map tree_of l.operands)))
    ≡ result_err (all_checked (g.C.Column.sort_in l.schema) (trees (map tree_of (drop l.operand-index l.operands))))
