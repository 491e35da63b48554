use Rattle.std.proofs.Common.{◌≡◌, suc, nat_lt, map, drop}
use Rattle.query.specs.Tree.{tree_of, trees, depth, deepest}
use Rattle.query.proofs.expr.Expr.+is_deeper_than.Given as goal

-- the whole is deeper than the levels exactly where the operands that are left are
abbrev pub invariant-loop-operand : goal.invariant-loop-operand
invariant-loop-operand g l = nat_lt l.levels (depth (tree_of l.self)) ≡ nat_lt l.levels (suc (deepest (trees (map tree_of (drop l.operand-index l.operand-items)))))
