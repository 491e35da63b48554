use Rattle.std.proofs.Common.{◌≡◌, ◌+◌, ◌*◌, ◌≤◌, ℕ, suc, drop, map, Ok}
use Rattle.json_base.specs.Prelude.{depth, items_depth, items_view, view}
use Rattle.json_query.specs.QueryExpr.{expr_within, named_tree, operands}
use Rattle.json_query.proofs.Readings.{each_after}
use Rattle.json_query.proofs.expr.+exprs.Given as goal

-- the expressions so far are read
abbrev pub invariant-read_operands-loop-index : goal.invariant-read_operands-loop-index
invariant-read_operands-loop-index l = (n : ℕ) → items_depth (items_view l.args) ≤ n
    → operands (expr_within (suc n)) (Ok l.fn.op) (items_view l.args) ≡ each_after (Ok (map named_tree l.exprs.items)) l.index (expr_within (suc n)) (items_view (drop l.index l.args))

-- two calls go one level down
abbrev pub decreases-read_expr : goal.decreases-read_expr
decreases-read_expr l = 2 * depth (view l.value.now)

abbrev pub decreases-read_operands : goal.decreases-read_operands
decreases-read_operands l = 2 * items_depth (items_view l.args.now) + 1
