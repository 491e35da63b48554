use Rattle.std.proofs.Common.{suc, arith, rules}
use Rattle.json_base.specs.Prelude.{as_array, items_view, view}
use Rattle.json_base.specs.declared.path.Member.TheVariants as member
use Rattle.json_base.proofs.JsonResults.{error_kept}
use Rattle.json_query.specs.QueryExpr.{expr_within}
use Rattle.json_query.specs.declared.form.Form.TheVariants as form
use Rattle.json_query.proofs.Readings.{both_left, both_right, chain_first, each_read, each_told, required_told}
use Rattle.json_query.proofs.QueryReadings.{arguments_depth, formed_told, item_depth, operands_told, operation_ok}
use Rattle.json_query.proofs.expr.+exprs.Goals as goal

pub read_expr-returns-in_err-op-in-Some-Op-clause-err : goal.read_expr-returns-in_err-op-in-Some-Op-clause-err
read_expr-returns-in_err-op-in-Some-Op-clause-err t c =
    error_kept _ _ _ c.from_residual-in_err-op-in-Some-Op.ensures.1
    (λ n h. formed_told n (view c.args.value.now) form.Op _ c.in_ok-check_object.ensures.ok (search rules) (both_left _ _ _ _ c.in_err-op-in-Some-Op.ensures.err))

pub read_expr-returns-in_err-args-in-Some-Op-clause-err : goal.read_expr-returns-in_err-args-in-Some-Op-clause-err
read_expr-returns-in_err-args-in-Some-Op-clause-err t c =
    error_kept _ _ _ c.from_residual-in_err-args-in-Some-Op.ensures.1
    (λ n h. formed_told n (view c.args.value.now) form.Op _ c.in_ok-check_object.ensures.ok (search rules) (both_right _ _ _ _ (chain_first _ _ _ (required_told member.Args as_array _ _ c.in_err-args-in-Some-Op.ensures.err))))

pub read_expr-read_operands-requires : goal.read_expr-read_operands-requires
read_expr-read_operands-requires t c =
    let inner = arguments_depth member.Args (view c.args.value.now) (items_view c.in_ok-args-in-Some-Op.args.now) c.in_ok-args-in-Some-Op.ensures.ok in
    (omega (arith, inner, c.decreases), tt)

pub read_expr-returns-in-Ok-clause-ok : goal.read_expr-returns-in-Ok-clause-ok
read_expr-returns-in-Ok-clause-ok t c = λ n h.
    operation_ok n (view c.args.value.now) c.in_ok-check_object.ensures.ok (search rules) _ (items_view c.in_ok-args-in-Some-Op.args.now) c.in_ok-op-in-Some-Op.ensures.ok c.in_ok-args-in-Some-Op.ensures.ok h _ c.in-Ok.ensures.ok

pub read_expr-returns-in-Err-clause-err : goal.read_expr-returns-in-Err-clause-err
read_expr-returns-in-Err-clause-err t c = λ n h.
    operands_told n (view c.args.value.now) c.in_ok-check_object.ensures.ok (search rules) _ (items_view c.in_ok-args-in-Some-Op.args.now) c.in_ok-op-in-Some-Op.ensures.ok c.in_ok-args-in-Some-Op.ensures.ok h _ _ c.in-Err.ensures.err c.under.ensures

pub read_operands-read_expr-requires : goal.read_operands-read_expr-requires
read_operands-read_expr-requires t c =
    let inner = item_depth c.args.args.now c.loop-index.index c.index-args-index.result (omega arith) c.index-args-index.is in
    (omega (arith, inner, c.decreases), tt)

pub read_operands-loop-index-preserved : goal.read_operands-loop-index-preserved
read_operands-loop-index-preserved t c = λ n h.
    let inner = item_depth c.args.args.now c.loop-index.index c.index-args-index.result (omega arith) c.index-args-index.is in
    each_read (expr_within (suc n)) _ _ c.args.args.now c.loop-index.index _ _ _ _ (c.loop-index.invariant n h) (omega arith) c.index-args-index.is (c.in-Ok.ensures.ok n (omega (arith, inner, h))) c.in_ok-push-in-Ok.ensures.ok

pub read_operands-returns-in-Err-clause-err : goal.read_operands-returns-in-Err-clause-err
read_operands-returns-in-Err-clause-err t c = λ n h.
    let inner = item_depth c.args.args.now c.loop-index.index c.index-args-index.result (omega arith) c.index-args-index.is in
    each_told (expr_within (suc n)) _ _ c.args.args.now c.loop-index.index _ _ _ (c.loop-index.invariant n h) (c.in-Err.ensures.err n (omega (arith, inner, h))) (omega arith) c.index-args-index.is c.under.ensures
