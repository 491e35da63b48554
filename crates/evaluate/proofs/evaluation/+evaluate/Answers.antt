use Rattle.std.proofs.Common.{◌≡◌, ◌≢◌, ◌∙◌, ap, sym, subst, length, map, is_ok, true, arith}
use Rattle.query.specs.Prelude.{checked, op, sort_at, sort_of_one, sort_of_two, tree_of, trees}
use Rattle.query.proofs.TreeLemmas.{tree_of-Op}
use Rattle.evaluate.specs.Prelude.{AreMade, AreValues, StopsAt, StopsMaking, item_in, of_one, of_two, sort_in}
use Rattle.evaluate.proofs.TreeLemmas.{made_one, made_so, made_two, no_sort, outer_one, outer_two, passed_on, stopped_so, stops_left, stops_right, stops_two, tree_one, tree_two}
use Rattle.evaluate.proofs.evaluation.+evaluate.Goals as goal

pub of_one-requires-clause-short : goal.of_one-requires-clause-short
of_one-requires-clause-short t c = c.args.slice.few

pub of_one-requires-clause-sort : goal.of_one-requires-clause-sort
of_one-requires-clause-sort t c =
    let tree = tree_one c.args.expr.now c.in-Op.op c.in-Op.operands c.as_slice.result.now c.operand-item.result (ap tree_of c.in-Op.is ∙ tree_of-Op c.in-Op.op c.in-Op.operands) c.as_slice.ensures.value (omega (arith, c.in-len1)) c.operand-item.is in
    outer_one c.args.slice.batch.now.fields c.in-Op.op (tree_of c.operand-item.result) (sort_in c.in_ok-operand-in-len1.operand) c.in_ok-operand-in-len1.ensures.ok.sort
    (ap (λ t. is_ok (checked (sort_at c.args.slice.batch.now.fields) t)) (sym tree) ∙ c.requires)

pub returns-in_ok-operand-in-len1-clause-ok : goal.returns-in_ok-operand-in-len1-clause-ok
returns-in_ok-operand-in-len1-clause-ok t c =
    let b = c.args.slice.batch.now in
    let va = c.in_ok-operand-in-len1.operand in
    let tree = tree_one c.args.expr.now c.in-Op.op c.in-Op.operands c.as_slice.result.now c.operand-item.result (ap tree_of c.in-Op.is ∙ tree_of-Op c.in-Op.op c.in-Op.operands) c.as_slice.ensures.value (omega (arith, c.in-len1)) c.operand-item.is in
    made_so b c.args.slice.start c.args.slice.len (tree_of c.args.expr.now) c.of_one.result (AreMade (sort_of_one c.in-Op.op (sort_in va)) (λ i. of_one c.in-Op.op (item_in va i)) c.args.slice.len)
    (λ v made. subst (λ t. AreValues b c.args.slice.start c.args.slice.len t v) (sym tree) (made_one b c.args.slice.start c.args.slice.len c.in-Op.op (tree_of c.operand-item.result) va v c.in_ok-operand-in-len1.ensures.ok made))
    c.of_one.ensures.ok

pub returns-in_err-left-in-len2-clause-err : goal.returns-in_err-left-in-len2-clause-err
returns-in_err-left-in-len2-clause-err t c =
    let b = c.args.slice.batch.now in
    let e = c.in_err-left-in-len2.field-0.0 in
    let tree = tree_two c.args.expr.now c.in-Op.op c.in-Op.operands c.as_slice.result.now c.left-item.result c.right-item.result (ap tree_of c.in-Op.is ∙ tree_of-Op c.in-Op.op c.in-Op.operands) c.as_slice.ensures.value (omega (arith, c.in-len2)) c.left-item.is c.right-item.is in
    passed_on c.from_residual-in_err-left-in-len2.result e (StopsAt b c.args.slice.start c.args.slice.len (tree_of c.args.expr.now)) c.from_residual-in_err-left-in-len2.ensures.1
    (subst (λ t. StopsAt b c.args.slice.start c.args.slice.len t e) (sym tree) (stops_left b c.args.slice.start c.args.slice.len c.in-Op.op (tree_of c.left-item.result) (tree_of c.right-item.result) e c.in_err-left-in-len2.ensures.err))

pub returns-in_err-right-in-len2-clause-err : goal.returns-in_err-right-in-len2-clause-err
returns-in_err-right-in-len2-clause-err t c =
    let b = c.args.slice.batch.now in
    let e = c.in_err-right-in-len2.field-0.0 in
    let tree = tree_two c.args.expr.now c.in-Op.op c.in-Op.operands c.as_slice.result.now c.left-item.result c.right-item.result (ap tree_of c.in-Op.is ∙ tree_of-Op c.in-Op.op c.in-Op.operands) c.as_slice.ensures.value (omega (arith, c.in-len2)) c.left-item.is c.right-item.is in
    passed_on c.from_residual-in_err-right-in-len2.result e (StopsAt b c.args.slice.start c.args.slice.len (tree_of c.args.expr.now)) c.from_residual-in_err-right-in-len2.ensures.1
    (subst (λ t. StopsAt b c.args.slice.start c.args.slice.len t e) (sym tree) (stops_right b c.args.slice.start c.args.slice.len c.in-Op.op (tree_of c.left-item.result) (tree_of c.right-item.result) e c.in_err-right-in-len2.ensures.err))

pub of_two-requires-clause-short : goal.of_two-requires-clause-short
of_two-requires-clause-short t c = c.args.slice.few

pub of_two-requires-clause-sort : goal.of_two-requires-clause-sort
of_two-requires-clause-sort t c =
    let tree = tree_two c.args.expr.now c.in-Op.op c.in-Op.operands c.as_slice.result.now c.left-item.result c.right-item.result (ap tree_of c.in-Op.is ∙ tree_of-Op c.in-Op.op c.in-Op.operands) c.as_slice.ensures.value (omega (arith, c.in-len2)) c.left-item.is c.right-item.is in
    outer_two c.args.slice.batch.now.fields c.in-Op.op (tree_of c.left-item.result) (tree_of c.right-item.result) (sort_in c.in_ok-left-in-len2.left) (sort_in c.in_ok-right-in-len2.right)
    c.in_ok-left-in-len2.ensures.ok.sort c.in_ok-right-in-len2.ensures.ok.sort
    (ap (λ t. is_ok (checked (sort_at c.args.slice.batch.now.fields) t)) (sym tree) ∙ c.requires)

pub returns-in_ok-right-in-len2-clause-ok : goal.returns-in_ok-right-in-len2-clause-ok
returns-in_ok-right-in-len2-clause-ok t c =
    let b = c.args.slice.batch.now in
    let va = c.in_ok-left-in-len2.left in
    let vb = c.in_ok-right-in-len2.right in
    let tree = tree_two c.args.expr.now c.in-Op.op c.in-Op.operands c.as_slice.result.now c.left-item.result c.right-item.result (ap tree_of c.in-Op.is ∙ tree_of-Op c.in-Op.op c.in-Op.operands) c.as_slice.ensures.value (omega (arith, c.in-len2)) c.left-item.is c.right-item.is in
    made_so b c.args.slice.start c.args.slice.len (tree_of c.args.expr.now) c.of_two.result (AreMade (sort_of_two c.in-Op.op (sort_in va) (sort_in vb)) (λ i. of_two c.in-Op.op (item_in va i) (item_in vb i)) c.args.slice.len)
    (λ v made. subst (λ t. AreValues b c.args.slice.start c.args.slice.len t v) (sym tree)
    (made_two b c.args.slice.start c.args.slice.len c.in-Op.op (tree_of c.left-item.result) (tree_of c.right-item.result) va vb v c.in_ok-left-in-len2.ensures.ok c.in_ok-right-in-len2.ensures.ok made))
    c.of_two.ensures.ok

pub returns-in_ok-right-in-len2-clause-err : goal.returns-in_ok-right-in-len2-clause-err
returns-in_ok-right-in-len2-clause-err t c =
    let b = c.args.slice.batch.now in
    let va = c.in_ok-left-in-len2.left in
    let vb = c.in_ok-right-in-len2.right in
    let tree = tree_two c.args.expr.now c.in-Op.op c.in-Op.operands c.as_slice.result.now c.left-item.result c.right-item.result (ap tree_of c.in-Op.is ∙ tree_of-Op c.in-Op.op c.in-Op.operands) c.as_slice.ensures.value (omega (arith, c.in-len2)) c.left-item.is c.right-item.is in
    stopped_so b c.args.slice.start c.args.slice.len (tree_of c.args.expr.now) c.of_two.result (StopsMaking (sort_of_two c.in-Op.op (sort_in va) (sort_in vb)) (λ i. of_two c.in-Op.op (item_in va i) (item_in vb i)) c.args.slice.len)
    (λ e at. subst (λ t. StopsAt b c.args.slice.start c.args.slice.len t e) (sym tree)
    (stops_two b c.args.slice.start c.args.slice.len c.in-Op.op (tree_of c.left-item.result) (tree_of c.right-item.result) va vb e c.in_ok-left-in-len2.ensures.ok c.in_ok-right-in-len2.ensures.ok at))
    c.of_two.ensures.err

pub unreachable-requires : goal.unreachable-requires
unreachable-requires t c =
    let sort_in = sort_at c.args.slice.batch.now.fields in
    let not_one : length c.as_slice.result.now ≢ 1 = λ e. grind arith in
    let not_two : length c.as_slice.result.now ≢ 2 = λ e. grind arith in
    no_sort sort_in c.in-Op.op c.as_slice.result.now not_one not_two
    (subst (λ ys. is_ok (checked sort_in (op c.in-Op.op (trees (map tree_of ys)))) ≡ true) (sym c.as_slice.ensures.value)
    (ap (λ d. is_ok (checked sort_in d)) (sym (ap tree_of c.in-Op.is ∙ tree_of-Op c.in-Op.op c.in-Op.operands)) ∙ c.requires))
