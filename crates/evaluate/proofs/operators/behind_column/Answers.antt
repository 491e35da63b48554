use Rattle.std.proofs.Common.{◌∙◌, IfErr, IfOk, ap, is_some, length, subst, sym}
use Rattle.arrays.specs.Prelude.{Seen, item_at}
use Rattle.query.specs.Sorts as sorts
use Rattle.query.specs.Sorts.{sort_of_kind, sort_of_two}
use Rattle.evaluate.specs.Prelude.{AreMade, StopsMaking, column_of, item_in, of_two, sort_in}
use Rattle.evaluate.proofs.OperatorLemmas.{columns_sort}
use Rattle.evaluate.proofs.operators.behind_column.Goals as goal

pub returns-in-Column-clause-ok : goal.returns-in-Column-clause-ok
returns-in-Column-clause-ok c =
    let o = c.args.op in
    let a = c.args.column.now in
    let b = column_of c.in-Column.right in
    let n = length a.items in
    let r = c.of_two-in-Column.result in
    let seen = subst (λ (v : Seen). IfOk r (AreMade (sorts.of_two o (sort_of_kind a.kind) (sort_of_kind v.kind)) (λ i. of_two o (item_at a.items i) (item_at v.items i)) n)) c.view.ensures c.of_two-in-Column.ensures.ok in
    let reported = subst (λ s. IfOk r (AreMade s (λ i. of_two o (item_at a.items i) (item_at b.items i)) n)) (sym (columns_sort o a.kind b.kind)) seen in
    subst (λ w. IfOk r (AreMade (sort_of_two o (sort_of_kind a.kind) (sort_in w)) (λ i. of_two o (item_at a.items i) (item_in w i)) n)) (sym c.in-Column.is) reported

pub returns-in-Column-clause-err : goal.returns-in-Column-clause-err
returns-in-Column-clause-err c =
    let o = c.args.op in
    let a = c.args.column.now in
    let b = column_of c.in-Column.right in
    let n = length a.items in
    let r = c.of_two-in-Column.result in
    let seen = subst (λ (v : Seen). IfErr r (StopsMaking (sorts.of_two o (sort_of_kind a.kind) (sort_of_kind v.kind)) (λ i. of_two o (item_at a.items i) (item_at v.items i)) n)) c.view.ensures c.of_two-in-Column.ensures.err in
    let reported = subst (λ s. IfErr r (StopsMaking s (λ i. of_two o (item_at a.items i) (item_at b.items i)) n)) (sym (columns_sort o a.kind b.kind)) seen in
    subst (λ w. IfErr r (StopsMaking (sort_of_two o (sort_of_kind a.kind) (sort_in w)) (λ i. of_two o (item_at a.items i) (item_in w i)) n)) (sym c.in-Column.is) reported

pub of_two-requires-in-Column-clause-sorts : goal.of_two-requires-in-Column-clause-sorts
of_two-requires-in-Column-clause-sorts c =
    let o = c.args.op in
    let a = c.args.column.now in
    let b = column_of c.in-Column.right in
    ap (λ (v : Seen). is_some (sorts.of_two o (sort_of_kind a.kind) (sort_of_kind v.kind))) c.view.ensures
    ∙ ap is_some (sym (columns_sort o a.kind b.kind))
    ∙ ap (λ w. is_some (sort_of_two o (sort_of_kind a.kind) (sort_in w))) (sym c.in-Column.is)
    ∙ c.requires.sort
