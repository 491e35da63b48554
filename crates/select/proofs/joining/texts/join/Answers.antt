use Rattle.std.proofs.Common.{◌∙◌, ◌++◌, List, ap, sym}
use Rattle.arrays.specs.Prelude.{Item, is_full, text_bytes}
use Rattle.select.proofs.BigLemmas.{full_of_build}
use Rattle.select.proofs.JoinLemmas.{full-texts}
use Rattle.select.proofs.joining.texts.join.Goals as goal

pub returns-in_err-all-2-clause-err : goal.returns-in_err-all-2-clause-err
returns-in_err-all-2-clause-err c =
    let old = c.loop-view.all in
    let s = c.view-item.result in
    full_of_build c.from_residual-in_err-all-2.result c.in_err-all-2.field-0.0 _ _ c.from_residual-in_err-all-2.ensures.1 c.in_err-all-2.ensures.err
    (λ full. full-texts c.args.width c.args.views.now c.loop-view.view-index s old.items c.loop-view-test.true c.view-item.is c.loop-view.invariant.items
    (ap (λ w. is_full w (text_bytes (old.items ++ s.items))) (sym c.loop-view.invariant.width)
    ∙ ap (λ (xs : List Item). is_full old.width (text_bytes (old.items ++ xs))) (sym c.texts.ensures.items)
    ∙ full))
