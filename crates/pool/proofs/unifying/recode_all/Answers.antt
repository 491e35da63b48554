use Rattle.std.proofs.Common.{◌++◌, ◌∙◌, length, refl, ap}
use Rattle.std.proofs.lemmas.Option.{slice_get_read}
use Rattle.pool.specs.Prelude.{all_texts, firsts, is_too_full, texts_of}
use Rattle.pool.proofs.RecodeLemmas.{reported_of_all}
use Rattle.pool.proofs.UnifyLemmas.{Unified-view, full_in_views}
use Rattle.pool.proofs.unifying.recode_all.Goals as goal

pub returns-in_err-column-clause-err : goal.returns-in_err-column-clause-err
returns-in_err-column-clause-err c =
    let views = c.args.views.now in
    let i = c.loop-view.view-index in
    let v = c.view-item.result in
    let pool = c.loop-view.pool in
    let at = slice_get_read views (length views) i v refl c.loop-view-test.true c.view-item.is in
    reported_of_all c.from_residual-in_err-column.result c.in_err-column.field-0.0 (firsts (pool ++ texts_of v.items)) (all_texts views)
    c.from_residual-in_err-column.ensures.1 c.in_err-column.ensures.err
    (full_in_views views i v pool at c.loop-view.invariant.pool_is)

pub loop-view-preserved : goal.loop-view-preserved
loop-view-preserved c =
    let views = c.args.views.now in
    let i = c.loop-view.view-index in
    let v = c.view-item.result in
    let at = slice_get_read views (length views) i v refl c.loop-view-test.true c.view-item.is in
    Unified-view views i v c.in_ok-column.column c.loop-view.pool c.recode.new.pool c.loop-view.codes.items c.push.new.self.items c.loop-view.invariant
    at (ap is_too_full c.in_ok-column.ensures.texts ∙ c.in_ok-column.ensures.fits) c.in_ok-column.ensures.texts c.in_ok-column.ensures.whole c.in_ok-push.ensures.items
