use Rattle.std.proofs.Common.{◌≡◌, ◌∙◌, ap, get_or, subst, sym}
use Rattle.arrays.specs.Prelude.{Seen}
use Rattle.evaluate.specs.Rows.{HasColumn}
use Rattle.evaluate.proofs.RowLemmas.{is_column, kind_there}
use Rattle.evaluate.proofs.column.column_at.Goals as goal

pub returns-clause-items : goal.returns-clause-items
returns-clause-items c =
    let b = c.args.batch.now in
    let x : Seen = c.index-columns-place.result in
    let here : x ≡ get_or b.columns c.args.place x = c.index-columns-place.is ∙ ap (λ cs. get_or cs c.args.place x) c.columns-columns.ensures.value in
    subst (HasColumn b c.args.place) (sym c.view.ensures) (is_column b c.args.place x c.columns-columns.ensures.lawful c.requires here)

pub returns-clause-kind : goal.returns-clause-kind
returns-clause-kind c =
    let b = c.args.batch.now in
    let x : Seen = c.index-columns-place.result in
    let here : x ≡ get_or b.columns c.args.place x = c.index-columns-place.is ∙ ap (λ cs. get_or cs c.args.place x) c.columns-columns.ensures.value in
    ap (λ (s : Seen). s.kind) c.view.ensures ∙ kind_there b c.args.place x c.columns-columns.ensures.lawful c.requires here
