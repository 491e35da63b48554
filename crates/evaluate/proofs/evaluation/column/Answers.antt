use Rattle.std.proofs.Common.{◌≡◌, ◌∙◌, ◌+◌, ◌≤◌, ap, get_or, length, refl, subst, sym}
use Rattle.arrays.specs.Prelude.{Seen}
use Rattle.evaluate.proofs.ColumnLemmas.{is_column, place_within, slots_within}
use Rattle.evaluate.proofs.evaluation.column.Goals as goal

pub invariant_of-result : goal.invariant_of-result
invariant_of-result c =
    let b = c.args.slice.batch.now in
    let x : Seen = c.index-columns-place.result in
    let here : x ≡ get_or b.columns c.args.place x = c.index-columns-place.is ∙ ap (λ cs. get_or cs c.args.place x) c.columns-columns.ensures.value in
    record {
      within = subst (λ (s : Seen). c.args.slice.start + c.args.slice.len ≤ length s.items) (sym here)
          (slots_within b c.args.place c.args.slice.start c.args.slice.len x c.columns-columns.ensures.lawful (place_within b c.args.place c.columns-columns.ensures.lawful c.requires) c.args.slice.within);
    }

pub returns : goal.returns
returns c =
    let b = c.args.slice.batch.now in
    let x : Seen = c.index-columns-place.result in
    let here : x ≡ get_or b.columns c.args.place x = c.index-columns-place.is ∙ ap (λ cs. get_or cs c.args.place x) c.columns-columns.ensures.value in
    is_column b c.args.place c.args.slice.start c.args.slice.len _ c.columns-columns.ensures.lawful c.requires c.args.slice.within here refl refl
