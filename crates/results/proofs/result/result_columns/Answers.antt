use Rattle.std.proofs.Common.{◌∙◌, ◌++◌, [], ◌∷◌, ap, arith, map, sym}
use Rattle.std.proofs.lemmas.List.FromFn.{map-range_with_len_more}
use Rattle.std.specs.List.{range_with_len}
use Rattle.answers.specs.Answers.{group_shape}
use Rattle.results.specs.Result.{answer_column, item_at, result_column}
use Rattle.results.proofs.result.result_columns.Goals as goal

pub loop-place-preserved : goal.loop-place-preserved
loop-place-preserved c =
    let i = c.loop-place.place in
    let groups = map group_shape c.args.groups.now in
    let column = answer_column c.args.types.now groups in
    let so_far = map column (range_with_len 0 i) in
    c.in_ok-push.ensures.items
    ∙ ap (λ columns. columns ++ c.in_ok-column.column ∷ []) c.loop-place.invariant
    ∙ ap (λ x. so_far ++ x ∷ []) (c.in_ok-column.ensures ∙ ap (λ t. result_column t (map (item_at i) groups)) c.type_at.ensures)
    ∙ sym (map-range_with_len_more column 0 i i (omega arith))
