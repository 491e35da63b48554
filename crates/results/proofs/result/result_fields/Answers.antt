use Rattle.std.proofs.Common.{◌∙◌, ◌++◌, [], ◌∷◌, ap, arith, map, string_bytes, sym, true}
use Rattle.std.proofs.lemmas.List.{map-append}
use Rattle.std.proofs.lemmas.List.FromFn.{map-range_with_len_more}
use Rattle.std.specs.List.{range_with_len}
use Rattle.std.specs.Prelude.{slice_index_or}
use Rattle.arrays.specs.Prelude.{field, field_of, fields_of, shape_of}
use Rattle.results.specs.Result.{field_at}
use Rattle.results.proofs.result.result_fields.Goals as goal

pub loop-place-preserved : goal.loop-place-preserved
loop-place-preserved c =
    let i = c.loop-place.place in
    let at = field_at (map string_bytes c.args.names.now) (map (λ c. c.kind) c.args.columns.now) in
    let so_far = map at (range_with_len 0 i) in
    ap fields_of c.in_ok-push.ensures.items
    ∙ map-append field_of c.loop-place.fields.items (c.in_ok-field.field ∷ [])
    ∙ ap (λ fields. fields ++ field_of c.in_ok-field.field ∷ []) c.loop-place.invariant
    ∙ ap (λ f. so_far ++ f ∷ [])
    (c.in_ok-field.ensures.shape
    ∙ ap (λ name. field name true (shape_of c.data_type_at.result)) c.name_at.ensures
    ∙ ap (λ ty. field (slice_index_or (map string_bytes c.args.names.now) i []) true ty) c.data_type_at.ensures)
    ∙ sym (map-range_with_len_more at 0 i i (omega arith))
