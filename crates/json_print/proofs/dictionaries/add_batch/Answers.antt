use Rattle.std.proofs.Common.{◌≡◌, ◌∙◌, List, map, ap}
use Rattle.std.proofs.lemmas.Result.{IfOk-equal}
use Rattle.arrays.specs.Prelude.{Seen, is_text, kinds_of}
use Rattle.json_print.specs.Dictionaries.{with_items}
use Rattle.json_print.proofs.Batches.{column_at-read, encoded_kind, encoded_within, lawful_kinds}
use Rattle.json_print.proofs.dictionaries.add_batch.Goals as goal

pub add_items-requires : goal.add_items-requires
add_items-requires c =
    let batch = c.args.batch.now in
    let columns = c.columns-columns.result.now in
    let same : map (λ (s : Seen). s.kind) columns ≡ kinds_of batch.fields = ap (λ (cs : List Seen). map (λ s. s.kind) cs) c.columns-columns.ensures.value ∙ lawful_kinds batch.fields batch.rows batch.columns c.columns-columns.ensures.lawful in
    let within = encoded_within columns batch.fields c.args.place same c.requires in
    ap (λ (s : Seen). is_text s.kind) c.view.ensures ∙ ap is_text (encoded_kind columns batch.fields c.args.place c.index-columns-place.result same c.requires within c.index-columns-place.is)

pub returns : goal.returns
returns c =
    let batch = c.args.batch.now in
    let columns = c.columns-columns.result.now in
    let same : map (λ (s : Seen). s.kind) columns ≡ kinds_of batch.fields = ap (λ (cs : List Seen). map (λ s. s.kind) cs) c.columns-columns.ensures.value ∙ lawful_kinds batch.fields batch.rows batch.columns c.columns-columns.ensures.lawful in
    let within = encoded_within columns batch.fields c.args.place same c.requires in
    IfOk-equal c.add_items.result _ _ _ c.add_items.ensures
    (ap (with_items c.args.texts.now) (ap (λ (s : Seen). s.items) c.view.ensures ∙ column_at-read batch columns c.args.place c.index-columns-place.result c.columns-columns.ensures.value within c.index-columns-place.is))
