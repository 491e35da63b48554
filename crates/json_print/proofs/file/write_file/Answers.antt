use Rattle.std.proofs.Common.{◌≡◌, ◌∙◌, List, length, map, sym, ap, subst}
use Rattle.std.proofs.lemmas.List.{length-map}
use Rattle.std.specs.Arc.{arc_value}
use Rattle.arrays.specs.Prelude.{AreBatchesOf, FieldShape, field_of, fields_of}
use Rattle.json_base.specs.JsonTable.{tables_of}
use Rattle.json_print.specs.declared.text_set.TextSet.{TextSet}
use Rattle.json_print.proofs.Texts.{length-dictionaries_from}
use Rattle.json_print.proofs.file.write_file.Goals as goal

pub dictionaries_of-requires : goal.dictionaries_of-requires
dictionaries_of-requires c =
    let fields : fields_of c.fields-fields.result.now ≡ c.args.file.now.fields = c.fields-fields.ensures.value ∙ c.schema.ensures in
    subst (λ fs. AreBatchesOf fs (map arc_value c.batches.result.now)) (sym fields) (subst (AreBatchesOf c.args.file.now.fields) (sym c.batches.ensures.value) c.batches.ensures.types)

pub write_batches-requires-clause-dictionaries : goal.write_batches-requires-clause-dictionaries
write_batches-requires-clause-dictionaries c =
    let fields = c.fields-fields.result.now in
    ap (λ (ds : List TextSet). length ds) (c.deref.ensures.value ∙ c.in_ok-dictionaries.ensures)
    ∙ length-dictionaries_from 0 (fields_of fields) (tables_of (map arc_value c.batches.result.now)) ∙ length-map fields field_of

pub write_batches-requires-clause-types : goal.write_batches-requires-clause-types
write_batches-requires-clause-types c =
    let fields : fields_of c.fields-fields.result.now ≡ c.args.file.now.fields = c.fields-fields.ensures.value ∙ c.schema.ensures in
    subst (λ fs. AreBatchesOf fs (map arc_value c.batches-2.result.now)) (sym fields) (subst (AreBatchesOf c.args.file.now.fields) (sym c.batches-2.ensures.value) c.batches-2.ensures.types)

pub write_last_members-requires : goal.write_last_members-requires
write_last_members-requires c =
    let fields = c.fields-fields.result.now in
    ap (λ (ds : List TextSet). length ds) (c.deref-2.ensures.value ∙ c.in_ok-dictionaries.ensures)
    ∙ length-dictionaries_from 0 (fields_of fields) (tables_of (map arc_value c.batches.result.now))
    ∙ ap (λ (fs : List FieldShape). length fs) (c.fields-fields.ensures.value ∙ c.schema.ensures ∙ sym c.schema-2.ensures)
