use Rattle.std.proofs.Common.{◌∙◌, ◌≡◌, ◌≤◌, ◌++◌, [], ◌∷◌, List, ap, false, subst, sym}
use Rattle.arrays.specs.Prelude.{FieldShape, Kind, depth, field_of, fields_of, has_dict_in_list, schema_fault}
use Rattle.arrays.proofs.ShapeLemmas.{kind_of_field-field_of}
use Rattle.table.proofs.AddLemmas.{schema-wider}
use Rattle.table.proofs.StoredLemmas.{no_fault}
use Rattle.table.proofs.widening.wider_schema.Goals as goal

pub unreachable-requires : goal.unreachable-requires
unreachable-requires c =
    let f = field_of c.args.field.now in
    no_fault (schema_fault (fields_of c.in_ok-wider_fields.field-0.items)) c.in-Err.field-0
    (ap schema_fault (c.in_ok-wider_fields.ensures ∙ ap (λ (l : List FieldShape). l ++ f ∷ []) c.fields.ensures.value)
    ∙ schema-wider c.args.schema.now f c.fields.ensures.lawful
    (subst (λ (k : Kind). depth k ≤ 8) (sym (kind_of_field-field_of c.args.field.now)) c.requires.depth)
    (subst (λ (k : Kind). has_dict_in_list k ≡ false) (sym (kind_of_field-field_of c.args.field.now)) c.requires.no_dict))
    c.in-Err.ensures.err
