use Rattle.std.proofs.Common.{None, ◌≡◌, ◌∙◌, List, ap, option_map, slice_get, Some, subst, sym}
use Rattle.std.proofs.lemmas.Option.{slice_get-get_or, slice_get-map}
use Rattle.arrays.specs.Prelude.{FieldShape, field_of, fields_of, schema_fault}
use Rattle.flat.proofs.NamedLemmas.{lent_one, lent_schema}
use Rattle.flat.proofs.named.fields_of.Goals as goal

pub loop-k-preserved : goal.loop-k-preserved
loop-k-preserved c =
    let fields = c.fields-fields.result.now in
    let f = c.index-fields-k.result in
    let at : slice_get (fields_of fields) c.loop-k.k ≡ Some (field_of f) =
    slice_get-map field_of fields c.loop-k.k ∙ ap (option_map field_of) (slice_get-get_or fields c.loop-k.k f c.loop-k-test.true) ∙ ap (λ g. Some (field_of g)) (sym c.index-fields-k.is) in
    lent_one (fields_of fields) c.loop-k.k c.loop-k.nodes.items c.push_field.new.nodes.items (field_of f)
    (subst (λ (fs : List FieldShape). schema_fault fs ≡ None) (sym c.fields-fields.ensures.value) c.fields-fields.ensures.lawful) at c.loop-k.invariant c.in_ok-push_field.ensures

pub returns : goal.returns
returns c = lent_schema c.args.schema.now c.fields-fields.result.now c.loop-k.k c.loop-k.nodes.items c.fields-fields.ensures.value c.loop-k-test.false c.loop-k.invariant
