use Rattle.std.proofs.Common.{◌≡◌, ◌∙◌, Some, ap}
use Rattle.arrays.specs.Prelude.{Field, field_of, shape_of}
use Rattle.arrays.specs.Shape as shape
use Rattle.flat.specs.Fields.{field_named}
use Rattle.flat.proofs.FieldLemmas.{begins_coded, begins_listed, shape_of-Dict}
use Rattle.flat.proofs.fields.+first_field.Goals as goal

pub returns-in_ok-check_dictionary-in-Codes-clause-begins : goal.returns-in_ok-check_dictionary-in-Codes-clause-begins
returns-in_ok-check_dictionary-in-Codes-clause-begins t c =
    let n = c.in-Some.node.now in
    begins_coded c.args.levels c.args.column c.args.nodes.now c.in-Some.behind.now n c.in-Codes.field-0 (field_of c.field-in-Codes.result) c.if-levels-eq0.false c.in-Some.ensures.cases.0
    (c.in_ok-name.ensures.content ∙ ap Some c.in-Codes.is) c.in_ok-check_dictionary-in-Codes.ensures.ok (c.field-in-Codes.ensures ∙ ap (field_named n) shape_of-Dict)

pub returns-in_ok-item-in-Lists-2-clause-begins : goal.returns-in_ok-item-in-Lists-2-clause-begins
returns-in_ok-item-in-Lists-2-clause-begins t c =
    let n = c.in-Some.node.now in
    let w = c.in-Lists.width in
    let item = c.in_ok-item-in-Lists in
    let is : shape_of c.of_lists-ty.result ≡ shape.lists w (field_of item.item) =
    c.of_lists-ty.ensures.shape ∙ ap (λ (f : Field). shape.lists w (field_of f)) c.in_ok-item-in-Lists-2.ensures.ok in
    begins_listed c.args.levels item.taken c.args.nodes.now c.in-Some.behind.now n w (field_of item.item) (field_of c.field-in-Lists.result) c.if-levels-eq0.false c.in-Some.ensures.cases.0
    (c.in_ok-name.ensures.content ∙ ap Some c.in-Lists.is) item.ensures.begins (c.field-in-Lists.ensures ∙ ap (field_named n) is)
