use Rattle.std.proofs.Common.{◌∙◌, ap, sym}
use Rattle.results.specs.Types.{type_at}
use Rattle.results.proofs.TypeLemmas.{type_at-field, type_at-past}
use Rattle.results.proofs.result_type.type_at.Goals as goal

pub returns-in-Some : goal.returns-in-Some
returns-in-Some c =
    let found = c.in-Some.ensures.lookup in
    c.type_of.ensures
    ∙ sym (type_at-field c.fields.result.now c.args.place c.in-Some.field.now found.3.0 found.1)
    ∙ ap (λ fields. type_at fields c.args.place) c.fields.ensures.value

pub returns-in-None : goal.returns-in-None
returns-in-None c =
    sym (type_at-past c.fields.result.now c.args.place c.in-None.ensures.lookup.3)
    ∙ ap (λ fields. type_at fields c.args.place) c.fields.ensures.value
