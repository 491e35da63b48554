use Rattle.std.proofs.Common.{◌∙◌, ap, inl, inr, refl, sym}
use Rattle.std.proofs.lemmas.List.{length-map, map-append}
use Rattle.std.proofs.lemmas.Result.{err_from_is_err_and}
use Rattle.arrays.specs.Prelude.{field_of, fields_of}
use Rattle.flat.proofs.RowLemmas.{names_step, stops_fields}
use Rattle.flat.proofs.schema.all_fields.Goals as goal

pub returns-in_err-field-clause-err : goal.returns-in_err-field-clause-err
returns-in_err-field-clause-err c =
    let at = c.loop-at in
    let p = err_from_is_err_and c.from_residual.result c.from_residual.ensures.1 in
    rw (p.1, p.2)
    (elim c.in_err-field.ensures.err [
      | inl stops ↦ inl (stops_fields c.args.nodes.now _ (fields_of at.fields.items) at.at _ _ refl c.loop-at-test.true at.invariant.named (c.len.ensures ∙ at.fields.ok.0 ∙ sym (length-map at.fields.items field_of)) stops)
      | inr none ↦ inr none
    ])

pub loop-at-preserved : goal.loop-at-preserved
loop-at-preserved c =
    let at = c.loop-at in
    let step = c.in_ok-field.ensures in
    names_step c.args.nodes.now _ (fields_of at.fields.items) (fields_of c.push.new.self.items) at.at c.in_ok-field.taken (field_of c.in_ok-field.field) refl at.invariant.within at.invariant.named
    step.begins step.within (ap fields_of c.in_ok-push.ensures.items ∙ map-append field_of at.fields.items _)
