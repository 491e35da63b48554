use Rattle.std.proofs.Common.{◌∙◌, inl, inr, refl, sym}
use Rattle.std.proofs.lemmas.List.{length-map}
use Rattle.std.proofs.lemmas.Result.{err_from_is_err_and}
use Rattle.arrays.specs.Prelude.{field_of, fields_of}
use Rattle.flat.proofs.RowLemmas.{stops_columns, takes_step}
use Rattle.flat.proofs.columns.all_columns.Goals as goal

pub returns-in_err-field-clause-err : goal.returns-in_err-field-clause-err
returns-in_err-field-clause-err c =
    let at = c.loop-at in
    let columns = at.columns in
    let p = err_from_is_err_and c.from_residual.result c.from_residual.ensures.1 in
    rw (p.1, p.2)
    (elim c.in_err-field.ensures.err [
      | inl stops ↦
          inl (stops_columns c.args.nodes.now _ (fields_of columns.fields.items) columns.arrays.items at.at _ _ refl c.loop-at-test.true at.invariant.columns
          (c.len.ensures ∙ columns.fields.ok.0 ∙ sym (length-map columns.fields.items field_of)) stops)
      | inr none ↦ inr none
    ])

pub loop-at-preserved : goal.loop-at-preserved
loop-at-preserved c =
    let at = c.loop-at in
    let columns = at.columns in
    let new = c.push.new.self in
    let step = c.in_ok-field.ensures in
    takes_step c.args.nodes.now _ (fields_of columns.fields.items) (fields_of new.fields.items) columns.arrays.items new.arrays.items at.at c.in_ok-field.taken _ _ refl at.invariant.within at.invariant.columns
    step.begins step.shows step.within c.in_ok-push.ensures.fields c.in_ok-push.ensures.arrays
