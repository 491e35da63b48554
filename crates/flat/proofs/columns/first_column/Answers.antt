use Rattle.std.proofs.Common.{inl, inr}
use Rattle.std.proofs.lemmas.Result.{err_from_is_err_and}
use Rattle.arrays.specs.Prelude.{field_of}
use Rattle.flat.proofs.RowLemmas.{stops_array}
use Rattle.flat.proofs.columns.first_column.Goals as goal

pub returns-in_err-array-clause-err : goal.returns-in_err-array-clause-err
returns-in_err-array-clause-err c =
    let field = c.in_ok-field in
    let p = err_from_is_err_and c.from_residual-in_err-array.result c.from_residual-in_err-array.ensures.1 in
    rw (p.1, p.2)
    (elim c.in_err-array.ensures.err [
      | inl stops ↦ inl (stops_array c.args.column field.taken c.args.nodes.now c.in-Some.behind.now c.in-Some.node.now (field_of field.field) _ c.in-Some.ensures.cases.0 field.ensures.begins stops)
      | inr none ↦ inr none
    ])
