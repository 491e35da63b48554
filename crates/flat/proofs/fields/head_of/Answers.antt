use Rattle.std.proofs.Common.{◌∙◌, inl}
use Rattle.std.proofs.lemmas.Result.{err_from_is_err_and}
use Rattle.flat.proofs.ContentLemmas.{named, nameless}
use Rattle.flat.proofs.fields.head_of.Goals as goal

pub returns-in_default-clause-err : goal.returns-in_default-clause-err
returns-in_default-clause-err c = inl (nameless c.args.column c.args.node.now c.in_default.ensures)

pub returns-in_err-content-clause-err : goal.returns-in_err-content-clause-err
returns-in_err-content-clause-err c =
    let p = err_from_is_err_and c.from_residual.result c.from_residual.ensures.1 in
    rw (p.1, p.2) (inl (named c.args.column c.args.node.now c.in-Ok.ensures.1 ∙ c.in_err-content.ensures.err))

pub returns-clause-lawful : goal.returns-clause-lawful
returns-clause-lawful c = named c.args.column c.args.node.now c.in-Ok.ensures.1 ∙ c.in_ok-content.ensures.lawful
