use Rattle.std.proofs.Common.{◌∙◌, ap, inl, inr, sym}
use Rattle.std.proofs.lemmas.Result.{err_from_is_err_and}
use Rattle.table.specs.Prelude.{named, resolved}
use Rattle.reports.specs.Prelude.{IsUnanswered, OrMemory}
use Rattle.reports.proofs.groups.placed_query.Goals as goal

pub returns-clause-ok : goal.returns-clause-ok
returns-clause-ok c = ap (λ fs. resolved fs (named c.args.query.now)) (sym c.schema.ensures) ∙ c.in_ok-resolve.ensures.ok

pub returns-in_err-resolve-clause-err : goal.returns-in_err-resolve-clause-err
returns-in_err-resolve-clause-err c =
    let asked = named c.args.query.now in
    let p = err_from_is_err_and c.from_residual.result c.from_residual.ensures.1 in
    let stops = OrMemory (IsUnanswered asked c.args.version.now.fields c.args.version.now.history) p.0 in
    rw p.1 (elim p.2 as (λ _. stops) [
      | inl wants ↦ inl wants.1
      | inr is ↦ elim c.in_err-resolve.ensures.err as (λ _. stops) [
        | inl stands ↦ inr (c.in_err-resolve.field-0.0, is.1, inl (ap (λ fs. resolved fs asked) (sym c.schema.ensures) ∙ stands))
        | inr wants ↦ absurd (is.0 wants.0)
      ]
    ])
