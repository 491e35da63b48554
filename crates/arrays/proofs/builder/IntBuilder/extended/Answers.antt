use Rattle.std.proofs.Common.{◌∙◌, ◌++◌, ap, subst}
use Rattle.std.proofs.lemmas.Result.{IfOk-weaker}
use Rattle.arrays.specs.Values.{HasNumbers}
use Rattle.arrays.proofs.BuilderLemmas.{numbers_where-items}
use Rattle.arrays.proofs.builder.IntBuilder.extended.Goals as goal

pub returns-clause-items : goal.returns-clause-items
returns-clause-items g c =
    let self = c.args.self in
    let view = c.args.view.now in
    let numbers = c.numbers-numbers.result.now in
    let has = subst (λ t. HasNumbers t numbers view) (c.ty.ensures ∙ c.requires.ty) c.numbers-numbers.ensures in
    IfOk-weaker c.extended_at_once.result _ _
    (λ b is. is ∙ ap (λ xs. self.items ++ xs) (numbers_where-items self.ty numbers view c.validity.result c.len.result has c.validity.ensures c.len.ensures))
    c.extended_at_once.ensures.items
