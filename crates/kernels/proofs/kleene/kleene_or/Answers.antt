use Rattle.std.proofs.Common.{◌∙◌, ap}
use Rattle.arrays.specs.Kind as kind
use Rattle.arrays.specs.Shown.{shown}
use Rattle.kernels.proofs.KleeneLemmas.{truths-disjunction}
use Rattle.kernels.proofs.kleene.kleene_or.Goals as goal

pub returns-clause-ok : goal.returns-clause-ok
returns-clause-ok c =
    let o = c.in_ok-operands.operands in
    let has = c.in_ok-operands.ensures.ok in
    (has.0, c.in_ok-array_of.ensures ∙ ap (shown kind.boolean) (truths-disjunction _ _ _ _ c.args.a.now c.args.b.now o.one_length has.1 has.2))
