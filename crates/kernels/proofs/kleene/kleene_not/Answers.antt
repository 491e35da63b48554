use Rattle.std.proofs.Common.{◌∙◌, ap, sym, cond, Some, None}
use Rattle.arrays.specs.Kind as kind
use Rattle.arrays.specs.Shown.{shown}
use Rattle.kernels.specs.declared.fault.KernelFault.TheVariants.{TypesDiffer}
use Rattle.kernels.proofs.KleeneLemmas.{kind_of_truths, truths-negation}
use Rattle.kernels.proofs.kleene.kleene_not.Goals as goal

pub of-truths-requires : goal.of-truths-requires
of-truths-requires c = kind_of_truths c.args.a.now.kind (sym c.is_of_truths.ensures ∙ c.if-not-is_of_truths.false)

pub returns-clause-ok : goal.returns-clause-ok
returns-clause-ok c = (
  ap (λ b. cond b None (Some TypesDiffer)) (sym c.is_of_truths.ensures ∙ c.if-not-is_of_truths.false),
  c.in_ok-array_of.ensures ∙ ap (shown kind.boolean) (truths-negation _ _ c.args.a.now c.of-truths.ensures),
)
