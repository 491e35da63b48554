use Rattle.std.proofs.Common.{◌∙◌, ap}
use Rattle.arrays.specs.Kind as kind
use Rattle.arrays.specs.Shown.{shown}
use Rattle.kernels.proofs.NullLemmas.{truths-invalid, truths-nulls}
use Rattle.kernels.proofs.nulls.is_null.Goals as goal

pub returns-then-may_name_nulls-clause-ok : goal.returns-then-may_name_nulls-clause-ok
returns-then-may_name_nulls-clause-ok c = c.in_ok-array_of.ensures ∙ ap (shown kind.boolean) (truths-nulls c.args.a.now)

pub returns-clause-ok : goal.returns-clause-ok
returns-clause-ok c =
    c.in_ok-array_of-2.ensures ∙ ap (shown kind.boolean) (truths-invalid c.args.a.now c.of-valid.result.bits c.of-valid.result.len c.of-valid.ensures.bits c.of-valid.ensures.len (c.may_name_nulls.ensures c.if-may_name_nulls.false))
