use Rattle.std.proofs.Common.{◌∙◌, ap}
use Rattle.answers.specs.Masks.{set_rows}
use Rattle.answers.proofs.MaskLemmas.{set_items}
use Rattle.answers.proofs.mask.of.Goals as goal

pub returns-clause-rows : goal.returns-clause-rows
returns-clause-rows c = ap (λ v. set_rows v c.bools.result.values) c.bools.ensures.validity ∙ set_items c.args.view.now c.bools.result.values c.bools.ensures.values
