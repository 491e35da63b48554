use Rattle.std.proofs.Common.{◌∙◌, sym}
use Rattle.evaluate.proofs.OperatorLemmas.{beside_made}
use Rattle.evaluate.proofs.text.compare_with_text.Goals as goal

pub returns-clause-ok : goal.returns-clause-ok
returns-clause-ok c =
    beside_made c.args.is_first c.args.op c.in-Some.op c.args.text.now c.args.view.now c.in_ok-array.array c.slots.result c.slots.ensures.count (sym c.comparison_of.ensures ∙ c.in-Some.is) c.requires.sort c.in_ok-array.ensures
