use Rattle.std.proofs.Common.{◌∙◌, sym, ap, replicate}
use Rattle.arrays.specs.Kind as kind
use Rattle.arrays.specs.Prelude.{boolean, shown}
use Rattle.kernels.specs.Order.{meets}
use Rattle.evaluate.proofs.OperatorLemmas.{texts_made}
use Rattle.evaluate.proofs.text.compare_texts.Goals as goal

pub returns-clause-ok : goal.returns-clause-ok
returns-clause-ok c =
    texts_made c.args.op c.in-Some.comparison c.args.left.now c.args.right.now c.args.len c.in_ok-array.array (sym c.comparison_of.ensures ∙ c.in-Some.is) c.requires.sort
    (c.in_ok-array.ensures ∙ ap (λ b. shown kind.boolean (replicate c.args.len (boolean b))) (c.meets.ensures ∙ ap (meets c.in-Some.comparison) c.order_of-order.ensures))
