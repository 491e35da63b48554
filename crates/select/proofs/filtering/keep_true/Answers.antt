use Rattle.std.proofs.Common.{◌∙◌, sym}
use Rattle.select.proofs.SelectionLemmas.{AreTrue-both, AreTrue-valid}
use Rattle.select.proofs.filtering.keep_true.Goals as goal

pub keep_ones-requires-clause-trues : goal.keep_ones-requires-clause-trues
keep_ones-requires-clause-trues c =
    AreTrue-valid c.bools-values.result.values c.args.mask.now c.bools-values.ensures.values (sym c.bools-values.ensures.validity ∙ c.in-None.is)

pub keep_ones-requires-in-Some-clause-trues : goal.keep_ones-requires-in-Some-clause-trues
keep_ones-requires-in-Some-clause-trues c =
    AreTrue-both c.bools-values.result.values c.in-Some.valid c.bits.result c.args.mask.now c.bools-values.ensures.values
    (sym c.in-Some.is ∙ c.bools-values.ensures.validity) (c.bits.ensures ∙ c.in_ok-trues-in-Some.ensures)
