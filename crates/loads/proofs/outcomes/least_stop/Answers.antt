use Rattle.std.proofs.Common.{◌∙◌, ◌++◌, ◌∷◌, [], ap, sym, subst, take}
use Rattle.std.proofs.lemmas.List.{take_more}
use Rattle.loads.specs.Report.{IsLeastStopOf}
use Rattle.loads.proofs.outcomes.least_stop.Goals as goal

pub loop-outcome-preserved : goal.loop-outcome-preserved
loop-outcome-preserved g c =
    let all = c.args.outcomes.now in
    let i = c.loop-outcome.outcome-index in
    let item = c.outcome-item.result in
    subst (IsLeastStopOf c.lesser-least.result) (ap (λ o. take i all ++ o ∷ []) c.outcome-item.is ∙ sym (take_more all i item c.loop-outcome-test.true))
    (c.lesser-least.ensures (take i all) item (sym c.stop.ensures) c.loop-outcome.invariant)
