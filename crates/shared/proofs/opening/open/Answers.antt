use Rattle.std.proofs.Common.{◌∙◌, ap}
use Rattle.shared.proofs.SeenLemmas.{some_each}
use Rattle.table.specs.Contents.{Contents}
use Rattle.shared.proofs.opening.open.Goals as goal

pub new-table-requires-clause-shown : goal.new-table-requires-clause-shown
new-table-requires-clause-shown g c =
    let state = c.named-state.result.0 in
    some_each c.in_ok-publisher.publisher (λ p is. ((record { contents = state; number = 0 }, is.0 ∙ ap (λ (s : Contents). record { contents = s; number = 0 }) c.named-state.ensures.version), is.1))
    c.in_ok-publisher.ensures.shown
