use Rattle.std.proofs.Common.{ap}
use Rattle.table.specs.Contents.{Contents}
use Rattle.shared.proofs.opening.Opening.new.Goals as goal

pub returns-clause-fields : goal.returns-clause-fields
returns-clause-fields c = ap (λ (s : Contents). s.fields) c.in_ok-state.ensures
