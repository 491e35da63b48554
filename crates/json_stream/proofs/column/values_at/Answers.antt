use Rattle.json_stream.proofs.ColumnLemmas.{placed_values}
use Rattle.json_stream.proofs.column.values_at.Goals as goal

pub returns-in-Ok : goal.returns-in-Ok
returns-in-Ok c =
    λ found stands.
    let read = c.in-Ok.ensures.ok in
    let place = rw c.in-Some.is at stands in
    placed_values _ _ c.args.depth c.args.text.now c.args.validity.now found c.in-Some.place read.0 c.in-Ok.values.value place (rw c.if-read_values-place.true at read.1) read.2
