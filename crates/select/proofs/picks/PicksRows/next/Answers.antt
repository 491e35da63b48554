use Rattle.std.proofs.Common.{arith}
use Rattle.select.proofs.RestLemmas.{below_all, reported_next}
use Rattle.select.proofs.picks.PicksRows.next.Goals as goal

pub get-row-requires : goal.get-row-requires
get-row-requires c = below_all c.args.self.now c.args.place.now.at c.requires

pub overflow_add-place : goal.overflow_add-place
overflow_add-place c = omega (arith, c.get-row.ensures.short)

pub returns : goal.returns
returns c = reported_next c.args.self.now c.args.place.now.at c.get-row.result c.get-row.ensures.row
