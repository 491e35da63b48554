use Rattle.std.proofs.Common.{◌≡◌, [], replicate}
use Rattle.table.proofs.state.no_texts.Given as goal

abbrev pub invariant-loop-column : goal.invariant-loop-column
invariant-loop-column l = l.pools.items ≡ replicate l._column []
