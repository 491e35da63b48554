use Rattle.std.proofs.Common.{◌≡◌, map, drop}
use Rattle.types.specs.First.{first}
use Rattle.query.specs.FirstFault.{agg_fault}
use Rattle.query.proofs.kinds.check_aggs.Given as goal

-- the first fault is that of the aggregates that are left
abbrev pub invariant-loop-agg : goal.invariant-loop-agg
invariant-loop-agg g l =
    first (map (agg_fault (g.C.Column.sort_in l.schema)) l.aggs)
    ≡ first (map (agg_fault (g.C.Column.sort_in l.schema)) (drop l.agg-index l.aggs))
