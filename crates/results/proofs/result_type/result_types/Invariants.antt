use Rattle.std.proofs.Common.{◌≡◌, ◌++◌, map, take}
use Rattle.results.specs.Types.{type_at, type_of_agg}
use Rattle.results.proofs.result_type.result_types.Given as goal

-- The types of the keys, and of the aggregates so far.
abbrev pub invariant-loop-agg : goal.invariant-loop-agg
invariant-loop-agg l = l.types.items ≡ map (type_at l.schema) l.query.by.items ++ map (type_of_agg l.schema) (take l.agg-index l.query.aggs.items)
