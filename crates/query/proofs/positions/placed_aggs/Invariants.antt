use Rattle.std.proofs.Common.{◌≡◌, map, take}
use Rattle.types.specs.Shape.{fields_of}
use Rattle.query.specs.Resolved.{place_in, renamed_agg}
use Rattle.query.proofs.positions.placed_aggs.Given as goal

-- the aggregates so far
abbrev pub invariant-loop-agg : goal.invariant-loop-agg
invariant-loop-agg l = l.placed_aggs.items ≡ map (renamed_agg (place_in (fields_of l.fields))) (take l.agg-index l.aggs)
