use Rattle.std.proofs.Common.{◌≡◌, drop, map, Ok, string_bytes}
use Rattle.query.specs.Resolved.{renamed_agg}
use Rattle.json_base.specs.Prelude.{items_view}
use Rattle.json_query.specs.Prelude.{agg, each_item}
use Rattle.json_query.proofs.Readings.{each_after}
use Rattle.json_query.proofs.lists.read_all.Given as goal

-- the aggregates so far are read
abbrev pub invariant-loop-index : goal.invariant-loop-index
invariant-loop-index l = each_item agg (items_view l.values) ≡ each_after (Ok (map (renamed_agg string_bytes) l.aggs.items)) l.index agg (items_view (drop l.index l.values))
