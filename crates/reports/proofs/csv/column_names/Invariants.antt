use Rattle.std.proofs.Common.{◌≡◌, ◌++◌, map, string_bytes, take}
use Rattle.table.specs.Prelude.{renamed_agg}
use Rattle.reports.specs.GroupLines.{agg_label}
use Rattle.reports.proofs.csv.column_names.Given as goal

-- The names of the keys, and of the aggregates so far.
abbrev pub invariant-loop-agg : goal.invariant-loop-agg
invariant-loop-agg l = map string_bytes l.names.items ≡ map string_bytes l.query.by.items ++ map agg_label (map (renamed_agg string_bytes) (take l.agg-index l.query.aggs.items))
