use Rattle.std.proofs.Common.{◌≡◌, [], map, take}
use Rattle.tallies.specs.Prelude.{padded, show_column, tally_of}
use Rattle.answers.proofs.grouping.new_columns.Given as goal

-- The columns so far.
abbrev pub invariant-loop-agg : goal.invariant-loop-agg
invariant-loop-agg l = map show_column l.columns.items ≡ map (λ a. record { agg = a; tallies = padded l.groups (tally_of a []) [] }) (take l.agg-index l.aggs)
