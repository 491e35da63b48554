use Rattle.std.proofs.Common.{◌-◌, ◌≤◌, drop, length}
use Rattle.arrays.specs.Prelude.{fields_of}
use Rattle.flat.specs.Batch.{Takes}
use Rattle.flat.proofs.columns.all_columns.Given as goal

-- the columns so far, and what is left
abbrev pub invariant-loop-at : goal.invariant-loop-at
invariant-loop-at l = record { within : l.at ≤ length l.nodes; columns : Takes l.nodes (fields_of l.columns.fields.items) l.columns.arrays.items (drop l.at l.nodes) }

abbrev pub decreases-loop-at : goal.decreases-loop-at
decreases-loop-at l = length l.nodes - l.at
