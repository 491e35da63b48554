use Rattle.std.proofs.Common.{◌-◌, ◌≤◌, drop, length}
use Rattle.arrays.specs.Prelude.{fields_of}
use Rattle.flat.specs.Schema.{Names}
use Rattle.flat.proofs.schema.all_fields.Given as goal

-- the fields so far, and what is left
abbrev pub invariant-loop-at : goal.invariant-loop-at
invariant-loop-at l = record { within : l.at ≤ length l.nodes; named : Names l.nodes (fields_of l.fields.items) (drop l.at l.nodes) }

abbrev pub decreases-loop-at : goal.decreases-loop-at
decreases-loop-at l = length l.nodes - l.at
