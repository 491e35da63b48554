use Rattle.std.proofs.Common.{take, option_map}
use Rattle.arrays.specs.Prelude.{boolean}
use Rattle.arrays.specs.Kind as kind
use Rattle.group.specs.Tally.{IsTally}
use Rattle.group.proofs.slots.truth_stats.Given as goal

-- the slots so far are counted in
abbrev pub invariant-loop-i : goal.invariant-loop-i
invariant-loop-i l =
    IsTally kind.boolean l.tally.nulls (option_map boolean l.tally.least) (option_map boolean l.tally.greatest) (take l.i l.view.items)
