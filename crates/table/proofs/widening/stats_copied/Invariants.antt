use Rattle.std.proofs.Common.{take}
use Rattle.std.specs.List.{AllZip}
use Rattle.answers.specs.Prelude.{AreSame}
use Rattle.table.proofs.widening.stats_copied.Given as goal

abbrev pub invariant-loop-one : goal.invariant-loop-one
invariant-loop-one l = AllZip AreSame l.copied.items (take l.one-index l.stats)
