use Rattle.std.proofs.Common.{take}
use Rattle.table.specs.Chunks.{AreCopies}
use Rattle.table.proofs.chunks.extended.Given as goal

abbrev pub invariant-loop-one : goal.invariant-loop-one
invariant-loop-one g l = AreCopies g.T.Clone.is_clone (take l.one-index l.values) l.all.items
