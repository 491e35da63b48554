use Rattle.std.proofs.Common.{take}
use Rattle.arrays.specs.Prelude.{fields_of}
use Rattle.flat.proofs.LentLemmas.{LendsSoFar}
use Rattle.flat.proofs.lent.nodes_of.Given as goal

-- the columns so far
abbrev pub invariant-loop-k : goal.invariant-loop-k
invariant-loop-k l = LendsSoFar l.nodes.items (take l.k (fields_of l.fields)) (take l.k l.columns)
