use Rattle.std.proofs.Common.{take}
use Rattle.arrays.specs.Prelude.{fields_of}
use Rattle.flat.proofs.NamedLemmas.{LentSoFar}
use Rattle.flat.proofs.named.fields_of.Given as goal

-- the fields so far
abbrev pub invariant-loop-k : goal.invariant-loop-k
invariant-loop-k l = LentSoFar l.nodes.items (take l.k (fields_of l.fields))
