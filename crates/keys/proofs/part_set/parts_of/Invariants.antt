use Rattle.std.proofs.Common.{◌≡◌, [], map, nat_eq, take}
use Rattle.indexmap.specs.IndexSet.{insert_all}
use Rattle.keys.specs.PartSets.{one, parts_of_code}
use Rattle.keys.proofs.part_set.parts_of.Given as goal

-- The parts so far.
abbrev pub invariant-loop-place : goal.invariant-loop-place
invariant-loop-place l = map one l.parts.keys ≡ map parts_of_code (insert_all nat_eq [] (take l.place l.codes))
