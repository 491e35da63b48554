use Rattle.std.proofs.Common.{◌≡◌, [], map, take}
use Rattle.indexmap.specs.IndexSet.{insert_all}
use Rattle.keys.specs.PartSets.{one, parts_listed}
use Rattle.keys.proofs.PartSetLemmas.{part_eq}
use Rattle.keys.proofs.part_set.lists_of.Given as goal

-- The keys so far.
abbrev pub invariant-loop-part : goal.invariant-loop-part
invariant-loop-part l = parts_listed l.lists.keys ≡ map one (insert_all part_eq [] (take l.part-index l.part-items))
