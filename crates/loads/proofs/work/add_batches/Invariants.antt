use Rattle.std.proofs.Common.{◌≡◌, ◌≤◌, map, take}
use Rattle.std.specs.Arc.{arc_value}
use Rattle.shared.specs.Hand.{calls_of_hand}
use Rattle.loads.specs.Loaded.{HasAppended, seen_since}
use Rattle.loads.proofs.work.add_batches.Given as goal

abbrev pub invariant-loop-number : goal.invariant-loop-number
invariant-loop-number g l = record {
  appended : HasAppended (take l.number (map arc_value l.batches)) l.fn.worker l.worker;
  first : l.first ≤ calls_of_hand l.worker;
  last : l.last ≡ seen_since l.first l.worker;
}
