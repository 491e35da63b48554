use Rattle.std.proofs.Common.{◌≡◌, ◌≤◌, take}
use Rattle.shared.specs.Hand.{calls_of_hand}
use Rattle.loads.specs.Prelude.{HasAppended, batches_of_files, planned, seen_since}
use Rattle.loads.proofs.work.add_files.Given as goal

abbrev pub invariant-loop-number : goal.invariant-loop-number
invariant-loop-number g l = record {
  appended : HasAppended (planned (take l.number (batches_of_files l.files)) l.count l.place) l.fn.worker l.worker;
  first : l.first ≤ calls_of_hand l.worker;
  last : l.last ≡ seen_since l.first l.worker;
}
