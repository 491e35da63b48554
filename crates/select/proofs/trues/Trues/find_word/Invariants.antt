use Rattle.std.proofs.Common.{◌≡◌, ◌-◌, ◌*◌, length}
use Rattle.select.specs.Picked.{ones_left}
use Rattle.select.proofs.trues.Trues.find_word.Given as goal

-- the same rows are left
abbrev pub invariant-loop-place : goal.invariant-loop-place
invariant-loop-place l = ones_left l.self.bits l.place.at l.place.ones ≡ ones_left l.self.bits l.fn.place.at l.fn.place.ones

abbrev pub decreases-loop-place : goal.decreases-loop-place
decreases-loop-place l = length l.self.bits - 64 * l.place.at
