use Rattle.std.proofs.Common.{◌<◌, ◌≤◌, ◌-◌, length, take}
use Rattle.arrays.specs.Lengths.{joined_items}
use Rattle.select.proofs.joining.valid.JoinedSlots.place_of.Given as goal

-- the slot lies in a view from the lower one up to the higher one
abbrev pub invariant-loop-high : goal.invariant-loop-high
invariant-loop-high l = record {
  order : l.low < l.high;
  within : l.high ≤ length l.self.views.now;
  from : length (joined_items (take l.low l.self.views.now)) ≤ l.i;
  below : l.i < length (joined_items (take l.high l.self.views.now));
}

abbrev pub decreases-loop-high : goal.decreases-loop-high
decreases-loop-high l = l.high - l.low
