use Rattle.std.proofs.Common.{◌≡◌, ◌≤◌, take}
use Rattle.group.specs.Stats.{nulls_of}
use Rattle.group.proofs.slots.list_stats.Given as goal

-- the nulls so far are counted
abbrev pub invariant-loop-i : goal.invariant-loop-i
invariant-loop-i l = record {
  counted : l.nulls ≡ nulls_of (take l.i l.view.items);
  few : l.nulls ≤ l.i;
}
