use Rattle.std.proofs.Common.{ℕ, ◌-◌, ◌≤◌, List, length}
use Rattle.json_scan.proofs.Strings.{StringTo}
use Rattle.json_scan.proofs.text.string_end.Given as goal

abbrev pub invariant-runs : goal.invariant-runs
invariant-runs l = record {
  onward : l.at ≤ l.end;
  within : l.end ≤ length l.text;
  so_far : (s : List ℕ) × StringTo l.text l.at s l.end;
}

abbrev pub decreases-runs : goal.decreases-runs
decreases-runs l = length l.text - l.end
