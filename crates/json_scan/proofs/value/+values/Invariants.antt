use Rattle.std.proofs.Common.{◌-◌, ◌+◌, ◌*◌, ◌<◌, ◌≤◌, List, length, drop}
use Rattle.serde_json.specs.Data.{Data, Members, no_members}
use Rattle.json_scan.proofs.Arrays.{ItemsTo}
use Rattle.json_scan.proofs.Objects.{MembersTo}
use Rattle.json_scan.proofs.value.+values.Given as goal

abbrev pub decreases-pass_value : goal.decreases-pass_value
decreases-pass_value l = 2 * l.depth + 1

abbrev pub decreases-pass_array : goal.decreases-pass_array
decreases-pass_array l = 2 * l.depth

abbrev pub decreases-pass_object : goal.decreases-pass_object
decreases-pass_object l = 2 * l.depth

abbrev pub invariant-pass_array-items : goal.invariant-pass_array-items
invariant-pass_array-items l = record {
  onward : l.at < l.next;
  within : l.next ≤ length l.text;
  so_far : (ds : List Data) × ItemsTo (l.depth - 1) (drop (l.at + 1) l.text) ds (drop l.next l.text);
}

abbrev pub decreases-pass_array-items : goal.decreases-pass_array-items
decreases-pass_array-items l = length l.text - l.next

abbrev pub invariant-pass_object-members : goal.invariant-pass_object-members
invariant-pass_object-members l = record {
  onward : l.at < l.next;
  within : l.next ≤ length l.text;
  so_far : (ms : Members) × MembersTo (l.depth - 1) (drop (l.at + 1) l.text) no_members ms (drop l.next l.text);
}

abbrev pub decreases-pass_object-members : goal.decreases-pass_object-members
decreases-pass_object-members l = length l.text - l.next
