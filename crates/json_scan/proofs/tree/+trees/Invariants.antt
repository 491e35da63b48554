use Rattle.std.proofs.Common.{◌-◌, ◌+◌, ◌*◌, ◌<◌, ◌≤◌, length, drop, map}
use Rattle.serde_json.specs.Data.{no_members}
use Rattle.serde_json.specs.View.{view, members_view}
use Rattle.json_scan.proofs.Arrays.{ItemsTo}
use Rattle.json_scan.proofs.Objects.{MembersTo}
use Rattle.json_scan.proofs.tree.+trees.Given as goal

abbrev pub decreases-read_value : goal.decreases-read_value
decreases-read_value l = 2 * l.depth + 1

abbrev pub decreases-read_array_value : goal.decreases-read_array_value
decreases-read_array_value l = 2 * l.depth

abbrev pub decreases-read_object_value : goal.decreases-read_object_value
decreases-read_object_value l = 2 * l.depth

abbrev pub invariant-read_array_value-items : goal.invariant-read_array_value-items
invariant-read_array_value-items l = record {
  onward : l.at < l.next;
  within : l.next ≤ length l.text;
  so_far : ItemsTo (l.depth - 1) (drop (l.at + 1) l.text) (map view l.values.items) (drop l.next l.text);
}

abbrev pub decreases-read_array_value-items : goal.decreases-read_array_value-items
decreases-read_array_value-items l = length l.text - l.next

abbrev pub invariant-read_object_value-members : goal.invariant-read_object_value-members
invariant-read_object_value-members l = record {
  onward : l.at < l.next;
  within : l.next ≤ length l.text;
  so_far : MembersTo (l.depth - 1) (drop (l.at + 1) l.text) no_members (members_view l.values.entries) (drop l.next l.text);
}

abbrev pub decreases-read_object_value-members : goal.decreases-read_object_value-members
decreases-read_object_value-members l = length l.text - l.next
