use Rattle.std.proofs.Common.{◌-◌, ◌+◌, ◌<◌, ◌≤◌, length, drop}
use Rattle.serde_json.specs.Data.{Members, no_members}
use Rattle.json_scan.proofs.Objects.{MembersTo}
use Rattle.json_scan.proofs.object.read_object.Given as goal

abbrev pub invariant-members : goal.invariant-members
invariant-members g l = record {
  onward : l.start < l.next;
  within : l.next ≤ length l.text;
  so_far : (ms : Members) × MembersTo (l.depth - 1) (drop (l.start + 1) l.text) no_members ms (drop l.next l.text)
      × (g.V.MemberVisitor.holds l.text (l.depth - 1) l.initial.visitor no_members l.initial.visitor → g.V.MemberVisitor.holds l.text (l.depth - 1) l.initial.visitor ms l.visitor);
}

abbrev pub decreases-members : goal.decreases-members
decreases-members g l = length l.text - l.next
