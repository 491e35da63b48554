use Rattle.std.proofs.Common.{◌-◌, ◌+◌, ◌<◌, ◌≤◌, [], List, length, drop}
use Rattle.serde_json.specs.Data.{Data}
use Rattle.json_scan.proofs.Arrays.{ItemsTo}
use Rattle.json_scan.proofs.array.read_array.Given as goal

abbrev pub invariant-items : goal.invariant-items
invariant-items g l = record {
  onward : l.start < l.next;
  within : l.next ≤ length l.text;
  so_far : (ds : List Data) × ItemsTo (l.depth - 1) (drop (l.start + 1) l.text) ds (drop l.next l.text)
      × (g.V.ItemVisitor.holds l.text (l.depth - 1) l.initial.visitor [] l.initial.visitor → g.V.ItemVisitor.holds l.text (l.depth - 1) l.initial.visitor ds l.visitor);
}

abbrev pub decreases-items : goal.decreases-items
decreases-items g l = length l.text - l.next
