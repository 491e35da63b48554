use Rattle.std.proofs.Common.{◌≡◌, ◌+◌, ◌≤◌, drop}
use Rattle.arrays.specs.Prelude.{most_slots, text_bytes}
use Rattle.compaction.proofs.sizes.with_bytes.Given as goal

abbrev pub invariant-loop-i : goal.invariant-loop-i
invariant-loop-i l = record {
  sum : l.bytes + text_bytes (drop l.i l.view.items) ≡ l.before + text_bytes l.view.items;
  few : l.bytes ≤ most_slots;
}
