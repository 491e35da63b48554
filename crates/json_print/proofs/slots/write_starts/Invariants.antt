use Rattle.std.proofs.Common.{◌≡◌, ◌+◌, ◌++◌, drop, sum_by}
use Rattle.json_print.specs.Prelude.{item_length, starts_tokens}
use Rattle.json_print.proofs.slots.write_starts.Given as goal

-- with the slots that are left all is written
abbrev pub invariant-loop-i : goal.invariant-loop-i
invariant-loop-i l = record {
  written : l.out ++ starts_tokens l.width l.end (drop l.i l.view.items) ≡ l.fn.out ++ starts_tokens l.width l.start l.view.items;
  end : l.end + sum_by item_length (drop l.i l.view.items) ≡ l.start + sum_by item_length l.view.items;
}
