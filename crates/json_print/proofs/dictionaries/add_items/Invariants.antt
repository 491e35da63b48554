use Rattle.std.proofs.Common.{◌≡◌, drop}
use Rattle.json_print.specs.Dictionaries.{with_items}
use Rattle.json_print.proofs.dictionaries.add_items.Given as goal

-- with the slots that are left all are there
abbrev pub invariant-loop-i : goal.invariant-loop-i
invariant-loop-i l = with_items l.texts (drop l.i l.column.items) ≡ with_items l.fn.texts l.column.items
