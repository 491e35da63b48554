use Rattle.std.proofs.Common.{◌≡◌, ◌++◌, drop, map, string_bytes}
use Rattle.std.specs.Prelude.{nat_lt}
use Rattle.std.specs.List.{join_with_byte}
use Rattle.table.specs.Prelude.{group_shape}
use Rattle.reports.specs.GroupLines.{group_items, spell}
use Rattle.reports.proofs.JoinLemmas.{joined_behind}
use Rattle.reports.proofs.forms.push_cells.Given as goal

-- The cells that are left.
abbrev pub invariant-loop-i : goal.invariant-loop-i
invariant-loop-i l =
    let cells = group_items (group_shape l.group) in
    string_bytes l.text ++ joined_behind l.separator (nat_lt 0 l.i) (map (spell l.form) (drop l.i cells)) ≡ string_bytes l.fn.text ++ join_with_byte l.separator (map (spell l.form) cells)
