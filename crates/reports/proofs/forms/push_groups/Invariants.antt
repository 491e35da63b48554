use Rattle.std.proofs.Common.{◌≡◌, ◌++◌, map, string_bytes, take}
use Rattle.std.specs.List.{flat_map}
use Rattle.table.specs.Prelude.{group_shape}
use Rattle.reports.specs.GroupLines.{form_of}
use Rattle.reports.proofs.forms.push_groups.Given as goal

-- The groups so far.
abbrev pub invariant-loop-group : goal.invariant-loop-group
invariant-loop-group l = string_bytes l.text ≡ string_bytes l.fn.text ++ flat_map (form_of l.form) (map group_shape (take l.group-index l.answer.groups.items))
