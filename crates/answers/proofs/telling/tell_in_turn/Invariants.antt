use Rattle.std.proofs.Common.{◌≡◌, ◌-◌, map}
use Rattle.answers.specs.Prelude.{group_shape, groups_from}
use Rattle.answers.proofs.telling.tell_in_turn.Given as goal

-- The groups so far.
abbrev pub invariant-loop-id : goal.invariant-loop-id
invariant-loop-id l = map group_shape l.groups.items ≡ groups_from l.grouping l.from (l.id - l.from)
