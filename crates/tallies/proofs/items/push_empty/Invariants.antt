use Rattle.std.proofs.Common.{◌≡◌, ◌-◌, ◌≤◌, ◌++◌, None, length, replicate, vec_len}
use Rattle.tallies.proofs.items.push_empty.Given as goal

-- Nothing but cells of no items came.
abbrev pub invariant-loop-items : goal.invariant-loop-items
invariant-loop-items l =
    (l.items.items ≡ l.initial.items.items ++ replicate (length l.items.items - length l.initial.items.items) None)
    × (length l.items.items ≤ l.groups)
    × (length l.initial.items.items ≤ length l.items.items)

abbrev pub decreases-loop-items : goal.decreases-loop-items
decreases-loop-items l = l.groups - vec_len l.items
