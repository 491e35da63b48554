use Rattle.std.proofs.Common.{◌≡◌, ◌+◌, ◌*◌, ◌++◌, ◌∷◌, [], drop, string_bytes}
use Rattle.std.specs.Prelude.{nat_lt}
use Rattle.std.specs.List.{join_with_byte}
use Rattle.arrays.specs.Prelude.{depth, list_of}
use Rattle.reports.specs.Shown.{cells}
use Rattle.reports.proofs.JoinLemmas.{joined_behind}
use Rattle.reports.proofs.head.+items.Given as goal

-- a list's items are of a kind that is less deep, and each of the two calls the next one
abbrev pub decreases-push_item : goal.decreases-push_item
decreases-push_item l = 2 * depth l.column.now.kind

abbrev pub decreases-push_list : goal.decreases-push_list
decreases-push_list l = 2 * depth l.column.now.kind + 1

-- The items that are left.
abbrev pub invariant-push_list-loop-i : goal.invariant-push_list-loop-i
invariant-push_list-loop-i l =
    let items = l.column.items in
    string_bytes l.text ++ joined_behind 44 (nat_lt 0 l.i) (cells (list_of (drop l.i items))) ≡ (string_bytes l.fn.text ++ 91 ∷ []) ++ join_with_byte 44 (cells (list_of items))
