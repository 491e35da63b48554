use Rattle.std.proofs.Common.{◌≡◌, map, take}
use Rattle.tallies.specs.Prelude.{agg_at, merge_all, show_item}
use Rattle.tallies.proofs.items.merge_items.Given as goal

-- The bests so far are added.
abbrev pub invariant-loop-i : goal.invariant-loop-i
invariant-loop-i l =
    map show_item l.bests ≡ merge_all (agg_at l.end 0) (take l.i l.ids) (map show_item (take l.i l.others)) (map show_item l.initial.bests)
