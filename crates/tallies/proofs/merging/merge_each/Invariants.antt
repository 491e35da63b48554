use Rattle.std.proofs.Common.{◌≡◌, map, take}
use Rattle.tallies.specs.Merging.{merge_all}
use Rattle.tallies.proofs.merging.merge_each.Given as goal

-- The cells so far are added.
abbrev pub invariant-loop-i : goal.invariant-loop-i
invariant-loop-i g l =
    map g.M.Merge.show l.cells ≡ merge_all (g.M.Merge.agg l.how) (take l.i l.ids) (map g.M.Merge.show (take l.i l.others)) (map g.M.Merge.show l.initial.cells)
