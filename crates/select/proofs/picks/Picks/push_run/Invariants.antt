use Rattle.std.proofs.Common.{◌≡◌, ◌-◌, ◌++◌, Some, map}
use Rattle.std.specs.List.{range_with_len}
use Rattle.select.proofs.picks.Picks.push_run.Given as goal

abbrev pub invariant-loop-i : goal.invariant-loop-i
invariant-loop-i l = l.self ≡ l.fn.self ++ map (λ i. Some i) (range_with_len l.start (l.i - l.start))
