use Rattle.std.proofs.Common.{◌≡◌}
use Rattle.shared.proofs.locked.add.Given as goal

abbrev pub invariant-loop : goal.invariant-loop
invariant-loop g l = l.front ≡ l.fn.front
