use Rattle.std.proofs.Common.{◌≡◌}
use Rattle.left_right.specs.Handles.{pending}
use Rattle.shared.proofs.shown.push.Given as goal

abbrev pub invariant-loop : goal.invariant-loop
invariant-loop g l = (l.waiting ≡ l.fn.next) × (pending l.publisher ≡ pending l.fn.publisher)
