use Rattle.std.proofs.Common.{◌≡◌}
use Rattle.left_right.specs.Handles.{pending, published}
use Rattle.shared.proofs.shown.publish_all.Given as goal

abbrev pub invariant-loop : goal.invariant-loop
invariant-loop g l = (published l.publisher ≡ published l.fn.publisher) × (pending l.publisher ≡ pending l.fn.publisher)
