use Rattle.std.proofs.Common.{arith, inl, inr}
use Rattle.shared.proofs.opening.check_counts.Goals as goal
use Rattle.shared.proofs.opening.check_counts.Goals.{then-workers-gt-MOST-via-then-workers-gt-MOST, then-workers-gt-MOST-via-else-workers-gt-MOST+then-readers-gt-MOST}

pub returns-then-workers-gt-MOST-clause-err : goal.returns-then-workers-gt-MOST-clause-err
returns-then-workers-gt-MOST-clause-err c =
    elim c.then-workers-gt-MOST.branch [
      | then-workers-gt-MOST-via-then-workers-gt-MOST w ↦ (omega (arith, c.if-workers-eq0.false), inl w.if-workers-gt-MOST.true)
      | then-workers-gt-MOST-via-else-workers-gt-MOST+then-readers-gt-MOST w ↦ (omega (arith, c.if-workers-eq0.false), inr w.if-readers-gt-MOST.true)
    ]
