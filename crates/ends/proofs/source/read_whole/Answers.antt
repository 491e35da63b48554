-- Where a fault ends the reading, the source has lost what was read before it.
use Rattle.ends.proofs.Ends.{on_err, LosesFront-kept, LosesFront-more}
use Rattle.ends.proofs.source.read_whole.Goals as goal

pub returns-in_err-count-clause-err : goal.returns-in_err-count-clause-err
returns-in_err-count-clause-err g c =
    on_err _ (LosesFront-kept _ _ _ _ c.loop-turn.invariant.consumed c.in_err-count.ensures.bytes)

pub returns-in_err-extend_from_slice-clause-err : goal.returns-in_err-extend_from_slice-clause-err
returns-in_err-extend_from_slice-clause-err g c =
    on_err _ (LosesFront-more _ _ _ _ _ c.loop-turn.invariant.consumed c.in_ok-count.ensures.bytes.0)
