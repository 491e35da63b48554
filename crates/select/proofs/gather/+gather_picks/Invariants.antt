use Rattle.arrays.specs.Prelude.{depth}
use Rattle.select.proofs.gather.+gather_picks.Given as goal

abbrev pub decreases-gather_picks : goal.decreases-gather_picks
decreases-gather_picks l = depth l.view.now.kind
