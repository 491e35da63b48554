use Rattle.arrays.specs.Prelude.{depth}
use Rattle.compaction.proofs.sizes.+levels.Given as goal

abbrev pub decreases-levels : goal.decreases-levels
decreases-levels l = depth l.view.now.kind
