use Rattle.types.specs.Kind.{depth}
use Rattle.arrays.proofs.view.View.+tell_items.Given as goal

abbrev pub decreases-tell_items : goal.decreases-tell_items
decreases-tell_items l = depth l.self.now.kind
