use Rattle.std.proofs.Common.{◌∙◌, ap, sym, length}
use Rattle.layout.specs.Seen.{Seen}
use Rattle.arrays.proofs.ViewLemmas.{length-show_view}
use Rattle.arrays.proofs.view.View.slots.Goals as goal

pub returns-clause-count : goal.returns-clause-count
returns-clause-count c = sym (length-show_view c.self.inside c.self.invariant.within) ∙ ap (λ (s : Seen). length s.items) c.self.view_is
