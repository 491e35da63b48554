use Rattle.std.proofs.Common.{◌∙◌, ap, sym}
use Rattle.layout.specs.Seen.{Seen}
use Rattle.arrays.proofs.ViewLemmas.{kind-show_view}
use Rattle.arrays.proofs.view.View.ty.Goals as goal

pub returns : goal.returns
returns c = sym (kind-show_view c.self.inside) ∙ ap (λ (s : Seen). s.kind) c.self.view_is
