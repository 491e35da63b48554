use Rattle.std.proofs.Common.{◌∙◌, ap, length, sym}
use Rattle.select.proofs.NamedLemmas.{length-rows_named}
use Rattle.select.proofs.indices.IndicesRows.slots.Goals as goal

pub returns-clause-count : goal.returns-clause-count
returns-clause-count g c =
    let r = c.self.inside.numbers in
    sym (ap length (sym c.self.view_is) ∙ length-rows_named g.T.Integer.ty r.values.now r.validity r.slots)
