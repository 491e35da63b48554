use Rattle.std.proofs.Common.{◌≡◌, ◌<◌, ◌∙◌, ℕ, None, Option, List, true, not, ap, get_or, length, subst}
use Rattle.select.specs.Picked.{is_row}
use Rattle.select.proofs.NamedLemmas.{rows_named-row}
use Rattle.select.proofs.indices.IndicesRows.are_rows.Goals as goal

pub returns : goal.returns
returns g c = λ yes.
    let r = c.self.inside.numbers in
    subst (λ (picks : List (Option ℕ)). (j : ℕ) → j < length picks → is_row (get_or picks j None) ≡ true) c.self.view_is
    (λ j below. rows_named-row g.T.Integer.ty r.values.now r.validity r.slots j (c.is_none.ensures ∙ ap not yes) below)
