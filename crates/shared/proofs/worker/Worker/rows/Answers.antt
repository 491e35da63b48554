use Rattle.std.proofs.Common.{◌≡◌, ◌∙◌, length, subst, sym}
use Rattle.shared.specs.Prelude.{Hand, fields_after, pairs_in, rows_of_hand}
use Rattle.shared.proofs.BalanceLemmas.{rows_widened}
use Rattle.shared.proofs.worker.Worker.rows.Goals as goal

pub returns : goal.returns
returns g c =
    let is = c.self.invariant in
    let w = c.self.inside in
    subst (λ (h : Hand). w.row_count ≡ rows_of_hand h) c.self.view_is (is.row_count ∙ sym is.own_rows ∙ sym (rows_widened (length (fields_after g.N.Naming-1.fields w.seen)) (pairs_in w.mine)))
