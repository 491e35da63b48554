use Rattle.std.proofs.Common.{◌≡◌, ◌∙◌, arith, length, subst, sym}
use Rattle.std.proofs.lemmas.Grind.{common_steps}
use Rattle.shared.specs.Prelude.{Hand, fields_after, pairs_in, rows_of_hand}
use Rattle.shared.proofs.BalanceLemmas.{rows_widened}
use Rattle.shared.proofs.lending.+tell_totals.Goals as goal

pub returns-clause-row_total : goal.returns-clause-row_total
returns-clause-row_total g t c =
    let is = c.first.invariant in
    let w = c.first.inside in
    let one : w.row_count ≡ rows_of_hand c.in-Some.first.now =
    subst (λ (h : Hand). w.row_count ≡ rows_of_hand h) c.first.view_is (is.row_count ∙ sym is.own_rows ∙ sym (rows_widened (length (fields_after g.N.Naming-1.fields w.seen)) (pairs_in w.mine))) in
    grind (arith, common_steps, one)
