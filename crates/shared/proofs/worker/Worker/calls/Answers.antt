use Rattle.std.proofs.Common.{◌≡◌, ◌∙◌, length, subst, sym}
use Rattle.shared.specs.Prelude.{Hand, calls_of_hand, fields_after, pairs_in}
use Rattle.table.proofs.WidenedLemmas.{length-widened}
use Rattle.shared.proofs.worker.Worker.calls.Goals as goal

pub returns : goal.returns
returns g c =
    let is = c.self.invariant in
    let w = c.self.inside in
    subst (λ (h : Hand). w.call_count ≡ calls_of_hand h) c.self.view_is (is.call_count ∙ sym is.own_calls ∙ sym (length-widened (length (fields_after g.N.Naming-1.fields w.seen)) (pairs_in w.mine)))
