use Rattle.std.proofs.Common.{◌≡◌, arith, length, subst}
use mathlib.Core.List.{IsPrefix}
use Rattle.shared.specs.Prelude.{Hand, IsWorkerOf, fields_after, pairs_in}
use Rattle.shared.proofs.KnownLemmas.{opened_first}
use Rattle.shared.proofs.ViewLemmas.{own_part}
use Rattle.table.specs.Widened.{widened}
use Rattle.table.proofs.WidenedLemmas.{widened-again}
use Rattle.shared.proofs.worker.Worker.tell.Goals as goal

pub returns-clause-opened : goal.returns-clause-opened
returns-clause-opened g c = subst (λ (h : Hand). IsPrefix g.N.Naming-1.fields h.seen.fields) c.self.view_is (opened_first g.N.Naming-1.fields c.self.inside.seen)

pub returns-clause-part : goal.returns-clause-part
returns-clause-part g c =
    let is = c.self.invariant in
    let w = c.self.inside in
    subst (λ (h : Hand). IsWorkerOf g.N.Naming-1.workers h.seen h) c.self.view_is (own_part g.N.Naming-1.workers g.N.Naming-1.fields w.number w.seen w.mine w.column_count w.left is.number is.legal is.order)

pub returns-clause-wide : goal.returns-clause-wide
returns-clause-wide g c =
    let w = c.self.inside in
    let n = length (fields_after g.N.Naming-1.fields w.seen) in
    subst (λ (h : Hand). widened (length h.seen.fields) h.mine ≡ h.mine) c.self.view_is (widened-again n n (omega arith) (pairs_in w.mine))
