use Rattle.std.proofs.Common.{◌∙◌, ap, subst, sym}
use Rattle.std.specs.Arc.{arc_value}
use Rattle.shared.specs.Prelude.{IsOfWorkers, known_of}
use Rattle.shared.proofs.SeenLemmas.{ok_each, seen_kept}
use Rattle.table.specs.Contents.{Contents}
use Rattle.shared.proofs.shared_table.SharedTable.snapshot.Goals as goal

pub returns-clause-kept : goal.returns-clause-kept
returns-clause-kept g c = seen_kept c.args.worker.now c.snapshot.new.worker c.snapshot.ensures.seen

pub returns-clause-all : goal.returns-clause-all
returns-clause-all g c = ok_each c.snapshot.result (λ v is. ap known_of is ∙ sym c.snapshot.ensures.all) c.snapshot.ensures.version

pub returns-clause-known : goal.returns-clause-known
returns-clause-known g c =
    let count = sym c.self.invariant ∙ c.self.view_is in
    ok_each c.snapshot.result
    (λ v is. subst (λ n. IsOfWorkers n (arc_value v).history) count (subst (λ (s : Contents). IsOfWorkers g.N.Naming-1.workers s.history) (sym is) c.snapshot.ensures.known))
    c.snapshot.ensures.version
