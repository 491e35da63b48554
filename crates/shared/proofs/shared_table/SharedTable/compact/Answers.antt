use Rattle.std.proofs.Common.{◌∙◌, List, ap, subst, sym}
use Rattle.std.specs.Arc.{arc_value}
use Rattle.arrays.specs.Prelude.{FieldShape}
use Rattle.table.specs.Prelude.{AreApart, Contents, History}
use Rattle.table.proofs.GroupLemmas.{groups-apart}
use Rattle.shared.proofs.SeenLemmas.{known_joined, ok_with, seen_kept}
use Rattle.shared.specs.Prelude.{IsOfWorkers, known_of}
use Rattle.shared.proofs.shared_table.SharedTable.compact.Goals as goal

pub returns-clause-kept : goal.returns-clause-kept
returns-clause-kept g c = seen_kept c.args.worker.now c.compact.new.worker c.compact.ensures.seen

pub returns-clause-all : goal.returns-clause-all
returns-clause-all g c =
    ok_with c.compact.result
    (λ v joined is. ap known_of is ∙ known_joined c.args.max_rows c.deref_mut.result.now c.compact.new.self joined ∙ sym c.compact.ensures.all)
    c.compact.ensures.compacted
    c.compact.ensures.version

pub returns-clause-known : goal.returns-clause-known
returns-clause-known g c =
    let count = sym c.self.invariant ∙ c.self.view_is in
    ok_with c.compact.result
    (λ v joined is.
    subst (λ n. IsOfWorkers n (arc_value v).history) count
    (subst (λ (h : History). IsOfWorkers g.N.Naming-1.workers h) (sym (ap (λ (s : Contents). s.history) is ∙ joined.history)) c.compact.ensures.known))
    c.compact.ensures.compacted
    c.compact.ensures.version

pub returns-clause-apart : goal.returns-clause-apart
returns-clause-apart g c =
    let old = c.deref_mut.result.now in
    let max = c.args.max_rows in
    ok_with c.compact.result
    (λ v joined is.
    subst (λ (s : Contents). AreApart s.fields max s.batches) (sym is)
    (subst (λ (fs : List FieldShape). AreApart fs max c.compact.new.self.batches) (sym joined.fields) (groups-apart old.fields max old.batches c.compact.new.self.batches joined.groups)))
    c.compact.ensures.compacted
    c.compact.ensures.version
