use Rattle.std.proofs.Common.{◌≡◌, ◌∙◌, ap, subst, sym}
use Rattle.std.specs.Arc.{arc_value}
use Rattle.shared.specs.Prelude.{IsLegalKnown, IsOfWorkers, known_after, known_of}
use Rattle.shared.proofs.KnownLemmas.{reported_begins}
use Rattle.table.specs.Contents.{Contents}
use Rattle.shared.proofs.reader.Reader.latest.Goals as goal

pub returns-clause-begun : goal.returns-clause-begun
returns-clause-begun g c =
    let first = g.N.Naming-1.fields in
    let shown : known_after first c.own.inside.front ≡ known_of (arc_value c.in_ok-version.version) = c.own.invariant.known ∙ sym (ap known_of c.in_ok-version.ensures.cases) in
    reported_begins first c.self.inside.known c.own.inside.front c.args.self.now (known_of (arc_value c.in_ok-version.version)) (c.self.view_is ∙ c.look.ensures) shown c.if-not-begins.ensures

pub returns-clause-known : goal.returns-clause-known
returns-clause-known g c = ap (known_after g.N.Naming-1.fields) c.again.ensures ∙ c.own.invariant.known ∙ sym (ap known_of c.in_ok-version.ensures.cases)

pub returns-clause-legal : goal.returns-clause-legal
returns-clause-legal g c = subst (λ (s : Contents). IsLegalKnown (known_of s)) c.deref.ensures c.rows-rows.ensures.legal

pub returns-clause-workers : goal.returns-clause-workers
returns-clause-workers g c = subst (λ (s : Contents). IsOfWorkers g.N.Naming-1.workers s.history) (sym c.in_ok-version.ensures.cases) c.own.invariant.workers
