use Rattle.std.proofs.Common.{List, arith, refl, subst, sym}
use mathlib.Core.List.{IsPrefix}
use Rattle.histories.proofs.PrefixLemmas.{prefix_self}
use Rattle.shared.specs.Changes.{Change, known_after}
use Rattle.shared.proofs.KnownLemmas.{reported_begins}
use Rattle.shared.proofs.SeenLemmas.{true_of}
use Rattle.shared.proofs.reader.Reader.learn.Goals as goal

pub returns-then-begins-clause-old : goal.returns-then-begins-clause-old
returns-then-begins-clause-old g c =
    let first = g.N.Naming-1.fields in
    let known = c.self.inside.known in
    reported_begins first known c.again.result c.args.self.now (known_after first c.again.result) c.self.view_is refl (subst (λ (l : List Change). IsPrefix known l) (sym c.again.ensures) c.if-begins.ensures)

pub returns-then-begins-clause-reported : goal.returns-then-begins-clause-reported
returns-then-begins-clause-reported g c =
    let first = g.N.Naming-1.fields in
    let front = c.receipt.inside.front in
    reported_begins first front c.again.result c.args.receipt.now (known_after first c.again.result) c.receipt.view_is refl (subst (λ (l : List Change). IsPrefix front l) (sym c.again.ensures) (prefix_self front))

pub returns-else-begins-clause-old : goal.returns-else-begins-clause-old
returns-else-begins-clause-old g c =
    let known = c.self.inside.known in
    reported_begins g.N.Naming-1.fields known known c.args.self.now c.args.self.now c.self.view_is c.self.view_is (prefix_self known)

pub returns-else-begins-clause-reported : goal.returns-else-begins-clause-reported
returns-else-begins-clause-reported g c =
    reported_begins g.N.Naming-1.fields c.receipt.inside.front c.self.inside.known c.args.receipt.now c.args.self.now c.receipt.view_is c.self.view_is
    (true_of c.begins-begins.result (λ longer. omega (arith, longer, c.if-begins.ensures)) c.begins-begins.ensures)
