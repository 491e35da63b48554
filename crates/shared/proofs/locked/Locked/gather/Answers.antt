use Rattle.std.proofs.Common.{arith, subst}
use mathlib.Core.List.{IsPrefix}
use Rattle.std.specs.Prelude.{All}
use Rattle.shared.specs.Prelude.{HasAllItsPairs, IsWorkerOf, Known, known_of}
use Rattle.shared.proofs.KnownLemmas.{opened_first}
use Rattle.shared.proofs.PartLemmas.{all_whole}
use Rattle.table.specs.Contents.{Contents}
use Rattle.shared.proofs.locked.Locked.gather.Goals as goal

pub returns-clause-whole : goal.returns-clause-whole
returns-clause-whole g c =
    let is = c.self.invariant in
    let known : Known = known_of c.self.inside.state in
    let count = g.N.Naming-1.workers in
    let totals = c.tell_totals.ensures in
    let workers = c.args.workers.now in
    let parts : All (IsWorkerOf count known) workers =
    subst (λ ws. All (IsWorkerOf count known) ws) totals.workers (subst (λ (k : Known). All (IsWorkerOf count k) c.tell_totals.new.workers) is.counted.shown.known c.begin_all.ensures) in
    let whole = all_whole count known workers is.counted.shown.workers c.requires.all (omega (arith, totals.few, is.no_call_part)) parts (omega (arith, totals.call_total, is.no_calls, is.counted.balanced.pairs)) in
    subst (λ (s : Contents). All (HasAllItsPairs (known_of s)) workers) c.self.view_is whole

pub returns-clause-opened : goal.returns-clause-opened
returns-clause-opened g c =
    let first = g.N.Naming-1.fields in
    subst (λ (s : Contents). IsPrefix first s.fields) c.self.view_is (subst (λ (k : Known). IsPrefix first k.fields) c.self.invariant.counted.shown.known (opened_first first c.self.inside.front))
