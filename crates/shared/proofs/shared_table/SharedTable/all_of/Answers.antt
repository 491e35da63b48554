use Rattle.std.proofs.Common.{◌∙◌, ap, length, subst, sym}
use Rattle.std.specs.Prelude.{All}
use Rattle.shared.specs.Prelude.{HasAllItsPairs, IsLegalKnown, known_of}
use Rattle.shared.proofs.SeenLemmas.{ok_each}
use Rattle.table.specs.Contents.{Contents}
use Rattle.shared.proofs.shared_table.SharedTable.all_of.Goals as goal

pub returns-clause-whole : goal.returns-clause-whole
returns-clause-whole g c =
    ok_each c.gather.result (λ v is. subst (λ (s : Contents). All (HasAllItsPairs (known_of s)) c.args.workers.now) (sym is) c.gather.ensures.whole) c.gather.ensures.version

pub returns-clause-legal : goal.returns-clause-legal
returns-clause-legal g c = ok_each c.gather.result (λ v is. subst (λ (s : Contents). IsLegalKnown (known_of s)) (sym is) c.gather.ensures.legal) c.gather.ensures.version

pub returns-clause-calls : goal.returns-clause-calls
returns-clause-calls g c = ok_each c.gather.result (λ v is. ap (λ (s : Contents). length s.history) is ∙ c.gather.ensures.calls) c.gather.ensures.version
