use Rattle.std.proofs.Common.{subst}
use Rattle.shared.specs.Prelude.{Hand, IsBeginning, known_after}
use Rattle.shared.proofs.KnownLemmas.{known_begins}
use Rattle.shared.proofs.PartLemmas.{part_more}
use Rattle.shared.proofs.locked.begin_worker.Goals as goal

pub returns : goal.returns
returns g c =
    let first = g.N.Naming-1.fields in
    let known = known_after first c.args.front.now in
    let begun : IsBeginning c.args.worker.now.seen known =
    subst (λ (h : Hand). IsBeginning h.seen known) c.worker.view_is (known_begins first c.worker.inside.seen c.args.front.now c.begin.ensures) in
    part_more g.N.Naming-1.workers c.args.worker.now.seen known c.args.worker.now c.tell.ensures.part begun
