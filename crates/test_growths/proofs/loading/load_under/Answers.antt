use mir.Syntax.{named}
use denote.Param.Send.{IsSync, param_send, shr_send}
use denote.Ref.{ShrRef}
use Rattle.shared.specs.contracts.shown.ShownAbsorb.TheImpl as absorbs
use Rattle.shared.specs.contracts.shown.Shown as shown
use Rattle.shared.proofs.PublisherLemmas.{publisher-send}
use Rattle.test_growths.proofs.loading.load_under.Goals as goal

pub load_by-requires-send-P : goal.load_by-requires-send-P
load_by-requires-send-P g c κs within =
    let wait : IsSync g.row.R = record { shared = c.type_bounds.sync-R.shared } in
    let reference = shr_send (named 4) κs.1.1.1.1.0 g.row.R wait in
    let all =
    publisher-send g.row.N g.N.Naming-1 g.N.Naming-2 (ShrRef (named 4) κs.1.1.1.1.0 g.row.R) (shown.the_row g.row.N g.N.Naming-1 g.N.Naming-2) (absorbs.ghosts g.row.N g.N.Naming-1 g.N.Naming-1-dict g.N.Naming-2 g.N.Naming-2-dict) reference in
    record { owned = all.owned; leaving = (param_send 1 _ all).leaving }
