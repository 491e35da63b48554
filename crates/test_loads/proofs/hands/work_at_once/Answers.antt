-- What the threads of workers and readers are handed: a hand, shown variant by variant, since the search doesn't find it whole.
use denote.Enum.Declared.{shape as variants}
use denote.Enum.Enum.{Enum}
use denote.Param.Send.{IsSend, enum_send, param_send, recorded_send, sendable}
use denote.RattleType.{RattleType}
use Rattle.std.proofs.Crossing.{crosses}
use Rattle.test_loads.specs.contracts.hands.Hand as hand
use Rattle.histories.specs.declared.naming.Naming as names
use Rattle.shared.proofs.PublisherLemmas.{reader-send}
use Rattle.shared.proofs.worker.Worker.TheSendSync as worker
use Rattle.shared.specs.declared.naming.Naming as naming
use Rattle.test_loads.proofs.hands.work_at_once.Goals as goal

module _ (N : RattleType) (n : naming.Ghosts N.Denot) (m : names.Ghosts N.Denot) where
  hand-send : IsSend (hand.the_row N n m)
  hand-send =
      let T = hand.the_type N n m in
      recorded_send (Enum (variants T)) T.D T.to T.to_one
      (enum_send (variants T) (
        (search (worker.the_send, crosses, sendable) depth 20, tt),
        ((search (worker.the_send, crosses, sendable) depth 20, tt), ((search (reader-send N n m, crosses, sendable) depth 20, tt), tt)),
      ))

pub run_all-requires-send-H : goal.run_all-requires-send-H
run_all-requires-send-H g c κs within =
    let all = hand-send g.row.N g.N.Naming-1 g.N.Naming-2 in
    record { owned = all.owned; leaving = (param_send 0 _ all).leaving }
