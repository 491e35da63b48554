-- What the threads of workers and readers see of their table, field by field, since the search doesn't find it whole.
use denote.Enum.Declared.{shape as variants}
use denote.Enum.Enum.{Enum}
use denote.Param.Send.{IsSend, IsSync, enum_send, param_send, recorded_send, recorded_sync, sendable, shr_sync, struct_sync}
use denote.Struct.Declared.{shape}
use denote.Struct.Struct.{Struct}
use denote.Ref.{NamedLft}
use denote.RattleType.{RattleType}
use Rattle.std.proofs.Crossing.{crosses}
use Rattle.std.proofs.sync.Mutex.TheSendSync as mutex
use Rattle.std.proofs.sync.atomic.AtomicU64.TheSendSync as word
use Rattle.test_loads.specs.contracts.hands.Hand as hand
use Rattle.test_loads.specs.contracts.soaking.Soaking as soaking
use Rattle.histories.proofs.front.Front.TheSendSync as front
use Rattle.histories.specs.declared.naming.Naming as names
use Rattle.shared.proofs.PublisherLemmas.{reader-send}
use Rattle.shared.proofs.SendingLemmas.{table-sync}
use Rattle.shared.proofs.worker.Worker.TheSendSync as worker
use Rattle.shared.specs.contracts.outcome.Receipt as receipt
use Rattle.shared.specs.contracts.shared_table.SharedTable as table
use Rattle.shared.specs.declared.naming.Naming as naming
use Rattle.shared.specs.declared.shown.Publish as publish
use Rattle.shared.specs.Showing.{Showing}
use mir.Syntax.{erased}
use Rattle.test_loads.specs.contracts.soaking.work_together.{P-row}
use Rattle.test_loads.proofs.soaking.work_together.Goals as goal

module _ (N P : RattleType) (n : naming.Ghosts N.Denot) (m : names.Ghosts N.Denot) (p : publish.Ghosts P.Denot Showing) (send-P : IsSend P) where
  receipt-send : IsSend (receipt.the_row N n m)
  receipt-send = search (front.the_send, crosses, sendable) depth 20

  soaking-sync : (ℓ : NamedLft) (W : RattleType) → IsSync W → IsSync (soaking.the_row ℓ N P W n m p)
  soaking-sync ℓ W w =
      let T = soaking.the_type ℓ N P W n m p in
      recorded_sync (Struct (shape T)) T.D T.to T.to_one
      (struct_sync (shape T) (
        search (w, sendable) depth 20,
        (
          search (crosses, sendable) depth 20,
          (
            shr_sync ℓ.mir ℓ.lft (table.the_row N P n m p) (table-sync N P n m p send-P),
            (search sendable depth 20, (search sendable depth 20, (search sendable depth 20, (search (receipt-send, mutex.the_sync, crosses, sendable) depth 20, (search (word.the_sync, crosses, sendable) depth 20, tt))))),
          ),
        ),
      ))

pub work_at_once-requires-sync-J : goal.work_at_once-requires-sync-J
work_at_once-requires-sync-J g c κs within =
    let P = P-row g.row.N g.row.P g.row.W g.row.T in
    record {
      shared = (soaking-sync g.row.N P g.N.Naming-1 g.N.Naming-2 g.P.Publish c.type_bounds.send-P
          (record { mir = erased; lft = _ }) g.row.W (record { shared = c.type_bounds.sync-W.shared })).shared;
    }
