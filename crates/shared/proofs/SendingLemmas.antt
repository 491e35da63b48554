-- A table may be seen by several threads: what lies under its lock may go to each of them, shown field by field, since the search doesn't find it whole.
use denote.Param.Send.{IsSend, IsSync, recorded_send, sendable, struct_send}
use denote.Struct.Declared.{shape}
use denote.Struct.Struct.{Struct}
use denote.RattleType.{RattleType}
use Rattle.std.proofs.Crossing.{crosses}
use Rattle.std.proofs.sync.Mutex.TheSendSync as mutex
use Rattle.shared.proofs.ledgers.Books.TheSendSync as books
use Rattle.shared.proofs.ledgers.Shares.TheSendSync as shares
use Rattle.histories.proofs.front.Front.TheSendSync as front
use Rattle.histories.proofs.head.Head.TheSendSync as head
use Rattle.histories.specs.declared.naming.Naming as names
use Rattle.shared.specs.contracts.locked.Locked as locked
use Rattle.shared.specs.contracts.locked.Locked.TheInside as inside
use Rattle.shared.specs.contracts.shared_table.SharedTable as table
use Rattle.shared.specs.declared.naming.Naming as naming
use Rattle.shared.specs.declared.shown.Publish as publish
use Rattle.shared.specs.Showing.{Showing}
use Rattle.table.proofs.SendingLemmas.{state-send, version-send, version-sync}

module _ (N P : RattleType) (n : naming.Ghosts N.Denot) (m : names.Ghosts N.Denot) (p : publish.Ghosts P.Denot Showing) (send-P : IsSend P) where
  inside-send : IsSend (inside.the_row N P m n p)
  inside-send =
      let T = inside.the_type N P m n p in
      recorded_send (Struct (shape T)) T.D T.to T.to_one
      (struct_send (shape T) (
        search (state-send, crosses, sendable) depth 20,
        (
          search (version-send, version-sync, crosses, sendable) depth 20,
          (
            search (head.the_field_send, crosses, sendable) depth 20,
            (
              search (front.the_send, crosses, sendable) depth 20,
              (
                search (send-P, crosses, sendable) depth 20,
                (
                  search sendable depth 20,
                  (
                    search (books.the_field_send, crosses, sendable) depth 20,
                    (
                      search (shares.the_field_send, crosses, sendable) depth 20,
                      tt,
                    ),
                  ),
                ),
              ),
            ),
          ),
        ),
      ))

  pub locked-send : IsSend (locked.the_field N P m n p).row
  locked-send = search (inside-send, crosses, sendable) depth 20

  pub table-sync : IsSync (table.the_row N P n m p)
  table-sync = search (locked-send, mutex.the_sync, crosses, sendable) depth 40
