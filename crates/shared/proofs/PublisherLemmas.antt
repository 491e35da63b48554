-- Who shows versions to readers may go to another thread, and so may a reader: lowest first, since the search doesn't find it whole.
use denote.Param.Send.{IsSend, IsSync, recorded_send, recorded_sync, sendable, struct_send, struct_sync}
use denote.Struct.Declared.{shape}
use denote.Struct.Struct.{Struct}
use denote.Builtin.{unit}
use denote.RattleType.{RattleType}
use Rattle.std.proofs.Crossing.{crosses, frees, send as heap-send}
use Rattle.std.specs.contracts.option.Option as option
use Rattle.std_heap.specs.contracts.Global as heap
use Rattle.std_heap.specs.contracts.GlobalAllocator.TheImpl.{ghosts}
use Rattle.atomic_table.proofs.send_lease.SendLease.TheSendSync as lease
use Rattle.atomic_table.proofs.shared.Seat.TheSendSync as seat
use Rattle.atomic_table.proofs.shared.Shared.TheSendSync as shared
use Rattle.left_right.proofs.part.Deed.TheSendSync as deed
use Rattle.left_right.proofs.part.Part.TheSendSync as part
use Rattle.left_right.specs.contracts.desk.Desk as desk
use Rattle.left_right.specs.contracts.handles.ReadHandle as reads
use Rattle.left_right.specs.contracts.handles.ReadHandleFactory as maker
use Rattle.left_right.specs.contracts.handles.WriteHandle as handle
use Rattle.left_right.specs.contracts.reader.Factory as factory
use Rattle.left_right.specs.contracts.reader.Reader as place
use Rattle.left_right.specs.contracts.part.Deed as deed_type
use Rattle.left_right.specs.contracts.part.Part as part_type
use Rattle.left_right.specs.contracts.writer.Writer as writer
use Rattle.left_right.specs.declared.Absorb as absorb
use Rattle.histories.proofs.front.Front.TheSendSync as front
use Rattle.histories.specs.declared.naming.Naming as names
use Rattle.shared.specs.contracts.reader.Reader as reader
use Rattle.shared.specs.contracts.reader.Reader.TheInside as known
use Rattle.shared.specs.contracts.shown.Shown as shown
use Rattle.shared.specs.contracts.shown.Shown.TheInside as inside
use Rattle.shared.specs.declared.naming.Naming as naming
use Rattle.table.proofs.SendingLemmas.{version-send, version-sync}
use Rattle.left_right.below.crossbeam_utils.specs.contracts.rule.Unruled as unruled
use Rattle.left_right.below.crossbeam_utils.specs.declared.rule.Protocol as protocol

module _ (T V P : RattleType) (p : protocol.Ghosts P.Denot T.Denot V.Denot) (send-T : IsSend T) (sync-T : IsSync T) where
  part-send : IsSend (part_type.the_row T)
  part-send = part.the_send T sync-T

  deed-send : IsSend (deed_type.the_row T heap.the_row ghosts)
  deed-send = deed.the_send T heap.the_row ghosts send-T heap-send frees

  factory-send : IsSend (factory.the_field T V P heap.the_row p ghosts).row
  factory-send = search (part-send, shared.the_send, shared.the_sync, lease.the_send, lease.the_sync, crosses, sendable) depth 40

  place-send : IsSend (place.the_row T V P heap.the_row p ghosts)
  place-send =
      let D = place.the_type T V P heap.the_row p ghosts in
      recorded_send (Struct (shape D)) D.D D.to D.to_one
      (struct_send (shape D) (factory-send, (search (seat.the_send, part-send, crosses, sendable) depth 20, (search sendable depth 20, tt))))

  seated-send : IsSend (option.the_field (place.the_row T V P heap.the_row p ghosts)).row
  seated-send = search (place-send, crosses, sendable) depth 20

  desk-send : IsSend (desk.the_field T V P heap.the_row p ghosts).row
  desk-send =
      let D = desk.the_type T V P heap.the_row p ghosts in
      struct_send (shape D) (
        factory-send,
        (search (seat.the_send, part-send, crosses, sendable) depth 20, (search sendable depth 20, (search sendable depth 20, (search (crosses, sendable) depth 20, (deed-send, (part-send, (deed-send, (part-send, tt)))))))),
      )

  module _ (O S : RattleType) (a : absorb.Ghosts T.Denot O.Denot S.Denot) (send-O : IsSend O) where
    writer-send : IsSend (writer.the_field T O V P heap.the_row S a p ghosts).row
    writer-send =
        let D = writer.the_type T O V P heap.the_row S a p ghosts in
        struct_send (shape D) (desk-send, (search (send-O, crosses, sendable) depth 20, (search sendable depth 20, (search sendable depth 20, tt))))

maker-send : (T : RattleType) → IsSend T → IsSync T → IsSend (maker.the_field T heap.the_row ghosts).row
maker-send T send-T sync-T =
    let D = maker.the_type T heap.the_row ghosts in
    struct_send (shape D) (factory-send T unit unruled.the_row _ send-T sync-T, tt)

reads-send : (T : RattleType) → IsSend T → IsSync T → IsSend (reads.the_field T heap.the_row ghosts).row
reads-send T send-T sync-T =
    let D = reads.the_type T heap.the_row ghosts in
    struct_send (shape D) (maker-send T send-T sync-T, (seated-send T unit unruled.the_row _ send-T sync-T, tt))

handle-send : (T O R S : RattleType) (a : absorb.Ghosts T.Denot O.Denot S.Denot) → IsSend T → IsSync T → IsSend O → IsSend R → IsSend (handle.the_row T O R heap.the_row S a ghosts)
handle-send T O R S a send-T sync-T send-O send-R =
    let D = handle.the_type T O R heap.the_row S a ghosts in
    recorded_send (Struct (shape D)) D.D D.to D.to_one (struct_send (shape D) (writer-send T unit unruled.the_row _ send-T sync-T O S a send-O, (search (send-R, sendable) depth 20, tt)))

module _ (N : RattleType) (n : naming.Ghosts N.Denot) (m : names.Ghosts N.Denot) where
  inside-send : IsSend (inside.the_row N n m)
  inside-send =
      let D = inside.the_type N n m in
      recorded_send (Struct (shape D)) D.D D.to D.to_one (struct_send (shape D) (search (version-send, version-sync, crosses, sendable) depth 20, (search (front.the_send, crosses, sendable) depth 20, (search sendable depth 20, tt))))

  inside-sync : IsSync (inside.the_row N n m)
  inside-sync =
      let D = inside.the_type N n m in
      recorded_sync (Struct (shape D)) D.D D.to D.to_one (struct_sync (shape D) (search (version-send, version-sync, crosses, sendable) depth 20, (search (front.the_sync, crosses, sendable) depth 20, (search sendable depth 20, tt))))

  shown-send : IsSend (shown.the_row N n m)
  shown-send = search (inside-send, crosses, sendable) depth 20

  shown-sync : IsSync (shown.the_row N n m)
  shown-sync = search (inside-sync, crosses, sendable) depth 20

  known-send : IsSend (known.the_row N n m)
  known-send =
      let D = known.the_type N n m in
      recorded_send (Struct (shape D)) D.D D.to D.to_one (struct_send (shape D) (
        search (crosses, sendable) depth 20,
        (search (reads-send (shown.the_row N n m) shown-send shown-sync, crosses, sendable) depth 20, (search (front.the_send, crosses, sendable) depth 20, (search (shown-send, crosses, sendable) depth 20, tt))),
      ))

  pub reader-send : IsSend (reader.the_row N n m)
  reader-send = search (known-send, crosses, sendable) depth 20

-- Who shows to the readers of a table, where it waits by a value that may go.
pub publisher-send : (N : RattleType) (n : naming.Ghosts N.Denot) (m : names.Ghosts N.Denot) (R S : RattleType) (a : absorb.Ghosts (shown.the_row N n m).Denot (shown.the_row N n m).Denot S.Denot)
    → IsSend R → IsSend (handle.the_row (shown.the_row N n m) (shown.the_row N n m) R heap.the_row S a ghosts)
publisher-send N n m R S a send-R =
    let item = shown.the_row N n m in
    let send = shown-send N n m in
    handle-send item item R S a send (shown-sync N n m) send send-R
