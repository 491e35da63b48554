-- What may go to other threads, and be seen by several.
use denote.Param.Send.{IsSend, IsSync, sendable}
use Rattle.std.proofs.Crossing.{crosses}
use Rattle.colbits.specs.contracts.buffer.Buffer as buffer

pub buffer-send : IsSend (buffer.the_field).row
buffer-send = search (crosses, sendable) depth 20

pub buffer-sync : IsSync (buffer.the_field).row
buffer-sync = search (crosses, sendable) depth 20
