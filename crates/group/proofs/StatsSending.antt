-- What may go to other threads, and be seen by several.
use denote.Param.Send.{IsSend, IsSync, sendable}
use Rattle.std.proofs.Crossing.{crosses}
use Rattle.group.proofs.stats.Scalar.TheSendSync as scalar
use Rattle.group.specs.contracts.stats.ColumnStats as stats

pub stats-send : IsSend stats.the_row
stats-send = search (scalar.the_send, crosses, sendable) depth 20

pub stats-sync : IsSync stats.the_row
stats-sync = search (scalar.the_sync, crosses, sendable) depth 20
