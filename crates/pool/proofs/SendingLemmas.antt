-- What may go to other threads, and be seen by several.
use denote.Param.Send.{IsSend, sendable}
use Rattle.std.proofs.Crossing.{crosses}
use Rattle.pool.specs.contracts.text_pool.TextPool as pool

pub pool-send : IsSend (pool.the_field).row
pool-send = search (crosses, sendable) depth 40
