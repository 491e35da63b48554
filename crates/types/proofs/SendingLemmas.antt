-- What may go to other threads, and be seen by several.
use denote.Param.Send.{IsSend, IsSync, sendable}
use Rattle.std.proofs.Crossing.{crosses}
use Rattle.types.proofs.data_type.DataType.TheLaws.TheKnot as fields
use Rattle.types.specs.contracts.schema.Schema as schema

pub schema-send : IsSend (schema.the_field).row
schema-send = search (fields.crosses, crosses, sendable) depth 20

pub schema-sync : IsSync (schema.the_field).row
schema-sync = search (fields.crosses, crosses, sendable) depth 20
