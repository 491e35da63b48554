-- What is parsed may go to another thread: a file, or its fault. Lowest first, since the search doesn't find it of the whole.
use denote.Param.Send.{IsSend, sendable}
use Rattle.std.proofs.Crossing.{crosses}
use Rattle.std.specs.contracts.result.Result as result
use Rattle.arrays.proofs.SendingLemmas.{schema-send, schema-sync, batch-send, batch-sync}
use Rattle.arrays.specs.contracts.file.File as file
use Rattle.arrow_json.specs.JsonFaultContract as fault
use Rattle.arrow_json.proofs.FaultSending.{fault-send}

file-send : IsSend file.the_row
file-send = search (schema-send, schema-sync, batch-send, batch-sync, crosses, sendable) depth 20

pub parsed-send : IsSend (result.the_row file.the_row fault.the_row)
parsed-send = search (file-send, fault-send, crosses, sendable) depth 20
