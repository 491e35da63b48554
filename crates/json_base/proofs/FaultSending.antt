-- A fault may go to other threads: lowest first, since the search doesn't find it of the whole.
use denote.Param.Send.{IsSend, sendable}
use Rattle.std.proofs.Crossing.{crosses}
use Rattle.json_base.specs.contracts.fault.JsonFault as fault
use Rattle.json_base.specs.contracts.fault.JsonFaultKind as kind
use Rattle.json_base.specs.contracts.path.Path as path
use Rattle.json_base.specs.contracts.path.Step as step

kind-send : IsSend (kind.the_field).row
kind-send = search (crosses, sendable) depth 40 fits 20000

step-send : IsSend (step.the_field).row
step-send = search (crosses, sendable) depth 40 fits 20000

path-send : IsSend path.the_row
path-send = search (step-send, crosses, sendable) depth 20

pub fault-send : IsSend fault.the_row
fault-send = search (kind-send, path-send, crosses, sendable) depth 20
