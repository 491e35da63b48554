use Rattle.json_read.proofs.JsonFields.{within_read}
use Rattle.json_read.proofs.schema.read_top.Goals as goal

pub returns-in_ok-plain-in-None-clause-ok : goal.returns-in_ok-plain-in-None-clause-ok
returns-in_ok-plain-in-None-clause-ok c = within_read _ c.in_ok-plain-in-None.plain c.in_ok-plain-in-None.ensures.object c.in_ok-plain-in-None.ensures.shallow
