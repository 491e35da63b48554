use Rattle.json_read.proofs.JsonLaws.{bytes_law}
use Rattle.json_read.proofs.laws.read_has_no_fault.Goals as goal

pub returns : goal.returns
returns c = bytes_law
