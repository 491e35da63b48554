use Rattle.json_read.proofs.JsonLaws.{bytes_same}
use Rattle.json_read.proofs.laws.bytes_decide_the_file.Goals as goal

pub returns : goal.returns
returns c = bytes_same
