use Rattle.json_scan.proofs.Values.{same_value}
use Rattle.json_scan.proofs.laws.same_value.Goals as goal

pub returns : goal.returns
returns c = same_value
