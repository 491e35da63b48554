use Rattle.json_scan.proofs.Values.{whole_document}
use Rattle.json_scan.proofs.laws.whole_document.Goals as goal

pub returns : goal.returns
returns c = whole_document
