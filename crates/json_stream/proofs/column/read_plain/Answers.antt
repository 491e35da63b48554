use Rattle.json_scan.proofs.Values.{if_ok_then}
use Rattle.json_stream.proofs.ColumnLemmas.{top_plain}
use Rattle.json_stream.proofs.column.read_plain.Goals as goal

pub returns-clause-ok : goal.returns-clause-ok
returns-clause-ok c = if_ok_then c.read_slotted.result c.read_slotted.ensures.ok (λ r read. (read.0, read.1, top_plain _ _ _ _ read.2))
