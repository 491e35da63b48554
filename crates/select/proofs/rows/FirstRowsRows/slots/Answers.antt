use Rattle.std.proofs.Common.{sym}
use Rattle.select.proofs.RestLemmas.{length-first_rows}
use Rattle.select.proofs.rows.FirstRowsRows.slots.Goals as goal

pub returns-clause-count : goal.returns-clause-count
returns-clause-count c = sym (length-first_rows c.args.self.now.count)
