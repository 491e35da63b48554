use Rattle.select.proofs.RestLemmas.{first_rows-row}
use Rattle.select.proofs.rows.FirstRowsRows.are_rows.Goals as goal

pub returns : goal.returns
returns c = λ _ j below. first_rows-row c.args.self.now.count j below
