use Rattle.select.proofs.OnesLemmas.{one-row}
use Rattle.select.proofs.trues.TruesRows.are_rows.Goals as goal

pub returns : goal.returns
returns c = λ _ j below. one-row c.args.self.now.bits j below
