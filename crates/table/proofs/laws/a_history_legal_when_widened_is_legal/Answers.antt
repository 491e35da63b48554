use Rattle.table.proofs.WidenedLemmas.{legal-narrow}
use Rattle.table.proofs.laws.a_history_legal_when_widened_is_legal.Goals as goal

pub returns : goal.returns
returns c = legal-narrow
