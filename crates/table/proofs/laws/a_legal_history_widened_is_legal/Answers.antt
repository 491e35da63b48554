use Rattle.table.proofs.WidenedLemmas.{legal-wider}
use Rattle.table.proofs.laws.a_legal_history_widened_is_legal.Goals as goal

pub returns : goal.returns
returns c = legal-wider
