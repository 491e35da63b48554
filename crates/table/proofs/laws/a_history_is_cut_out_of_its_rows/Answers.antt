use Rattle.table.proofs.HistoryLemmas.{cut-book}
use Rattle.table.proofs.laws.a_history_is_cut_out_of_its_rows.Goals as goal

pub returns : goal.returns
returns c = cut-book
