use Rattle.table.proofs.HistoryLemmas.{book-cut, rows-cut}
use Rattle.table.proofs.laws.a_cut_has_its_book_and_rows.Goals as goal

pub returns-clause-book : goal.returns-clause-book
returns-clause-book c = book-cut

pub returns-clause-rows : goal.returns-clause-rows
returns-clause-rows c = rows-cut
