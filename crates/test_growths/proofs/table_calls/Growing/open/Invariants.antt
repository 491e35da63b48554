use Rattle.test_growths.proofs.table_calls.Growing.open.Given as goal

abbrev pub ghosts-opened-N-Naming-1 : goal.ghosts-opened-N-Naming-1
ghosts-opened-N-Naming-1 _ a = record {
  fields = a.opening.fields;
  calls = a.opening.calls;
  rows = a.opening.rows;
  columns = a.opening.columns;
  workers = a.opening.workers;
}

abbrev pub ghosts-opened-N-Naming-2 : goal.ghosts-opened-N-Naming-2
ghosts-opened-N-Naming-2 _ a = record { book = a.opening.book }
