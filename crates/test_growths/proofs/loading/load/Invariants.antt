use Rattle.test_growths.proofs.loading.load.Given as goal

abbrev pub ghosts-load_under-N-Naming-1 : goal.ghosts-load_under-N-Naming-1
ghosts-load_under-N-Naming-1 _ a = record {
  fields = a.opening.fields;
  calls = a.opening.calls;
  rows = a.opening.rows;
  columns = a.opening.columns;
  workers = a.opening.workers;
}

abbrev pub ghosts-load_under-N-Naming-2 : goal.ghosts-load_under-N-Naming-2
ghosts-load_under-N-Naming-2 _ a = record { book = a.opening.book }
