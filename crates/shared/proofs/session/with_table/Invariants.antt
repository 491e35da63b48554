use Rattle.shared.proofs.session.with_table.Given as goal

abbrev pub ghosts-begin-N-Naming-1 : goal.ghosts-begin-N-Naming-1
ghosts-begin-N-Naming-1 _ a = record {
  fields = a.opening.fields;
  calls = a.opening.calls;
  rows = a.opening.rows;
  columns = a.opening.columns;
  workers = a.opening.workers;
}

abbrev pub ghosts-begin-N-Naming-2 : goal.ghosts-begin-N-Naming-2
ghosts-begin-N-Naming-2 _ a = record { book = a.opening.book }
