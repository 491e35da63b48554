use Rattle.test_loads.proofs.played.play.Given as goal

abbrev pub ghosts-play_under-N-Naming-1 : goal.ghosts-play_under-N-Naming-1
ghosts-play_under-N-Naming-1 _ a = record {
  fields = a.opening.fields;
  calls = a.opening.calls;
  rows = a.opening.rows;
  columns = a.opening.columns;
  workers = a.opening.workers;
}

abbrev pub ghosts-play_under-N-Naming-2 : goal.ghosts-play_under-N-Naming-2
ghosts-play_under-N-Naming-2 _ a = record { book = a.opening.book }
