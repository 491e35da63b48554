-- A batch that is ready to be put in.
use Rattle.std.specs.Prelude.{◌≡◌, ◌∷◌, ◌++◌, [], ℕ, List, map, None, option_map}
use Rattle.std.specs.Arc.{arc_value}
use Rattle.std.specs.List.{AllZip, enumerate_from}
use mathlib.Core.List.{IsPrefix}
use Rattle.arrays.specs.Batch.{Batch, rows_of, Table}
use Rattle.table.specs.Cause.{IsTableOf, batch_cause}
use Rattle.table.specs.Moved.{AreMoved}
use Rattle.table.specs.Storage.{batches_of, book_of, pieces_in, show}
use Rattle.compaction.specs.Prelude.{AreStatsOf, NamesFront, pieces_of}
use Rattle.answers.specs.Prelude.{ColumnStats}
use Rattle.table.specs.Lawful.{IsStored, dictionaries_of, rows_of_batches, texts_in}
use Rattle.table.specs.declared.change.Addition.{Addition}
use Rattle.table.specs.declared.storage.Storage.{Storage}

-- The texts of each of the table's columns.
abbrev pub column_texts : Storage → Table → List (List (List ℕ))
column_texts h t = map (texts_in t) (enumerate_from 0 (arc_value h.schema))

-- The pools have these, and no others.
abbrev pub ArePools : Storage → Table → List (List (List ℕ)) → Type 0
ArePools h t pools = pools ≡ column_texts h t

-- The pools have these first, and maybe others behind them.
abbrev pub BeginWithTexts : Storage → Table → List (List (List ℕ)) → Type 0
BeginWithTexts h t pools = AllZip IsPrefix (column_texts h t) pools

-- What is ready is the batch of a worker as it is stored after what the table holds.
pub record IsAdditionOf (h : Storage) (worker : ℕ) (b : Batch) (p : Addition) : Type 0 where
  pub allowed : batch_cause (arc_value h.schema) (show h).history b ≡ None
  pub stored : IsStored (arc_value h.schema) (arc_value p.batch)
  pub rows : rows_of (arc_value p.batch) ≡ rows_of b
  pub typed : IsTableOf (arc_value h.schema) (rows_of b)
  pub piece : List ColumnStats
  pub pieces : pieces_of p.batch_stats ≡ pieces_in h ++ piece ∷ []
  pub parts : AreStatsOf (arc_value h.schema) (rows_of b) piece
  pub statistics : AreStatsOf (arc_value h.schema) (rows_of_batches (batches_of h) ++ rows_of b) (arc_value p.stats).items
  pub texts : map (option_map arc_value) p.dictionaries.items ≡ dictionaries_of (arc_value h.schema) (rows_of_batches (batches_of h) ++ rows_of b)
  pub front : AllZip NamesFront (arc_value p.batch).columns (map (option_map arc_value) p.dictionaries.items)
  pub moved : AreMoved (arc_value h.schema) (map (option_map arc_value) p.dictionaries.items) (batches_of h) (map arc_value p.moved.items)
  pub book : p.book ≡ book_of h ++ (worker, (arc_value p.batch).rows) ∷ []
