-- What a table holds, as it lies in memory.
use Rattle.std.specs.Prelude.{◌≡◌, ◌∷◌, ◌++◌, ◌+◌, ◌<◌, [], ℕ, List, map, Option, option_map, vec_capacity, vec_len}
use Rattle.std.specs.Arc.{arc_value}
use Rattle.std.specs.declared.alloc.Global.{Global}
use Rattle.std.specs.declared.sync.Arc.{Arc}
use Rattle.std.specs.declared.vec.Vec.{Vec}
use Rattle.arrays.specs.Prelude.{Batch, Seen, rows_of}
use Rattle.compaction.specs.Under.{pieces_of}
use Rattle.answers.specs.Prelude.{ColumnStats}
use Rattle.table.specs.Cause.{IsLegal}
use Rattle.table.specs.Contents.{Contents}
use Rattle.table.specs.History.{history_from}
use Rattle.table.specs.Lawful.{LawfulTable, book_rows, rows_of_batches}
use Rattle.table.specs.Moved.{with_last}
use Rattle.table.specs.declared.change.Addition.{Addition}
use Rattle.table.specs.declared.storage.Storage.{Storage}

abbrev pub book_of : Storage → List (ℕ × ℕ)
book_of h = h.book

abbrev pub batches_of : Storage → List Batch
batches_of h = map arc_value h.batches.items

abbrev pub dictionaries_in : Storage → List (Option Seen)
dictionaries_in h = map (option_map arc_value) h.dictionaries.items

abbrev pub pieces_in : Storage → List (List ColumnStats)
pieces_in h = pieces_of h.batch_stats

-- What it shows: the history is the one with its book and its rows.
abbrev pub show : Storage → Contents
show h = record {
  fields = arc_value h.schema;
  history = history_from (book_of h) (rows_of_batches (batches_of h));
  batches = map rows_of (batches_of h);
}

-- All parts agree, and nothing stood against what was added.
pub record IsConsistent (h : Storage) : Type 0 where
  pub lawful : LawfulTable (arc_value h.schema) (batches_of h) (pieces_in h) (arc_value h.stats).items (dictionaries_in h) (book_of h)
  pub rows : h.rows ≡ book_rows (book_of h)
  pub legal : IsLegal (arc_value h.schema) (show h).history

-- There is room for one batch more.
abbrev pub HasRoom : Storage → Type 0
HasRoom h = vec_len h.batches < vec_capacity h.batches

-- Both have the same parts.
pub record IsSame (h other : Storage) : Type 0 where
  pub schema : arc_value other.schema ≡ arc_value h.schema
  pub rows : other.rows ≡ h.rows
  pub batches : batches_of other ≡ batches_of h
  pub pieces : pieces_in other ≡ pieces_in h
  pub stats : (arc_value other.stats).items ≡ (arc_value h.stats).items
  pub dictionaries : dictionaries_in other ≡ dictionaries_in h
  pub book : book_of other ≡ book_of h

-- The second has what is new beside what the first has.
pub record IsPut (new : Addition) (h other : Storage) : Type 0 where
  pub schema : arc_value other.schema ≡ arc_value h.schema
  pub rows : other.rows ≡ h.rows + (arc_value new.batch).rows
  pub batches : batches_of other ≡ with_last (batches_of h) (map arc_value new.moved.items) ++ arc_value new.batch ∷ []
  pub pieces : pieces_in other ≡ pieces_of new.batch_stats
  pub stats : arc_value other.stats ≡ arc_value new.stats
  pub dictionaries : dictionaries_in other ≡ map (option_map arc_value) new.dictionaries.items
  pub book : book_of other ≡ new.book

-- The second has these batches, with these statistics, and all else of the first.
pub record IsWith (others : List (Arc Batch Global)) (theirs : List (Arc (Vec ColumnStats Global) Global)) (h other : Storage) : Type 0 where
  pub schema : arc_value other.schema ≡ arc_value h.schema
  pub rows : other.rows ≡ h.rows
  pub batches : other.batches.items ≡ others
  pub pieces : other.batch_stats ≡ theirs
  pub stats : (arc_value other.stats).items ≡ (arc_value h.stats).items
  pub dictionaries : dictionaries_in other ≡ dictionaries_in h
  pub book : book_of other ≡ book_of h
