-- A table all of whose parts agree.
use Rattle.std.specs.Prelude.{◌≡◌, ℕ, ◌≤◌, ◌<◌, ◌^◌, List, [], map, flat_map, length, sum_by, take, All, Option, Some, None, if◌then◌else◌}
use Rattle.std.specs.List.{AllZip, enumerate_from}
use Rattle.arrays.specs.Prelude.{Batch, FieldShape, Seen, Table, batch_fault, column, rows_of, shown, text}
use Rattle.arrays.specs.Kind as kind
use Rattle.compaction.specs.Prelude.{AreStatsOf, NamesFront}
use Rattle.answers.specs.Prelude.{ColumnStats}
use Rattle.pool.specs.Texts.{firsts, texts_of}
use Rattle.table.specs.Cause.{null_cause}
use Rattle.table.specs.Stored.{is_text_field}

-- The rows of all batches.
abbrev pub rows_of_batches : List Batch → Table
rows_of_batches batches = flat_map rows_of batches

-- How many rows a book counts.
abbrev pub book_rows : List (ℕ × ℕ) → ℕ
book_rows book = sum_by (λ e. e.1) book

-- A batch of the fields: each column is of its field's kind and as long as the batch, and has no null where the field
-- isn't nullable. ("RecordBatch"; "Schema message", nullable)
pub record IsStored (fields : List FieldShape) (b : Batch) : Type 0 where
  pub same : b.fields ≡ fields
  pub lawful : batch_fault b.fields b.rows b.columns ≡ None
  pub nulls : null_cause fields (rows_of b) ≡ None

-- The distinct texts of a column, in order of first appearance; of a column that isn't one of texts none.
abbrev pub texts_in : Table → ℕ × FieldShape → List (List ℕ)
texts_in t field = if is_text_field field.1 then firsts (texts_of (column t field.0)) else []

abbrev pub dictionary_in : Table → ℕ × FieldShape → Option Seen
dictionary_in t field = if is_text_field field.1 then Some (shown kind.utf8 (map text (texts_in t field))) else None

-- The dictionary of each column of texts.
unfoldable pub dictionaries_of : List FieldShape → Table → List (Option Seen)
dictionaries_of fields t = map (dictionary_in t) (enumerate_from 0 fields)

-- Each dictionary that a column of the batch names begins that of the table.
abbrev pub NamesFronts : List FieldShape → Table → Batch → Type 0
NamesFronts fields t b = AllZip NamesFront b.columns (dictionaries_of fields t)

-- The first i batches end where a number of book entries end, at least one for each.
pub record EndsWithEntry (batches : List Batch) (book : List (ℕ × ℕ)) (i : ℕ) : Type 0 where
  pub entries : ℕ
  pub each : i ≤ entries
  pub within : entries ≤ length book
  pub same : length (rows_of_batches (take i batches)) ≡ book_rows (take entries book)

-- The batches, their statistics, the columns' statistics and dictionaries, and the book.
pub record LawfulTable (fields : List FieldShape) (batches : List Batch) (pieces : List (List ColumnStats)) (stats : List ColumnStats) (dictionaries : List (Option Seen)) (book : List (ℕ × ℕ)) : Type 0 where
  pub stored : All (IsStored fields) batches
  pub ends : (i : ℕ) → i ≤ length batches → EndsWithEntry batches book i
  pub some : 1 ≤ length book → 1 ≤ length batches
  pub counts : book_rows book ≡ length (rows_of_batches batches)
  pub few : book_rows book ≤ 2 ^ 40
  pub short : length book < 2 ^ 32
  pub texts : dictionaries ≡ dictionaries_of fields (rows_of_batches batches)
  pub fronts : All (λ b. AllZip NamesFront b.columns dictionaries) batches
  pub statistics : AreStatsOf fields (rows_of_batches batches) stats
  pub parts : AllZip (λ b s. AreStatsOf fields (rows_of b) s) batches pieces
