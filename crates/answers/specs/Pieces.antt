-- Pieces of the rows of all batches.
use Rattle.std.specs.Prelude.{◌≡◌, ◌⊎◌, ◌≤◌, ◌^◌, ℕ, ◌+◌, ◌*◌, ◌/◌, false, true, List, Option, Some, Result, Ok, Err, All, length, map, position, take, drop}
use Rattle.std.specs.Arc.{arc_value}
use Rattle.arrays.specs.Prelude.{Batch, FieldShape, Row, Table, kind_of_field}
use Rattle.query.specs.Prelude.{Tree, fits, query_shape}
use Rattle.query.specs.declared.fault.QueryFault.{QueryFault}
use Rattle.query.specs.declared.fault.QueryFault.TheVariants.{Overflow, NoMemory}
use Rattle.query.specs.declared.queries.Query.{Query}
use Rattle.answers.specs.Answers.{all_rows, first_fields}
use Rattle.answers.specs.Groups.{is_bad}
use Rattle.tallies.specs.Kinds.{AreComparable}
use Rattle.evaluate.specs.Rows.{kind_at}
use Rattle.answers.specs.Runs.{HasKept}
use Rattle.answers.specs.declared.grouping.Grouping.{Grouping}
use Rattle.answers.specs.declared.neighbours.Neighbours.{Neighbours}
use Rattle.answers.specs.declared.scan.Scan.{Scan}

-- The rows from one place up to another.
abbrev pub between : ℕ → ℕ → Table → Table
between from to rows = drop from (take to rows)

abbrev pub IsGood : List FieldShape → Option (Tree ℕ) → Row → Type 0
IsGood fields f row = is_bad fields f row ≡ false

-- The groups of the rows that the filter keeps; it is bad at none of these rows.
pub record HasRun (fields : List FieldShape) (q : Query) (rows : Table) (g : Grouping) : Type 0 where
  pub good : All (IsGood fields (query_shape q).filter) rows
  pub kept : HasKept fields q rows g

-- The rows, of which the first is at this place, are refused at the least of them where the filter is bad, or a growth was refused.
abbrev pub IsPieceRefusal : List FieldShape → Option (Tree ℕ) → ℕ → Table → QueryFault → Type 0
IsPieceRefusal fields f from rows e = ((n : ℕ) × (position (is_bad fields f) rows ≡ Some n) × (e ≡ Overflow (from + n))) ⊎ (e ≡ NoMemory)

-- The first row of a piece: the pieces are neighbours, and as long as one another but for a row.
abbrev pub cut_at : ℕ → ℕ → ℕ → ℕ
cut_at rows pieces place = rows * place / pieces

-- The rows of neighbouring pieces, from one up to another.
abbrev pub rows_between : ℕ → ℕ → ℕ → Table → Table
rows_between pieces from to rows = between (cut_at (length rows) pieces from) (cut_at (length rows) pieces to) rows

-- What is known of them once all of their rows were looked at.
abbrev pub AreLooked : List FieldShape → Query → Table → ℕ → ℕ → ℕ → Result Grouping QueryFault → Type 0
AreLooked fields q rows pieces from to (Ok g) = HasRun fields q (rows_between pieces from to rows) g
AreLooked fields q rows pieces from to (Err e) = IsPieceRefusal fields (query_shape q).filter (cut_at (length rows) pieces from) (rows_between pieces from to rows) e

-- What is known of pieces from one up to another, and of those right behind them.
pub record AreNeighbours (fields : List FieldShape) (q : Query) (rows : Table) (pieces from middle to : ℕ) (both : Neighbours) : Type 0 where
  pub few : length rows ≤ 2 ^ 40
  pub comparable : All (AreComparable (kind_at fields) q.aggs.items) rows
  pub one : 1 ≤ pieces
  pub low : from ≤ middle
  pub high : middle ≤ to
  pub within : to ≤ pieces
  pub front : AreLooked fields q rows pieces from middle both.early
  pub behind : AreLooked fields q rows pieces middle to both.late

-- ---- what is scanned

abbrev pub scan_batches : {G : Type 0} → Scan G → List Batch
scan_batches s = map arc_value s.batches.now

abbrev pub scan_fields : {G : Type 0} → Scan G → List FieldShape
scan_fields s = first_fields (scan_batches s)

abbrev pub scan_rows : {G : Type 0} → Scan G → Table
scan_rows s = all_rows (scan_batches s)

-- The same of a scan's pieces.
abbrev pub ArePieces : {G : Type 0} → Scan G → ℕ → ℕ → Result Grouping QueryFault → Type 0
ArePieces s from to r = AreLooked (scan_fields s) s.query.now (scan_rows s) s.cuts.pieces from to r

-- The batches are of the same types, the query fits each of them, and their items can be compared. There are so many rows as are cut, no
-- more than a table may have, and from 1 to 64 pieces.
pub record IsScan {G : Type 0} (s : Scan G) : Type 0 where
  pub types : All (λ (b : Batch). map kind_of_field b.fields ≡ map kind_of_field (scan_fields s)) (scan_batches s)
  pub fits : All (λ (b : Batch). fits b.fields (query_shape s.query.now) ≡ true) (scan_batches s)
  pub comparable : All (AreComparable (kind_at (scan_fields s)) s.query.now.aggs.items) (scan_rows s)
  pub counted : s.cuts.rows ≡ length (scan_rows s)
  pub few : length (scan_rows s) ≤ 2 ^ 40
  pub one : 1 ≤ s.cuts.pieces
  pub most : s.cuts.pieces ≤ 64
