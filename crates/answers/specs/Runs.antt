-- What is known of the rows that a query keeps, slice by slice.
use Rattle.std.specs.Prelude.{◌≡◌, ◌+◌, ◌<◌, ◌≤◌, ◌^◌, ℕ, Bool, true, false, List, Option, Some, None, unwrap_or, filter, length, map, ⊤}
use Rattle.std.specs.List.{range_with_len}
use Rattle.arrays.specs.Prelude.{Batch, FieldShape, Item, Table}
use Rattle.query.specs.Prelude.{Tree, query_shape}
use Rattle.query.specs.declared.queries.Query.{Query}
use Rattle.query.specs.declared.sort.Sort.TheVariants.{Truth}
use Rattle.evaluate.specs.Slices.{AreEnough, item_in, row_in, sort_in}
use Rattle.evaluate.specs.declared.stop.Stop.{Stop}
use Rattle.evaluate.specs.declared.stop.Stop.TheVariants.{Bad, NoMemory}
use Rattle.evaluate.specs.declared.values.Values.{Values}
use Rattle.answers.specs.Groups.{is_bad, is_kept, verdict, verdict_of}
use Rattle.answers.specs.Grouping.{HasGroups}
use Rattle.answers.specs.declared.grouping.Grouping.{Grouping}

-- Only what is true keeps a row; without a filter each row is kept.
abbrev pub keeps_item : Item → Bool
keeps_item x = unwrap_or (verdict_of (Some x)) false

abbrev pub keeps : Option Values → ℕ → Bool
keeps None i = true
keeps (Some v) i = keeps_item (item_in v i)

-- The places of the rows of a slice that are kept.
abbrev pub kept_in : Option Values → ℕ → ℕ → List ℕ
kept_in o start n = map (λ i. start + i) (filter (keeps o) (range_with_len 0 n))

-- A truth value for each of n rows.
abbrev pub AreTruths : ℕ → Option Values → Type 0
AreTruths n None = ⊤
AreTruths n (Some v) = (sort_in v ≡ Truth) × AreEnough n v

-- The n rows of a batch from the start on.
abbrev pub rows_in : Batch → ℕ → ℕ → Table
rows_in b start n = map (row_in b start) (range_with_len 0 n)

-- What the filter says of each of these rows.
pub record AreVerdicts (b : Batch) (start n : ℕ) (filter : Option (Tree ℕ)) (o : Option Values) : Type 0 where
  pub truths : AreTruths n o
  pub each : (i : ℕ) → i < n → verdict b.fields filter (row_in b start i) ≡ Some (keeps o i)

-- The filter is bad at none of them.
pub record AreSound (b : Batch) (start n : ℕ) (filter : Option (Tree ℕ)) : Type 0 where
  pub each : (i : ℕ) → i < n → is_bad b.fields filter (row_in b start i) ≡ false

-- The least of them where the filter is bad.
pub record IsBadRow (b : Batch) (start n : ℕ) (filter : Option (Tree ℕ)) (row : ℕ) : Type 0 where
  pub within : row < n
  pub bad : verdict b.fields filter (row_in b start row) ≡ None
  pub before : (i : ℕ) → i < row → is_bad b.fields filter (row_in b start i) ≡ false

abbrev pub StopsAt : Batch → ℕ → ℕ → Option (Tree ℕ) → Stop → Type 0
StopsAt b start n filter (Bad row) = IsBadRow b start n filter row
StopsAt b start n filter NoMemory = ⊤

-- The groups of the rows that the filter keeps.
abbrev pub HasKept : List FieldShape → Query → Table → Grouping → Type 0
HasKept fields q rows g = HasGroups q (filter (is_kept fields (query_shape q).filter) rows) g

-- There are so many rows more than have come, and together no more than a table may have.
abbrev pub HasRowRoom : List FieldShape → Query → ℕ → Grouping → Type 0
HasRowRoom fields q n g = (rows : Table) × (length rows + n ≤ 2 ^ 40) × HasKept fields q rows g
