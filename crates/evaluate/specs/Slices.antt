-- What an expression is at the rows of a slice of a batch.
use Rattle.std.specs.Prelude.{◌≡◌, ℕ, ◌+◌, ◌<◌, true, length, Option, Some, None, Ok, is_some, ⊤}
use Rattle.arrays.specs.Prelude.{Batch, Item, Row, Seen, item_at, part, row_of}
use Rattle.arrays.specs.Item as item
use Rattle.query.specs.Prelude.{Tree, checked, sort_at, sort_of_kind}
use Rattle.query.specs.declared.sort.Sort.{Sort}
use Rattle.query.specs.declared.sort.Sort.TheVariants as sort
use Rattle.evaluate.specs.Value.{value}
use Rattle.evaluate.specs.declared.values.Operand.{Operand}
use Rattle.evaluate.specs.declared.values.Operand.TheVariants.{Borrowed, Made}
use Rattle.evaluate.specs.declared.values.Slots.{Slots}
use Rattle.evaluate.specs.declared.values.Values.{Values}
use Rattle.evaluate.specs.declared.values.Values.TheVariants.{Number, Text, Column}
use Rattle.evaluate.specs.declared.stop.Stop.{Stop}
use Rattle.evaluate.specs.declared.stop.Stop.TheVariants.{Bad, NoMemory}

-- Row i of the rows from the start on.
abbrev pub row_in : Batch → ℕ → ℕ → Row
row_in b start i = row_of b.columns (start + i)

-- ---- values

abbrev pub slots_of : Slots → Seen
slots_of s = part s.start s.len s.array.now

abbrev pub column_of : Operand → Seen
column_of (Borrowed slots) = slots_of slots
column_of (Made array) = array

-- The value at row i.
abbrev pub item_in : Values → ℕ → Item
item_in (Number z) i = item.int z
item_in (Text s) i = item.text s.now
item_in (Column o) i = item_at (column_of o).items i

abbrev pub sort_in : Values → Sort
sort_in (Number z) = sort.Literal z
sort_in (Text s) = sort.Text
sort_in (Column o) = sort_of_kind (column_of o).kind

-- There is a value at each of n rows.
abbrev pub AreEnough : ℕ → Values → Type 0
AreEnough n (Number z) = ⊤
AreEnough n (Text s) = ⊤
AreEnough n (Column o) = length (column_of o).items ≡ n

-- ---- expressions

-- The values of the expression at n rows of the batch from the start on.
pub record AreValues (b : Batch) (start n : ℕ) (t : Tree ℕ) (v : Values) : Type 0 where
  pub sort : checked (sort_at b.fields) t ≡ Ok (sort_in v)
  pub enough : AreEnough n v
  pub each : (i : ℕ) → i < n → value b.fields (row_in b start i) t ≡ Some (item_in v i)

-- ---- the least bad row

-- The least of n rows where the expression is bad.
pub record IsLeastBad (b : Batch) (start n : ℕ) (t : Tree ℕ) (row : ℕ) : Type 0 where
  pub within : row < n
  pub bad : value b.fields (row_in b start row) t ≡ None
  pub before : (i : ℕ) → i < row → is_some (value b.fields (row_in b start i) t) ≡ true

abbrev pub IsLeastStop : Batch → ℕ → ℕ → Tree ℕ → Stop → Type 0
IsLeastStop b start n t (Bad row) = IsLeastBad b start n t row
IsLeastStop b start n t NoMemory = ⊤

-- ---- filters

-- The values of a filter, where there is one: truth values.
abbrev pub AreFilterValues : Batch → ℕ → ℕ → Option (Tree ℕ) → Option Values → Type 0
AreFilterValues b start n None None = ⊤
AreFilterValues b start n (Some t) (Some v) = AreValues b start n t v × (sort_in v ≡ sort.Truth)
AreFilterValues b start n filter values = ⊥

-- Where there is no filter, nothing is refused.
abbrev pub IsFilterStop : Batch → ℕ → ℕ → Option (Tree ℕ) → Stop → Type 0
IsFilterStop b start n None e = ⊥
IsFilterStop b start n (Some t) e = IsLeastStop b start n t e
