-- A table given out part by part, one for each entry of its book.
use Rattle.std.specs.Prelude.{◌≡◌, ℕ, ◌+◌, ◌<◌, ◌≤◌, List, length, take, None}
use Rattle.arrays.specs.Prelude.{Batch, FieldShape, Seen, batch_fault, part}
use Rattle.compaction.specs.Prelude.{chosen}
use Rattle.table.specs.Lawful.{rows_of_batches}
use Rattle.table.specs.declared.export.Place.{Place}

-- How many rows the first i batches have.
abbrev pub rows_before : List Batch → ℕ → ℕ
rows_before batches i = length (rows_of_batches (take i batches))

-- How many rows come before the place.
abbrev pub passed : List Batch → Place → ℕ
passed batches p = rows_before batches p.batch + p.used

-- The place is one of its batch, which may end there.
abbrev pub IsExportPlace : List Batch → Place → Type 0
IsExportPlace batches p = passed batches p ≤ rows_before batches (p.batch + 1)

-- Rows of its batch come after it.
abbrev pub HasMore : List Batch → Place → Type 0
HasMore batches p = passed batches p < rows_before batches (p.batch + 1)

-- The batch has no fault.
abbrev pub IsLawful : Batch → Type 0
IsLawful b = batch_fault b.fields b.rows b.columns ≡ None

-- It is one under these fields.
abbrev pub IsUnder : List FieldShape → Batch → Type 0
IsUnder fields b = (b.fields ≡ fields) × IsLawful b

-- The n slots of a column from slot start on, as a column of their own.
abbrev pub copied : ℕ → ℕ → Seen → Seen
copied start n c = chosen c.kind (λ items. items) (part start n c)
