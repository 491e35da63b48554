-- Faults of a query: of its text, and over a table.
use Rattle.std.specs.Prelude.{◌≡◌, ℕ, List, Err}
use Rattle.table.specs.Prelude.{History, Overflow, QueryFault, QueryShape, groups, rows}
use Rattle.arrays.specs.Prelude.{FieldShape}
use Rattle.arrow_json.specs.Prelude.{JsonFault, QueryBytesFault}
use Rattle.reports.specs.Queried.{RefusesGroups}
use Rattle.reports.specs.declared.run_fault.RunFault.{RunFault}
use Rattle.reports.specs.declared.run_fault.RunFault.TheVariants.{QueryUnread, QueryRefused}

-- The bytes aren't read as a query: this fault of theirs stands.
abbrev pub IsUnreadQuery : List ℕ → RunFault → Type 0
IsUnreadQuery bytes fault = (f : JsonFault) × (fault ≡ QueryUnread f) × QueryBytesFault bytes f.kind f.path

-- A query by positions is refused at the least row where its filter is bad.
abbrev pub IsUnplaced : QueryShape ℕ → List FieldShape → History → RunFault → Type 0
IsUnplaced placed fields h fault = (row : ℕ) × (fault ≡ QueryRefused (Overflow row)) × (groups fields placed (rows h) ≡ Err row)

-- A query by names is refused.
abbrev pub IsUnanswered : QueryShape (List ℕ) → List FieldShape → History → RunFault → Type 0
IsUnanswered query fields h fault = (f : QueryFault) × (fault ≡ QueryRefused f) × RefusesGroups query fields h f
