-- What a query prints of a table, and why it prints nothing.
use Rattle.std.specs.Prelude.{◌≡◌, ◌⊎◌, ℕ, List, Ok, Err}
use Rattle.table.specs.Prelude.{GroupShape, History, Overflow, QueryFault, QueryShape, groups, resolved, rows}
use Rattle.arrays.specs.Prelude.{FieldShape}
use Rattle.reports.specs.GroupLines.{group_lines}

-- The text is what is shown of the groups that a query asks of the rows, each of whose names is one field's.
pub record ShowsGroups (show : List GroupShape → List ℕ) (query : QueryShape (List ℕ)) (fields : List FieldShape) (h : History) (text : List ℕ) : Type 0 where
  pub placed : QueryShape ℕ
  pub found : List GroupShape
  pub resolves : resolved fields query ≡ Ok placed
  pub asks : groups fields placed (rows h) ≡ Ok found
  pub shows : text ≡ show found

-- The same as lines.
abbrev pub PrintsGroups : QueryShape (List ℕ) → List FieldShape → History → List ℕ → Type 0
PrintsGroups query fields h text = ShowsGroups group_lines query fields h text

-- A fault of the query stands: under the fields, or at the least of the rows where its filter is bad.
abbrev pub RefusesGroups : QueryShape (List ℕ) → List FieldShape → History → QueryFault → Type 0
RefusesGroups query fields h fault =
    (resolved fields query ≡ Err fault)
    ⊎ ((placed : QueryShape ℕ) × (row : ℕ) × (fault ≡ Overflow row) × (resolved fields query ≡ Ok placed) × (groups fields placed (rows h) ≡ Err row))
