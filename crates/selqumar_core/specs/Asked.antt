-- What a query's text asks of rows, and why it has no answer.
use Rattle.std.specs.Prelude.{◌≡◌, ℕ, List, Ok, Err, ⊤}
use Rattle.shared.specs.Prelude.{Answer, IsAnswer, Overflow, QueryFault, QueryShape, groups, resolved}
use Rattle.arrays.specs.Prelude.{FieldShape, Table}
use Rattle.arrow_json.specs.Prelude.{QueryBytesFault, ReadsQueryText}
use Rattle.selqumar_core.specs.declared.fault.Fault.{Fault}
use Rattle.selqumar_core.specs.declared.fault.Fault.TheVariants as fault

-- The text is a query whose names, looked up among the fields, are these positions.
pub record ReadsPlaced (bytes : List ℕ) (fields : List FieldShape) (placed : QueryShape ℕ) : Type 0 where
  pub query : QueryShape (List ℕ)
  pub reads : ReadsQueryText bytes query
  pub resolves : resolved fields query ≡ Ok placed

-- It has this answer over the rows.
pub record IsAsked (bytes : List ℕ) (fields : List FieldShape) (t : Table) (a : Answer) : Type 0 where
  pub placed : QueryShape ℕ
  pub is_placed : ReadsPlaced bytes fields placed
  pub is_answer : IsAnswer fields placed t a

-- A fault of the query: under the fields, or at the least of the rows where its filter is bad.
pub data IsAskRefusal (bytes : List ℕ) (fields : List FieldShape) (t : Table) : QueryFault → Type 0 where
  under_fields : (query : QueryShape (List ℕ)) (f : QueryFault) → ReadsQueryText bytes query → resolved fields query ≡ Err f → IsAskRefusal bytes fields t f
  at_row : (placed : QueryShape ℕ) (row : ℕ) → ReadsPlaced bytes fields placed → groups fields placed t ≡ Err row → IsAskRefusal bytes fields t (Overflow row)

-- Why there is no answer.
abbrev pub IsUnasked : List ℕ → List FieldShape → Table → Fault → Type 0
IsUnasked bytes fields t fault.NoMemory = ⊤
IsUnasked bytes fields t (fault.Unread f) = QueryBytesFault bytes f.kind f.path
IsUnasked bytes fields t (fault.Query f) = IsAskRefusal bytes fields t f
IsUnasked bytes fields t f = ⊥
