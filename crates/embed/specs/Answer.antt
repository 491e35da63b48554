-- What a table answers to the bytes of a query.
use Rattle.std.specs.Prelude.{◌≡◌, ◌⊎◌, ℕ, List, [], Ok}
use Rattle.table.specs.Prelude.{Contents, GroupShape, History, QueryShape, admitted, groups, resolved, rows, stored_fields}
use Rattle.arrays.specs.Prelude.{Batch, FieldShape}
use Rattle.arrow_json.specs.Prelude.{ReadsQueryText}
use Rattle.results.specs.Prelude.{result_batch, result_types}
use Rattle.reports.specs.Prelude.{IsUnanswered, IsUnreadQuery, PrintsGroups, column_names}
use Rattle.reports.specs.declared.run_fault.RunFault.{RunFault}

-- The text is what `query` prints of the table, for the query that the bytes are read as.
abbrev pub PrintsAnswer : List ℕ → List FieldShape → History → List ℕ → Type 0
PrintsAnswer query fields h text = (shape : QueryShape (List ℕ)) × ReadsQueryText query shape × PrintsGroups shape fields h text

-- The fault of the query: of its bytes, or over the table.
abbrev pub StopsAnswer : List ℕ → List FieldShape → History → RunFault → Type 0
StopsAnswer query fields h fault = IsUnreadQuery query fault ⊎ ((shape : QueryShape (List ℕ)) × ReadsQueryText query shape × IsUnanswered shape fields h fault)

-- ---- the answer as a table

-- A table of the batch's fields to which it was added, by worker 0.
abbrev pub of_batch : Batch → Contents
of_batch b = admitted (record { fields = stored_fields b.fields; history = []; batches = [] }) 0 b

-- The table has the groups that a query asks of the rows, each of whose names is one field's, under what the query names them.
pub record IsNamedAnswer (query : QueryShape (List ℕ)) (fields : List FieldShape) (h : History) (t : Contents) : Type 0 where
  pub placed : QueryShape ℕ
  pub found : List GroupShape
  pub resolves : resolved fields query ≡ Ok placed
  pub asks : groups fields placed (rows h) ≡ Ok found
  pub is : t ≡ of_batch (result_batch (column_names query) (result_types fields placed) found)

-- The same of the query that the bytes are read as.
abbrev pub IsAnswerTable : List ℕ → List FieldShape → History → Contents → Type 0
IsAnswerTable query fields h t = (shape : QueryShape (List ℕ)) × ReadsQueryText query shape × IsNamedAnswer shape fields h t
