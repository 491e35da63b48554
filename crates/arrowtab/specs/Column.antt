-- A column that is added once the files are loaded.
use Rattle.std.specs.Prelude.{◌≡◌, ◌+◌, ◌++◌, ℕ, List, [], ◌∷◌, length, Option, None, Some, IfSome, option_map, string_bytes, ⊤}
use Rattle.arrays.specs.Prelude.{FieldShape}
use Rattle.arrow_json.specs.Prelude.{FieldTextFault, IsFieldText, JsonFault, JsonFaultKind, Step}
use Rattle.job.specs.declared.jobs.Job.{Job}
use Rattle.reports.specs.declared.run_fault.ColumnFault.TheVariants.{Refused, Unread}
use Rattle.reports.specs.declared.run_fault.RunFault.{RunFault}
use Rattle.reports.specs.declared.run_fault.RunFault.TheVariants.{OfColumn}
use Rattle.table.specs.Prelude.{Contents, History, add_fault, stored_field, widened}
use Rattle.table.specs.declared.add_fault.AddFault.{AddFault}

-- The text of a job's column, where it has one.
abbrev pub column_text : Job → Option (List ℕ)
column_text job = option_map string_bytes job.column

-- The field that the text is read as; none without a text.
abbrev pub IsColumn : Option (List ℕ) → Option FieldShape → Type 0
IsColumn None None = ⊤
IsColumn None (Some f) = ⊥
IsColumn (Some text) None = ⊥
IsColumn (Some text) (Some f) = IsFieldText text f

-- The text of the job's column is read, where it has one.
abbrev pub IsColumnRead : Job → Type 0
IsColumnRead job = (column : Option FieldShape) × IsColumn (column_text job) column

-- A column of the field may be added.
abbrev pub IsAllowed : Option FieldShape → Type 0
IsAllowed column = IfSome column (λ f. add_fault f ≡ None)

-- The fields with the column's behind them, as it is stored.
abbrev pub fields_with : Option FieldShape → List FieldShape → List FieldShape
fields_with None fields = fields
fields_with (Some f) fields = fields ++ stored_field f ∷ []

-- A history of rows of the fields, under those with the column's: its rows then end with null.
abbrev pub history_with : Option FieldShape → List FieldShape → History → History
history_with None fields h = h
history_with (Some f) fields h = widened (length fields + 1) h

-- The text isn't read as a field: this fault of it stands.
pub record FailedColumn (job : Job) (kind : JsonFaultKind) (path : List Step) : Type 0 where
  pub text : List ℕ
  pub given : column_text job ≡ Some text
  pub stands : FieldTextFault text kind path

-- It is read, and no column of the field may be added.
pub record RefusesColumn (job : Job) (fault : AddFault) : Type 0 where
  pub text : List ℕ
  pub field : FieldShape
  pub given : column_text job ≡ Some text
  pub read : IsFieldText text field
  pub stands : add_fault field ≡ Some fault

-- ---- what is made of a job's column, and what stops it

-- A table with the column behind it, which may be added, where there is one.
pub record IsWith (column : Option FieldShape) (before after : Contents) : Type 0 where
  pub allowed : IsAllowed column
  pub fields : after.fields ≡ fields_with column before.fields
  pub history : after.history ≡ history_with column before.fields before.history

-- The text of the job's column isn't read.
abbrev pub IsColumnUnread : Job → RunFault → Type 0
IsColumnUnread job fault = (f : JsonFault) × (fault ≡ OfColumn (Unread f)) × FailedColumn job f.kind f.path

-- No column of the field may be added.
abbrev pub IsColumnRefused : Option FieldShape → RunFault → Type 0
IsColumnRefused column fault = (f : FieldShape) × (e : AddFault) × (column ≡ Some f) × (fault ≡ OfColumn (Refused e)) × (add_fault f ≡ Some e)
