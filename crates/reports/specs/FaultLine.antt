-- The lines of faults, by what they are faults of.
use Rattle.std.specs.Prelude.{ℕ, List, codes}
use Rattle.reports.specs.Lines.{column_fault_line, unread_line, file_line, query_line, refusal_line}
use Rattle.ends.specs.Line.{memory_line}
use Rattle.arrow_json.specs.Prelude.{fault_text}
use Rattle.table.specs.Prelude.{query_fault_text}
use Rattle.table.specs.declared.add_fault.AddFault.{AddFault}
use Rattle.table.specs.declared.add_fault.AddFault.TheVariants as add
use Rattle.reports.specs.declared.run_fault.ColumnFault.{ColumnFault}
use Rattle.reports.specs.declared.run_fault.ColumnFault.TheVariants as column
use Rattle.reports.specs.declared.run_fault.ColumnFault.TheVariants.{Unread}
use Rattle.reports.specs.declared.run_fault.FileFault.{FileFault}
use Rattle.reports.specs.declared.run_fault.FileFault.TheVariants.{CannotRead, Json, Refused}
use Rattle.reports.specs.declared.run_fault.RunFault.{RunFault}
use Rattle.reports.specs.declared.run_fault.RunFault.TheVariants.{NoMemory, OfColumn, OfFile, QueryUnread, QueryRefused}

-- The line of a file's fault.
abbrev pub fault_line : List ℕ → FileFault → List ℕ
fault_line name CannotRead = unread_line name
fault_line name (Json f) = file_line name f.kind f.path
fault_line name (Refused number refusal) = refusal_line name number refusal

-- Why no column is added.
abbrev pub add_fault_text : AddFault → List ℕ
add_fault_text add.NotNullable = codes "N1 NotNullable"
add_fault_text add.TooDeep = codes "N2 TooDeep"
add_fault_text add.DictInList = codes "N3 DictInList"
add_fault_text add.NoMemory = codes "N4 NoMemory"

-- What is reported of a fault of the column.
abbrev pub column_fault_text : ColumnFault → List ℕ
column_fault_text (Unread f) = fault_text f.kind f.path
column_fault_text (column.Refused fault) = add_fault_text fault

-- The line of a fault, with this name for its file, if it is one of a file.
abbrev pub line_under : List ℕ → RunFault → List ℕ
line_under name NoMemory = memory_line
line_under name (OfFile file fault) = fault_line name fault
line_under name (QueryUnread f) = query_line (fault_text f.kind f.path)
line_under name (QueryRefused f) = query_line (query_fault_text f)
line_under name (OfColumn f) = column_fault_line (column_fault_text f)
