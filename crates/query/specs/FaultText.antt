-- How a query's fault is reported.
use Rattle.std.specs.Prelude.{ℕ, List, ◌++◌, codes}
use Rattle.std.specs.Fmt.{decimal}
use Rattle.query.specs.declared.fault.QueryFault.{QueryFault}
use Rattle.query.specs.declared.fault.QueryFault.TheVariants.{NoColumn, AmbiguousColumn, WrongKind, Overflow, TooDeep, NoMemory}

-- The number and the name, then the field with its value.
abbrev pub query_fault_text : QueryFault → List ℕ
query_fault_text NoColumn = codes "Q1 NoColumn"
query_fault_text AmbiguousColumn = codes "Q2 AmbiguousColumn"
query_fault_text WrongKind = codes "Q3 WrongKind"
query_fault_text (Overflow row) = codes "Q4 Overflow row=" ++ decimal row
query_fault_text TooDeep = codes "Q5 TooDeep"
query_fault_text NoMemory = codes "Q6 NoMemory"
