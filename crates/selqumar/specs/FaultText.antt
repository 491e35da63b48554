-- What is told of faults of columns that are lent.
use Rattle.std.specs.Prelude.{ℕ, List, ◌++◌, codes}
use Rattle.std.specs.Fmt.{decimal}
use Rattle.arrays.specs.Prelude.{LayoutFault, SchemaFault}
use Rattle.arrays.specs.SchemaFaults as schema
use Rattle.arrays.specs.declared.batch.BatchFault.{BatchFault}
use Rattle.arrays.specs.declared.batch.BatchFault.TheVariants as batch
use Rattle.json_base.specs.JsonFaultText.{layout_name, row_of, row_text}
use Rattle.reports.specs.FaultLine.{add_fault_text}
use Rattle.reports.specs.Lines.{refusal_text}
use Rattle.flat.specs.declared.fault.FlatFault.{FlatFault}
use Rattle.intake.specs.FlatFaults as flat
use Rattle.intake.specs.declared.fault.IntakeFault.{IntakeFault}
use Rattle.intake.specs.declared.fault.IntakeFault.TheVariants.{Column, Flat, NotOneColumn, Refused}

abbrev pub layout_fault_text : LayoutFault → List ℕ
layout_fault_text fault = layout_name fault ++ row_text (row_of fault)

abbrev pub schema_fault_text : SchemaFault → List ℕ
schema_fault_text (schema.TooDeep column) = codes "C1 TooDeep column=" ++ decimal column
schema_fault_text (schema.DictInList column) = codes "C2 DictInList column=" ++ decimal column

abbrev pub batch_fault_text : BatchFault → List ℕ
batch_fault_text (batch.LengthsDiffer column) = codes "B1 LengthsDiffer column=" ++ decimal column
batch_fault_text (batch.TypeDiffers column) = codes "B2 TypeDiffers column=" ++ decimal column
batch_fault_text batch.ColumnCount = codes "B3 ColumnCount"

abbrev pub flat_fault_text : FlatFault → List ℕ
flat_fault_text (flat.NameNotUtf8 column) = codes "X1 NameNotUtf8 column=" ++ decimal column
flat_fault_text (flat.UnknownFormat column) = codes "X2 UnknownFormat column=" ++ decimal column
flat_fault_text (flat.ChildrenDiffer column) = codes "X3 ChildrenDiffer column=" ++ decimal column
flat_fault_text (flat.MissingNode column) = codes "X4 MissingNode column=" ++ decimal column
flat_fault_text (flat.TooDeep column) = codes "X5 TooDeep column=" ++ decimal column
flat_fault_text (flat.Layout column fault) = codes "X6 Layout column=" ++ decimal column ++ codes ": " ++ layout_fault_text fault
flat_fault_text (flat.Schema fault) = schema_fault_text fault
flat_fault_text (flat.Batch fault) = batch_fault_text fault
flat_fault_text flat.NoMemory = codes "X7 NoMemory"

-- The number and the name of a fault, then its fields; a fault of a column that is to be added says so.
abbrev pub intake_fault_text : IntakeFault → List ℕ
intake_fault_text (Flat fault) = flat_fault_text fault
intake_fault_text (Refused refusal) = refusal_text refusal
intake_fault_text (NotOneColumn columns) = codes "column: I1 NotOneColumn columns=" ++ decimal columns
intake_fault_text (Column fault) = codes "column: " ++ add_fault_text fault
