-- What a table is after columns that are lent were handed to it.
use Rattle.std.specs.Prelude.{◌≡◌, ◌≢◌, ◌⊎◌, ℕ, List, [], ◌∷◌, length, Some, None}
use Rattle.arrays.specs.Prelude.{Batch, FieldShape}
use Rattle.flat.specs.Prelude.{IsBatchOf, Names, StopsColumns, StopsFields, StopsSchema, StopsTogether}
use Rattle.flat.specs.declared.fault.FlatFault.{FlatFault}
use Rattle.flat.specs.declared.fault.FlatFault.TheVariants as flat
use Rattle.flat.specs.declared.node.Node.{Node}
use Rattle.table.specs.Prelude.{Contents, add_fault, admitted, batch_cause, early_cause, stored_field, stored_fields, with_last_field}
use Rattle.table.specs.declared.add_fault.AddFault.{AddFault}
use Rattle.table.specs.declared.add_fault.AddFault.TheVariants as column
use Rattle.table.specs.declared.refusal.Refusal.{Refusal}
use Rattle.table.specs.declared.refusal.Refusal.TheVariants as refusal
use Rattle.intake.specs.declared.fault.IntakeFault.{IntakeFault}
use Rattle.intake.specs.declared.fault.IntakeFault.TheVariants.{Column, Flat, NotOneColumn, Refused}

-- The table has the fields that the nodes name, as they are stored, and nothing was added.
pub record IsEmptyOf (nodes : List Node) (t : Contents) : Type 0 where
  pub fields : List FieldShape
  pub named : Names nodes fields []
  pub is : t ≡ record { fields = stored_fields fields; history = []; batches = [] }

-- The nodes are a batch of so many rows that nothing stood against, and it came behind the others.
pub record IsAppended (worker rows : ℕ) (nodes : List Node) (before after : Contents) : Type 0 where
  pub batch : Batch
  pub of : IsBatchOf rows nodes batch
  pub allowed : batch_cause before.fields before.history batch ≡ None
  pub is : after ≡ admitted before worker batch

-- The nodes are one column, of this field.
abbrev pub IsOneColumn : List Node → FieldShape → Type 0
IsOneColumn nodes f = Names nodes (f ∷ []) []

-- The nodes are one column, and the table has its field, as it is stored, behind the others: the rows that were there show null in it.
pub record IsWidened (nodes : List Node) (before after : Contents) : Type 0 where
  pub field : FieldShape
  pub only : IsOneColumn nodes field
  pub allowed : add_fault field ≡ None
  pub is : after ≡ with_last_field before (stored_field field)

-- ---- why it isn't

-- The nodes name no fields.
abbrev pub StopsNaming : List Node → FlatFault → Type 0
StopsNaming nodes e = StopsFields nodes e ⊎ (StopsSchema nodes e ⊎ (e ≡ flat.NoMemory))

-- The same of an empty table of them.
abbrev pub StopsNew : List Node → IntakeFault → Type 0
StopsNew nodes (Flat e) = StopsNaming nodes e
StopsNew nodes (Refused r) = ⊥
StopsNew nodes (NotOneColumn columns) = ⊥
StopsNew nodes (Column e) = ⊥

-- The table doesn't take the batch. Want of memory is none of its own causes, and comes behind the early ones.
abbrev pub RefusesBatch : Contents → Batch → Refusal → Type 0
RefusesBatch t batch r =
    ((r ≡ refusal.NoMemory) × (early_cause t.fields t.history batch ≡ None))
    ⊎ (batch_cause t.fields t.history batch ≡ Some r)

-- The fault stands: of the nodes, or of the batch that they are.
abbrev pub StopsAppend : ℕ → List Node → Contents → IntakeFault → Type 0
StopsAppend rows nodes t (Flat e) = StopsColumns nodes e ⊎ (StopsTogether rows nodes e ⊎ (e ≡ flat.NoMemory))
StopsAppend rows nodes t (Refused r) = (batch : Batch) × IsBatchOf rows nodes batch × RefusesBatch t batch r
StopsAppend rows nodes t (NotOneColumn columns) = ⊥
StopsAppend rows nodes t (Column e) = ⊥

-- The nodes name other than one field.
pub record AreOthers (nodes : List Node) (columns : ℕ) : Type 0 where
  pub fields : List FieldShape
  pub named : Names nodes fields []
  pub count : length fields ≡ columns
  pub other : columns ≢ 1

-- No column of the field is added. Want of memory comes only where nothing stands against the field.
abbrev pub IsAddRefusal : FieldShape → AddFault → Type 0
IsAddRefusal f e = ((e ≡ column.NoMemory) × (add_fault f ≡ None)) ⊎ (add_fault f ≡ Some e)

-- The fault stands: of the nodes, or of the field that they name.
abbrev pub StopsWidening : List Node → IntakeFault → Type 0
StopsWidening nodes (Flat e) = StopsNaming nodes e
StopsWidening nodes (Refused r) = ⊥
StopsWidening nodes (NotOneColumn columns) = AreOthers nodes columns
StopsWidening nodes (Column e) = (field : FieldShape) × IsOneColumn nodes field × IsAddRefusal field e
