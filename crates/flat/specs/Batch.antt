-- The record batch that nodes are.
use Rattle.std.specs.Prelude.{◌≡◌, ◌⊎◌, ℕ, List, [], ◌∷◌, length, Some, None}
use Rattle.arrays.specs.Prelude.{Batch, FieldShape, LayoutFault, SchemaFault, Seen, batch_fault, kind_of_field, schema_fault}
use Rattle.arrays.specs.declared.batch.BatchFault.{BatchFault}
use Rattle.flat.specs.Fields.{Begins, Stops}
use Rattle.flat.specs.Parts.{read_column}
use Rattle.flat.specs.Schema.{most_levels}
use Rattle.flat.specs.declared.fault.FlatFault.{FlatFault}
use Rattle.flat.specs.declared.fault.FlatFault.TheVariants as fault
use Rattle.flat.specs.declared.node.Node.{Node}

-- The nodes begin with parts that are an array of the field's type, and show this.
abbrev pub IsColumn : List Node → FieldShape → Seen → Type 0
IsColumn [] f s = ⊥
IsColumn (n ∷ behind) f s = ((read_column (kind_of_field f) n behind).fault ≡ None) × (s ≡ (read_column (kind_of_field f) n behind).seen)

-- The nodes are columns of these fields that show these, one after the other; these come behind them.
abbrev pub Takes : List Node → List FieldShape → List Seen → List Node → Type 0
Takes nodes [] [] rest = rest ≡ nodes
Takes nodes (f ∷ fs) (s ∷ ss) rest = (between : List Node) × Begins most_levels nodes f between × IsColumn nodes f s × Takes between fs ss rest
Takes nodes [] (s ∷ ss) rest = ⊥
Takes nodes (f ∷ fs) [] rest = ⊥

-- The batch has so many rows, and the nodes are its columns.
pub record IsBatchOf (rows : ℕ) (nodes : List Node) (b : Batch) : Type 0 where
  pub long : b.rows ≡ rows
  pub columns : Takes nodes b.fields b.columns []

-- ---- why they are none

-- The nodes begin with parts that are no array of the field's type.
abbrev pub StopsArray : ℕ → List Node → FieldShape → FlatFault → Type 0
StopsArray column [] f e = ⊥
StopsArray column (n ∷ behind) f e = (layout : LayoutFault) × ((read_column (kind_of_field f) n behind).fault ≡ Some layout) × (e ≡ fault.Layout column layout)

-- The nodes begin with no field, or with a field and no array of its type.
abbrev pub StopsColumn : ℕ → List Node → FlatFault → Type 0
StopsColumn column nodes e =
    Stops column most_levels nodes e
    ⊎ ((f : FieldShape) × (rest : List Node) × Begins most_levels nodes f rest × StopsArray column nodes f e)

-- The first column at fault: those before it have these fields and show these, it begins with this node.
pub record StopsColumns (nodes : List Node) (e : FlatFault) : Type 0 where
  pub fields : List FieldShape
  pub columns : List Seen
  pub node : Node
  pub behind : List Node
  pub before : Takes nodes fields columns (node ∷ behind)
  pub stops : StopsColumn (length fields) (node ∷ behind) e

-- The fields are no schema, or they are one, and the columns under it no batch of so many rows.
abbrev pub IsRefused : ℕ → List FieldShape → List Seen → FlatFault → Type 0
IsRefused rows fields columns e =
    ((refused : SchemaFault) × (schema_fault fields ≡ Some refused) × (e ≡ fault.Schema refused))
    ⊎ ((refused : BatchFault) × (schema_fault fields ≡ None) × (batch_fault fields rows columns ≡ Some refused) × (e ≡ fault.Batch refused))

-- No column is at fault, and together they are refused.
pub record StopsTogether (rows : ℕ) (nodes : List Node) (e : FlatFault) : Type 0 where
  pub fields : List FieldShape
  pub columns : List Seen
  pub taken : Takes nodes fields columns []
  pub refused : IsRefused rows fields columns e
