-- The schema that nodes name.
use Rattle.std.specs.Prelude.{◌≡◌, ℕ, List, [], ◌∷◌, length, Some}
use Rattle.arrays.specs.Prelude.{FieldShape, SchemaFault, schema_fault}
use Rattle.flat.specs.Fields.{Begins, Stops}
use Rattle.flat.specs.declared.fault.FlatFault.{FlatFault}
use Rattle.flat.specs.declared.fault.FlatFault.TheVariants.{Schema}
use Rattle.flat.specs.declared.node.Node.{Node}

-- A column has 8 lists in one another at most, and what they are of.
abbrev pub most_levels : ℕ
most_levels = 9

-- The nodes are columns of these fields, one after the other; these come behind them.
abbrev pub Names : List Node → List FieldShape → List Node → Type 0
Names nodes [] rest = rest ≡ nodes
Names nodes (f ∷ fs) rest = (between : List Node) × Begins most_levels nodes f between × Names between fs rest

-- The first column at fault: those before it have these fields, it begins with this node.
pub record StopsFields (nodes : List Node) (e : FlatFault) : Type 0 where
  pub fields : List FieldShape
  pub node : Node
  pub behind : List Node
  pub before : Names nodes fields (node ∷ behind)
  pub stops : Stops (length fields) most_levels (node ∷ behind) e

-- All columns have fields, and these are no schema.
pub record StopsSchema (nodes : List Node) (e : FlatFault) : Type 0 where
  pub fields : List FieldShape
  pub named : Names nodes fields []
  pub fault : SchemaFault
  pub refused : schema_fault fields ≡ Some fault
  pub is : e ≡ Schema fault
