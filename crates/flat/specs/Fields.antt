-- The fields that nodes name: a list's node stands before that of its items, that of indices before that of their dictionary.
use Rattle.std.specs.Prelude.{◌≡◌, ◌⊎◌, ℕ, zero, suc, ◌==◌, List, [], ◌∷◌, Bool, true, false, Option, Some, None, not}
use Rattle.std.specs.Bool.{then_some}
use Rattle.std.specs.Option.{option_and_then}
use Rattle.arrays.specs.Prelude.{FieldShape, IntType, Narrow, OffsetWidth, Shape, field}
use Rattle.arrays.specs.Shape as shape
use Rattle.flat.specs.Content.{content_of, node_fault}
use Rattle.flat.specs.declared.content.Content.{Content}
use Rattle.flat.specs.declared.content.Content.TheVariants as content
use Rattle.flat.specs.declared.fault.FlatFault.{FlatFault}
use Rattle.flat.specs.declared.fault.FlatFault.TheVariants.{ChildrenDiffer, MissingNode, TooDeep}
use Rattle.flat.specs.declared.node.Node.{Node}

-- The field of a node's name that is of this type.
abbrev pub field_named : Node → Shape → FieldShape
field_named n ty = field n.name.now (not (n.nullable == 0)) ty

-- The type of a node that needs no other, none of lists and indices.
abbrev pub shape_alone : Content → Option Shape
shape_alone (content.Int t) = Some (shape.int t)
shape_alone content.Bool = Some shape.boolean
shape_alone (content.Texts w) = Some (shape.texts w)
shape_alone c = None

-- The node is a column of its own.
pub record IsAlone (n : Node) (behind : List Node) (f : FieldShape) (rest : List Node) : Type 0 where
  pub ty : Shape
  pub holds : option_and_then shape_alone (content_of n) ≡ Some ty
  pub field : f ≡ field_named n ty
  pub next : rest ≡ behind

-- A dictionary has texts with offsets of 32 bits.
abbrev pub is_dictionary : Option Content → Bool
is_dictionary (Some (content.Texts Narrow)) = true
is_dictionary c = false

-- The node is a column of indices, and the one behind it is their dictionary.
pub record IsCoded (n : Node) (behind : List Node) (f : FieldShape) (rest : List Node) : Type 0 where
  pub indices : IntType
  pub holds : content_of n ≡ Some (content.Codes indices)
  pub dictionary : Node
  pub texts : is_dictionary (content_of dictionary) ≡ true
  pub field : f ≡ field_named n shape.dict
  pub next : behind ≡ dictionary ∷ rest

-- The node is a column of lists of these items.
pub record IsListOf (n : Node) (item f : FieldShape) : Type 0 where
  pub width : OffsetWidth
  pub holds : content_of n ≡ Some (content.Lists width)
  pub field : f ≡ field_named n (shape.lists width item)

-- The nodes begin with a column of this field, of at most so many levels; these come behind it.
abbrev pub Begins : ℕ → List Node → FieldShape → List Node → Type 0
Begins zero nodes f rest = ⊥
Begins (suc levels) [] f rest = ⊥
Begins (suc levels) (n ∷ behind) f rest =
    IsAlone n behind f rest ⊎ (IsCoded n behind f rest ⊎ ((item : FieldShape) × Begins levels behind item rest × IsListOf n item f))

-- ---- why they begin with none

-- What is wrong with the nodes behind indices.
abbrev pub dictionary_fault : ℕ → List Node → Option FlatFault
dictionary_fault column [] = Some (MissingNode column)
dictionary_fault column (d ∷ rest) = then_some (not (is_dictionary (content_of d))) (ChildrenDiffer column)

-- The first node at fault stops a column with this fault.
abbrev pub Stops : ℕ → ℕ → List Node → FlatFault → Type 0
Stops column zero nodes e = e ≡ TooDeep column
Stops column (suc levels) [] e = e ≡ MissingNode column
Stops column (suc levels) (n ∷ behind) e =
    (node_fault column n ≡ Some e)
    ⊎ ((node_fault column n ≡ None)
    × (((indices : IntType) × (content_of n ≡ Some (content.Codes indices)) × (dictionary_fault column behind ≡ Some e))
    ⊎ ((width : OffsetWidth) × (content_of n ≡ Some (content.Lists width)) × Stops column levels behind e)))
