-- Nodes that name a field.
use Rattle.std.specs.Prelude.{◌≡◌, ◌<◌, ◌++◌, ℕ, List, [], ◌∷◌}
use Rattle.arrays.specs.Prelude.{FieldShape, depth, kind_of_field}
use Rattle.flat.specs.Fields.{Begins}
use Rattle.flat.specs.Lent.{IsDictionary, IsWithoutSlots, LendsField}
use Rattle.flat.specs.declared.node.Node.{Node}

-- Behind the old ones come those of a column of this field.
pub record AreNamed (f : FieldShape) (old new : List Node) : Type 0 where
  pub own : List Node
  pub is : new ≡ old ++ own
  pub begins : (levels : ℕ) → depth (kind_of_field f) < levels → (rest : List Node) → Begins levels (own ++ rest) f rest
  pub lends : (rest : List Node) → LendsField (kind_of_field f) (own ++ rest)

-- Behind the old ones comes one of texts.
pub record AreTextsNamed (old new : List Node) : Type 0 where
  pub own : Node
  pub is : new ≡ old ++ own ∷ []
  pub dictionary : IsDictionary own
  pub without : IsWithoutSlots own
