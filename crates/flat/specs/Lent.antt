-- Nodes over the parts of arrays, which are lent.
use Rattle.std.specs.Prelude.{◌≡◌, ◌≢◌, ◌<◌, ◌==◌, ℕ, List, [], ◌∷◌, ◌++◌, Bool, not, Option, Some, None}
use Rattle.arrays.specs.Prelude.{Buffers, FieldShape, Kind, Reading, Seen, bytes_at, checked_texts, depth, int32, kind_of_field, read_parts}
use Rattle.arrays.specs.Kind as kind
use Rattle.flat.specs.Fields.{Begins}
use Rattle.flat.specs.Parts.{stated}
use Rattle.flat.specs.Content.{content_of}
use Rattle.flat.specs.declared.content.Content.{Content}
use Rattle.flat.specs.declared.content.Content.TheVariants as content
use Rattle.flat.specs.Schema.{most_levels}
use Rattle.flat.specs.declared.node.Node.{Node}

-- The node has the length and the very buffers of parts that are read as this, over these children and this dictionary.
pub record IsOver (k : Kind) (n : Node) (children : List Reading) (dictionary : Option Reading) (r : Reading) : Type 0 where
  pub buffers : Buffers
  pub is : r ≡ read_parts k n.length (stated n.null_count) buffers children dictionary
  pub validity : n.validity.now ≡ bytes_at buffers 0
  pub first : n.first.now ≡ bytes_at buffers 1
  pub second : n.second.now ≡ bytes_at buffers 2

-- A dictionary as it is lent: indices of 32 bits, and texts that have no name and may be null.
pub record IsLentDict (n t : Node) : Type 0 where
  pub indices : content_of n ≡ Some (content.Codes int32)
  pub unnamed : t.name.now ≡ []
  pub nullable : t.nullable ≢ 0

-- The nodes begin with those of parts that are read as this: of lists with the parts of their items, of codes with those of their texts, which are lawful.
abbrev pub Lends : Kind → List Node → Reading → Type 0
Lends k [] r = ⊥
Lends (kind.lists w k) (n ∷ behind) r = (item : Reading) × Lends k behind item × IsOver (kind.lists w k) n (item ∷ []) None r
Lends kind.dict (n ∷ []) r = ⊥
Lends kind.dict (n ∷ t ∷ behind) r =
    IsLentDict n t × (texts : Reading) × (texts.fault ≡ None) × IsOver kind.utf8 t [] None texts × IsOver kind.dict n [] (Some (checked_texts texts.seen)) r
Lends k (n ∷ behind) r = IsOver k n [] None r

-- They begin with the parts of a lawful array that shows this.
pub record LendsColumn (k : Kind) (nodes : List Node) (s : Seen) : Type 0 where
  pub parts : Reading
  pub lends : Lends k nodes parts
  pub lawful : parts.fault ≡ None
  pub shows : parts.seen ≡ s

-- The nodes are columns of these fields, one after the other, over the parts of lawful arrays that show these; these come behind them.
abbrev pub LendsColumns : List Node → List FieldShape → List Seen → List Node → Type 0
LendsColumns nodes [] [] rest = rest ≡ nodes
LendsColumns nodes (f ∷ fs) (s ∷ ss) rest = (between : List Node) × Begins most_levels nodes f between × LendsColumn (kind_of_field f) nodes s × LendsColumns between fs ss rest
LendsColumns nodes [] (s ∷ ss) rest = ⊥
LendsColumns nodes (f ∷ fs) [] rest = ⊥

-- ---- without rows

-- The node has no slots, and no buffers.
pub record IsWithoutSlots (n : Node) : Type 0 where
  pub long : n.length ≡ 0
  pub count : n.null_count ≡ 0
  pub validity : n.validity.now ≡ []
  pub first : n.first.now ≡ []
  pub second : n.second.now ≡ []

-- The nodes begin with those of a column of this kind, none of which has slots.
abbrev pub LendsField : Kind → List Node → Type 0
LendsField k [] = ⊥
LendsField (kind.lists w k) (n ∷ behind) = IsWithoutSlots n × LendsField k behind
LendsField kind.dict (n ∷ []) = ⊥
LendsField kind.dict (n ∷ t ∷ behind) = IsLentDict n t × IsWithoutSlots n × IsWithoutSlots t
LendsField k (n ∷ behind) = IsWithoutSlots n

-- The nodes are columns of these fields, one after the other, as they are lent, but without slots; these come behind them.
abbrev pub LendsFields : List Node → List FieldShape → List Node → Type 0
LendsFields nodes [] rest = rest ≡ nodes
LendsFields nodes (f ∷ fs) rest = (between : List Node) × Begins most_levels nodes f between × LendsField (kind_of_field f) nodes × LendsFields between fs rest

-- ---- node by node

-- What a node of a column of the kind holds: codes have 32 bits.
abbrev pub content_of_kind : Kind → Content
content_of_kind (kind.int t) = content.Int t
content_of_kind kind.boolean = content.Bool
content_of_kind (kind.texts w) = content.Texts w
content_of_kind (kind.lists w k) = content.Lists w
content_of_kind kind.dict = content.Codes int32

-- The same of its format alone.
abbrev pub format_of_kind : Kind → Content
format_of_kind kind.dict = content.Int int32
format_of_kind k = content_of_kind k

-- 1 where its indices have a dictionary.
abbrev pub dictionary_of_kind : Kind → ℕ
dictionary_of_kind kind.dict = 1
dictionary_of_kind k = 0

-- The node has this name, holds what the kind wants, and lies over these buffers.
pub record IsNodeOver (name : List ℕ) (nullable : Bool) (k : Kind) (length null_count : ℕ) (buffers : Buffers) (n : Node) : Type 0 where
  pub named : n.name.now ≡ name
  pub nulls : not (n.nullable == 0) ≡ nullable
  pub holds : content_of n ≡ Some (content_of_kind k)
  pub long : n.length ≡ length
  pub count : n.null_count ≡ null_count
  pub validity : n.validity.now ≡ bytes_at buffers 0
  pub first : n.first.now ≡ bytes_at buffers 1
  pub second : n.second.now ≡ bytes_at buffers 2

-- Behind the old ones come the nodes of a column of this field, over parts that are read so.
pub record ArePushed (f : FieldShape) (r : Reading) (old new : List Node) : Type 0 where
  pub own : List Node
  pub is : new ≡ old ++ own
  pub begins : (levels : ℕ) → depth (kind_of_field f) < levels → (rest : List Node) → Begins levels (own ++ rest) f rest
  pub lends : (rest : List Node) → Lends (kind_of_field f) (own ++ rest) r

-- The node is one of a dictionary's texts.
pub record IsDictionary (n : Node) : Type 0 where
  pub holds : content_of n ≡ Some (content_of_kind kind.utf8)
  pub unnamed : n.name.now ≡ []
  pub nullable : n.nullable ≢ 0

-- Behind the old ones comes the node of these texts.
pub record IsTextPushed (texts : Seen) (old new : List Node) : Type 0 where
  pub own : Node
  pub is : new ≡ old ++ own ∷ []
  pub dictionary : IsDictionary own
  pub parts : Reading
  pub lawful : parts.fault ≡ None
  pub shows : parts.seen ≡ texts
  pub over : IsOver kind.utf8 own [] None parts
