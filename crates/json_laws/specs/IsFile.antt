-- What holds of every file in memory. (Arrow columnar format, "Physical memory layout")
use Rattle.std.specs.Prelude.{◌≡◌, ℕ, ◌<◌, ◌^◌, List, [], ◌∷◌, length, false, IsUtf8, ⊤}
use Rattle.std.specs.List.{AllByRecursion}
use Rattle.arrays.specs.Prelude.{Batch, FieldShape, IsItemOf, Item, Kind, Seen, Shape, dict, field, holds_dict, is_deep, is_too_big, kind_of_field, lists, texts}
use Rattle.arrays.specs.Shape.{int, boolean}
use Rattle.pool.specs.Texts.{byte_count}
use Rattle.json_base.specs.JsonTable.{Table, table_of}

-- ---- fields

-- The name is UTF-8, and so are those of the fields inside.
abbrev mutual
  pub IsNamed : FieldShape → Type 0
  IsNamed (field name nullable ty) = IsUtf8 name × IsNamedInside ty

  pub IsNamedInside : Shape → Type 0
  IsNamedInside (int t) = ⊤
  IsNamedInside boolean = ⊤
  IsNamedInside (texts w) = ⊤
  IsNamedInside (lists w f) = IsNamed f
  IsNamedInside dict = ⊤

-- A field has at most 8 lists in one another, and a dictionary at its top alone.
pub record IsField (f : FieldShape) : Type 0 where
  pub named : IsNamed f
  pub shallow : is_deep f ≡ false
  pub plain : holds_dict f ≡ false

-- ---- columns

-- A column of the kind: an item for each row.
pub record IsColumn (k : Kind) (rows : ℕ) (items : List Item) : Type 0 where
  pub len : length items ≡ rows
  pub typed : AllByRecursion (IsItemOf k) items
  pub counted : is_too_big k items ≡ false

-- A column of its own kind, in rows as many as its items.
abbrev pub IsShown : Seen → Type 0
IsShown c = IsColumn c.kind (length c.items) c.items

-- One for each field.
abbrev pub AreColumns : List FieldShape → ℕ → List (List Item) → Type 0
AreColumns [] rows [] = ⊤
AreColumns (f ∷ fields) rows (items ∷ columns) = IsColumn (kind_of_field f) rows items × AreColumns fields rows columns
AreColumns fields rows columns = ⊥

-- ---- files

pub record IsTable (fields : List FieldShape) (t : Table) : Type 0 where
  pub few : t.rows < 2 ^ 31
  pub columns : AreColumns fields t.rows t.columns

-- The table of a batch, under the batch's own fields.
abbrev pub IsBatch : Batch → Type 0
IsBatch b = IsTable b.fields (table_of b)

-- Tables under fields. A field's place is its dictionary's id, and has 64 signed bits.
pub record IsFile (fields : List FieldShape) (tables : List Table) : Type 0 where
  pub few : length fields < 2 ^ 63
  pub lawful : AllByRecursion IsField fields
  pub present : AllByRecursion (IsTable fields) tables

-- ---- dictionaries

-- 32-bit numbers count the texts of each dictionary, and their bytes.
abbrev pub AreShort : List (List (List ℕ)) → Type 0
AreShort dictionaries = AllByRecursion (λ texts. (length texts < 2 ^ 31) × (byte_count texts < 2 ^ 31)) dictionaries
