-- Columns whose text has numbers of at most 64 bits, as all columns in memory are: their slots, bytes and list items are counted by
-- 64 bits, and their numbers are of their type. Offsets of 64 bits are strings, so nothing is required of them.
use Rattle.std.specs.Prelude.{ℕ, ◌<◌, ◌≤◌, ◌^◌, List, [], ◌∷◌, length, sum_by, ⊤}
use Rattle.std.specs.List.{AllByRecursion}
use Rattle.arrays.specs.Prelude.{FieldShape, IsItemOf, Item, Narrow, OffsetWidth, Shape, Wide, dict, field, inner_items, kind_of_field, lists, texts}
use Rattle.arrays.specs.Kind as kind
use Rattle.arrays.specs.Shape.{int, boolean}
use Rattle.json_base.specs.JsonTable.{Table}
use Rattle.json_print.specs.ColumnData.{item_length}
use Rattle.json_print.specs.Dictionaries.{dictionaries_from}

-- What is required of an offset, and with it of all before it.
abbrev pub FitsOffset : OffsetWidth → ℕ → Type 0
FitsOffset Narrow n = n < 2 ^ 64
FitsOffset Wide n = ⊤

abbrev mutual
  pub FitsField : FieldShape → List Item → Type 0
  FitsField (field name nullable ty) items = (length items < 2 ^ 64) × FitsShape ty items

  pub FitsShape : Shape → List Item → Type 0
  FitsShape (int t) items = AllByRecursion (IsItemOf (kind.int t)) items
  FitsShape boolean items = ⊤
  FitsShape (texts w) items = FitsOffset w (sum_by item_length items)
  FitsShape (lists w f) items = FitsOffset w (sum_by item_length items) × FitsField f (inner_items items)
  FitsShape dict items = ⊤

-- Columns under their fields.
abbrev pub FitColumns : List FieldShape → List (List Item) → Type 0
FitColumns [] columns = ⊤
FitColumns (f ∷ fields) [] = ⊤
FitColumns (f ∷ fields) (items ∷ columns) = FitsField f items × FitColumns fields columns

pub record FitsTable (fields : List FieldShape) (t : Table) : Type 0 where
  pub rows : t.rows < 2 ^ 64
  pub columns : FitColumns fields t.columns

abbrev pub FitTables : List FieldShape → List Table → Type 0
FitTables fields tables = AllByRecursion (FitsTable fields) tables

-- Each dictionary has so few texts.
abbrev pub AreSmall : List (List (List ℕ)) → Type 0
AreSmall dictionaries = AllByRecursion (λ texts. length texts < 2 ^ 64) dictionaries

-- Each dictionary has so few texts, of so few bytes together.
abbrev pub FitDictionaries : List (List (List ℕ)) → Type 0
FitDictionaries dictionaries = AllByRecursion (λ texts. (length texts < 2 ^ 64) × (sum_by length texts < 2 ^ 64)) dictionaries

-- Each field has at most 8 lists in one another.
abbrev pub AreShallow : List FieldShape → Type 0
AreShallow fields = AllByRecursion (λ f. kind.depth (kind_of_field f) ≤ 8) fields

-- A file of tables under fields.
pub record FitsFile (fields : List FieldShape) (tables : List Table) : Type 0 where
  pub few : length fields < 2 ^ 64
  pub shallow : AreShallow fields
  pub present : FitTables fields tables
  pub coded : FitDictionaries (dictionaries_from 0 fields tables)
