-- The batches of a file. (Arrow integration testing, "JSON test data format", RecordBatch)
use Rattle.std.specs.Prelude.{◌≡◌, ℕ, List, length, slice_get, Option, Some, None, option_and_then}
use Rattle.arrays.specs.Kind.{int, boolean, texts, lists, dict}
use Rattle.arrays.specs.Prelude.{FieldShape, Item, Kind, Seen, kind_of_field}
use Rattle.json_base.specs.Prelude.{Data, Items, Table, as_array, count_of, get_item, items_len, member_of}
use Rattle.json_read.specs.JsonColumn.{ReadsPlain, numbers, truths, texts as texts_spelled}
use Rattle.json_read.specs.JsonList.{IsListColumn}
use Rattle.json_read.specs.JsonCodes.{ReadsCodes}
use Rattle.json_read.specs.JsonCatalog.{Coding}
use Rattle.json_base.specs.declared.path.Member.TheVariants as member

-- The column object of n items of the kind, which isn't encoded.
abbrev pub ReadsColumn : Kind → ℕ → Data → List Item → Type 0
ReadsColumn (int t) n d items = ReadsPlain (numbers t) n d items
ReadsColumn boolean n d items = ReadsPlain truths n d items
ReadsColumn (texts w) n d items = ReadsPlain (texts_spelled w) n d items
ReadsColumn (lists w k) n d items = IsListColumn (ReadsColumn k) w k n d items
ReadsColumn dict n d items = ⊥

-- An array that is the column of the kind.
pub record HoldsColumn (k : Kind) (rows : ℕ) (d : Data) (s : Seen) : Type 0 where
  pub kind : s.kind ≡ k
  pub len : length s.items ≡ rows
  pub reads : ReadsColumn k rows d s.items

-- The column object of a field: whether it is encoded, the catalog says.
abbrev pub ReadsTop : Kind → Option Coding → ℕ → Data → List Item → Type 0
ReadsTop k None n d items = ReadsColumn k n d items
ReadsTop k (Some c) n d items = ReadsCodes c.index c.texts n d items

-- An array that is the column of a field.
pub record HoldsTop (k : Kind) (c : Option Coding) (rows : ℕ) (d : Data) (s : Seen) : Type 0 where
  pub kind : s.kind ≡ k
  pub len : length s.items ≡ rows
  pub reads : ReadsTop k c rows d s.items

-- The catalog of the fields: it has one coding for each, and those that are encoded are dictionaries.
pub record IsCatalogOf (fields : List FieldShape) (catalog : List (Option Coding)) : Type 0 where
  pub len : length catalog ≡ length fields
  pub encoded : (i : ℕ) (f : FieldShape) (c : Coding) → slice_get fields i ≡ Some f → slice_get catalog i ≡ Some (Some c) → kind_of_field f ≡ dict

-- Arrays that are the columns of the first fields.
pub record HoldsColumns (fields : List FieldShape) (catalog : List (Option Coding)) (rows : ℕ) (ds : Items) (m : ℕ) (columns : List Seen) : Type 0 where
  pub len : length columns ≡ m
  pub each : (i : ℕ) (f : FieldShape) (c : Option Coding) (d : Data) (s : Seen) → slice_get fields i ≡ Some f → slice_get catalog i ≡ Some c → get_item i ds ≡ Some d
      → slice_get columns i ≡ Some s → HoldsTop (kind_of_field f) c rows d s

-- The columns of the first fields.
pub record ReadsColumns (fields : List FieldShape) (catalog : List (Option Coding)) (rows : ℕ) (ds : Items) (m : ℕ) (columns : List (List Item)) : Type 0 where
  pub len : length columns ≡ m
  pub each : (i : ℕ) (f : FieldShape) (c : Option Coding) (d : Data) (items : List Item) → slice_get fields i ≡ Some f → slice_get catalog i ≡ Some c → get_item i ds ≡ Some d
      → slice_get columns i ≡ Some items → ReadsTop (kind_of_field f) c rows d items

-- The batch object of a table under the fields.
pub record ReadsBatch (fields : List FieldShape) (catalog : List (Option Coding)) (d : Data) (t : Table) : Type 0 where
  pub count : option_and_then count_of (member_of member.Count d) ≡ Some t.rows
  pub found : Items
  pub listed : option_and_then as_array (member_of member.Columns d) ≡ Some found
  pub whole : items_len found ≡ length fields
  pub columns : ReadsColumns fields catalog t.rows found (length fields) t.columns
