-- How the columns of a file's fields are encoded, and by which texts. (Arrow integration testing, "JSON test data format", Schema and DictionaryBatch)
use Rattle.std.specs.Prelude.{◌≡◌, ℕ, ◌<◌, ℤ, List, length, slice_get, Option, Some, None, option_and_then}
use Rattle.arrays.specs.Prelude.{IntType, Item}
use Rattle.json_base.specs.Prelude.{Data, Items, ReadsEach, as_array, get_item, member_of}
use Rattle.json_read.specs.JsonEncoding.{HasEncoding, id_of}
use Rattle.json_read.specs.JsonDictionary.{ReadsEntry}
use Rattle.json_base.specs.declared.path.Member.TheVariants as member

-- A column is indices of this type into these texts.
pub record Coding : Type 0 where
  pub index : IntType
  pub texts : List Item

-- The fields of a document.
abbrev pub listed_fields : Data → Option Items
listed_fields d = option_and_then as_array (option_and_then (member_of member.Fields) (member_of member.Schema d))

-- ---- the entries of a document

-- The entry has the number.
abbrev pub HasId : Data → ℤ → Type 0
HasId d id = option_and_then id_of (member_of member.Id d) ≡ Some id

-- They all have a number.
pub record HasEntries (d : Data) (entries : Items) (ids : List ℤ) : Type 0 where
  pub listed : option_and_then as_array (member_of member.Dictionaries d) ≡ Some entries
  pub numbered : ReadsEach HasId entries ids

-- The number stands at i, and nowhere else among the first n.
pub record StandsOnce (ids : List ℤ) (id : ℤ) (n i : ℕ) : Type 0 where
  pub here : slice_get ids i ≡ Some id
  pub only : (j : ℕ) → j < n → slice_get ids j ≡ Some id → j ≡ i

-- The one entry of the number holds the texts.
pub record HasDictionary (entries : Items) (ids : List ℤ) (id : ℤ) (texts : List Item) : Type 0 where
  pub i : ℕ
  pub place : StandsOnce ids id (length ids) i
  pub entry : Data
  pub found : get_item i entries ≡ Some entry
  pub reads : ReadsEntry entry texts

-- ---- the catalog

-- The field is encoded by a dictionary of the document.
pub record IsEncodedBy (d field : Data) (c : Coding) : Type 0 where
  pub id : ℤ
  pub encoding : HasEncoding field (Some (record { id = id; index = c.index }))
  pub entries : Items
  pub ids : List ℤ
  pub given : HasEntries d entries ids
  pub dictionary : HasDictionary entries ids id c.texts

-- How the column of a field is read: `dictionaries` is only looked at where one is encoded.
abbrev pub HasCoding : Data → Data → Option Coding → Type 0
HasCoding d field None = HasEncoding field None
HasCoding d field (Some c) = IsEncodedBy d field c

-- That of each field.
pub record HasCatalog (d : Data) (catalog : List (Option Coding)) : Type 0 where
  pub fields : Items
  pub listed : listed_fields d ≡ Some fields
  pub each : ReadsEach (HasCoding d) fields catalog
