-- The members of a document, as far as they are read. (Arrow integration testing, "JSON test data format")
use Rattle.std.specs.Prelude.{◌≡◌, ℕ, List, map, Option, Some, None, option_and_then}
use Rattle.arrays.specs.File.{File}
use Rattle.json_read.specs.Prelude.{AreUnder, Coding, Data, HasCatalog, HasSchema, Items, Members, ReadsBatch, ReadsEach, as_array, get_member, member_name, member_of, table_of}
use Rattle.json_read.specs.Members as member
use Rattle.json_stream.specs.Column.{StandsOn}
use Rattle.json_file.specs.declared.document.DocumentParts.{DocumentParts}
use Rattle.json_file.specs.declared.document.FileAt.{FileAt}
use Rattle.json_file.specs.declared.head.HeadPlaces.{HeadPlaces}

-- The value has its schema and its dictionaries from these places of the text, nested so deep.
pub record StandsAt (depth : ℕ) (text : List ℕ) (head : Data) (places : HeadPlaces) : Type 0 where
  pub schema : StandsOn depth text (member_of member.Schema head) places.schema
  pub dictionaries : StandsOn depth text (member_of member.Dictionaries head) places.dictionaries

-- A file whose schema and dictionaries the head has, and whose batches are the member.
pub record HoldsFile (head : Data) (found : Option Data) (f : File) : Type 0 where
  pub schema : HasSchema head f.fields
  pub catalog : List (Option Coding)
  pub coded : HasCatalog head catalog
  pub batches : Items
  pub listed : option_and_then as_array found ≡ Some batches
  pub tables : ReadsEach (ReadsBatch f.fields catalog) batches (map table_of f.batches)
  pub under : AreUnder f.fields f.batches

-- The file, if it is read: one of what stands at its places.
abbrev pub IsFileAt : ℕ → List ℕ → Option Data → Option FileAt → Type 0
IsFileAt depth text found None = Unit {0}
IsFileAt depth text found (Some f) = (head : Data) × StandsAt depth text head f.places × HoldsFile head found f.file

-- What is known of the members, nested so deep in the text.
pub record HoldsDocument (depth : ℕ) (text : List ℕ) (ms : Members) (p : DocumentParts) : Type 0 where
  pub schema : StandsOn depth text (get_member (member_name member.Schema) ms) p.places.schema
  pub dictionaries : StandsOn depth text (get_member (member_name member.Dictionaries) ms) p.places.dictionaries
  pub batches : StandsOn depth text (get_member (member_name member.Batches) ms) p.batches
  pub file : IsFileAt depth text (get_member (member_name member.Batches) ms) p.file
