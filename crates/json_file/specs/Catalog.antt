-- How columns are encoded, by the dictionaries of a file. (Arrow integration testing, "JSON test data format", DictionaryBatch)
use Rattle.std.specs.Prelude.{◌≡◌, ℤ, List, length, Option, Some, option_and_then}
use Rattle.json_read.specs.Prelude.{AreCodings, Coding, Data, Encoding, HasId, HasSome, Items, ReadsEach, as_array}
use Rattle.json_read.specs.PlaceParts as place
use Rattle.json_file.specs.Dictionary.{ids_in}
use Rattle.json_file.specs.declared.catalog.Dictionaries.{Dictionaries}

-- The places are those of the numbers of all entries.
abbrev pub HavePlaces : Dictionaries → Type 0
HavePlaces d = place.ArePlaces (ids_in d.entries.items) (length (ids_in d.entries.items)) d.places

-- The member is an array of entries, at least where a column is encoded, and columns that are encoded so are read so by them.
pub record AreCodedBy (found : Option Data) (encodings : List (Option Encoding)) (codings : List (Option Coding)) : Type 0 where
  pub entries : Items
  pub ids : List ℤ
  pub listed : HasSome encodings → option_and_then as_array found ≡ Some entries
  pub numbered : ReadsEach HasId entries ids
  pub read : AreCodings entries ids encodings (length encodings) codings
