-- The entries of a file's dictionaries, as far as they are read. (Arrow integration testing, "JSON test data format", DictionaryBatch)
use Rattle.std.specs.Prelude.{◌≡◌, ℤ, List, length, map, Option, Some, None, option_and_then}
use Rattle.std.specs.Arc.{arc_value}
use Rattle.std.specs.declared.alloc.Global.{Global}
use Rattle.std.specs.declared.sync.Arc.{Arc}
use Rattle.arrays.specs.Prelude.{Seen}
use Rattle.json_read.specs.Prelude.{AreWordsOf, Data, HasId, Members, ReadsFirst, WrapsTexts, get_member, id_of, member_name, no_items}
use Rattle.json_read.specs.Members as member
use Rattle.json_scan.specs.Spelling.{before}
use Rattle.json_file.specs.declared.dictionary.DictionaryEntry.{DictionaryEntry}
use Rattle.json_file.specs.declared.dictionary.EntryParts.{EntryParts}

-- The value is an entry of this number, and of these texts, if they are read.
pub record IsEntry (d : Data) (e : DictionaryEntry) : Type 0 where
  pub id : HasId d e.id
  pub words : AreWordsOf d e.words

-- The member is the number of a dictionary, if it is read.
abbrev pub IsId : Option Data → Option ℤ → Type 0
IsId found None = Unit {0}
IsId found (Some id) = option_and_then id_of found ≡ Some id

-- The member has these texts, if they are read.
abbrev pub AreWords : Option Data → Option (Arc Seen Global) → Type 0
AreWords found None = Unit {0}
AreWords found (Some words) = (d : Data) × (found ≡ Some d) × WrapsTexts d (arc_value words).items

-- What is known of the members.
pub record HoldsEntry (ms : Members) (p : EntryParts) : Type 0 where
  pub id : IsId (get_member (member_name member.Id) ms) p.id
  pub words : AreWords (get_member (member_name member.Texts) ms) p.words

-- An entry for each value.
abbrev pub AreEntries : List Data → List DictionaryEntry → Type 0
AreEntries ds entries = ReadsFirst IsEntry (before ds no_items) (length ds) entries

-- Their numbers.
abbrev pub ids_in : List DictionaryEntry → List ℤ
ids_in entries = map (λ e. e.id) entries
