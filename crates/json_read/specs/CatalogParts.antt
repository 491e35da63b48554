-- What a reader of dictionaries has found.
use Rattle.std.specs.Prelude.{◌≡◌, ℕ, ℤ, pos, List, [], ◌∷◌, length, slice_get, Option, Some, None, option_and_then, unwrap_or}
use Rattle.std.specs.Arc.{arc_value}
use Rattle.std.specs.BTreeMap.{BTreeMap}
use Rattle.std.specs.declared.alloc.Global.{Global}
use Rattle.std.specs.declared.sync.Arc.{Arc}
use Rattle.arrays.specs.Prelude.{Seen}
use Rattle.json_base.specs.Prelude.{Data, IsFault, Items, ReadsEach, item, member_of, no_items}
use Rattle.json_read.specs.JsonDictionary.{ReadsEntry}
use Rattle.json_read.specs.JsonEncoding.{Encoding, HasEncoding, id_of}
use Rattle.json_read.specs.JsonCatalog as catalog
use Rattle.json_read.specs.JsonCatalog.{HasDictionary, HasId, listed_fields}
use Rattle.json_read.specs.declared.catalog.Coding.{Coding}
use Rattle.json_read.specs.declared.place.Place.{Place}
use Rattle.json_read.specs.PlaceParts.{ArePlaces}
use Rattle.json_base.specs.declared.path.Member.TheVariants as member
use Rattle.json_base.specs.declared.path.Step.TheVariants as step
use Rattle.json_base.specs.declared.fault.JsonFault.{JsonFault}
use Rattle.json_base.specs.declared.fault.JsonFaultKind.TheVariants.{NoDictionary}

abbrev pub coding_of : Coding → catalog.Coding
coding_of c = record { index = c.index; texts = (arc_value c.words).items }

-- The number of each entry.
abbrev pub ids_of : Items → List ℤ
ids_of no_items = []
ids_of (item d ds) = unwrap_or (option_and_then id_of (member_of member.Id d)) (pos 0) ∷ ids_of ds

-- The entries all have a number, and these are the places of the numbers.
pub record AreNumbered (entries : Items) (places : BTreeMap ℤ Place) : Type 0 where
  pub numbered : ReadsEach HasId entries (ids_of entries)
  pub placed : ArePlaces (ids_of entries) (length (ids_of entries)) places

-- The texts that are kept of an entry, where it was read, are its own.
abbrev pub AreWordsOf : Data → Option (Arc Seen Global) → Type 0
AreWordsOf d None = Unit {0}
AreWordsOf d (Some words) = ReadsEntry d (arc_value words).items

-- The fault of field i that no entry has its number.
abbrev pub IsNoDictionary : ℕ → JsonFault → Type 0
IsNoDictionary i fault = IsFault NoDictionary (step.Member member.Schema ∷ step.Member member.Fields ∷ step.Item i ∷ step.Member member.Dictionary ∷ step.Member member.Id ∷ []) fault

-- The columns of a document's fields are encoded so.
pub record HasEncodings (d : Data) (encodings : List (Option Encoding)) : Type 0 where
  pub fields : Items
  pub listed : listed_fields d ≡ Some fields
  pub each : ReadsEach HasEncoding fields encodings

-- Some column is encoded.
pub record HasSome (encodings : List (Option Encoding)) : Type 0 where
  pub i : ℕ
  pub encoding : Encoding
  pub at : slice_get encodings i ≡ Some (Some encoding)

-- A column that is encoded so is read so.
abbrev pub IsCoding : Items → List ℤ → Option Encoding → Option catalog.Coding → Type 0
IsCoding entries ids None None = Unit {0}
IsCoding entries ids (Some e) (Some c) = (c.index ≡ e.index) × HasDictionary entries ids e.id c.texts
IsCoding entries ids None (Some c) = ⊥
IsCoding entries ids (Some e) None = ⊥

abbrev pub IsCodingAt : Items → List ℤ → List (Option Encoding) → ℕ → Option catalog.Coding → Type 0
IsCodingAt entries ids encodings i c = (e : Option Encoding) × (slice_get encodings i ≡ Some e) × IsCoding entries ids e c

-- The first n columns.
pub record AreCodings (entries : Items) (ids : List ℤ) (encodings : List (Option Encoding)) (n : ℕ) (codings : List (Option catalog.Coding)) : Type 0 where
  pub len : length codings ≡ n
  pub each : (i : ℕ) (c : Option catalog.Coding) → slice_get codings i ≡ Some c → IsCodingAt entries ids encodings i c
