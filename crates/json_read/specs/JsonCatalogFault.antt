-- What can be wrong with the dictionaries that the fields of a file name.
use Rattle.std.specs.Prelude.{◌≡◌, ◌≢◌, ℕ, ◌<◌, ℤ, List, [], ◌∷◌, slice_get, Option, Some, option_and_then}
use Rattle.json_base.specs.Prelude.{Data, EachFault, Items, MemberFault, Unlike, as_array, as_object, get_item, member_of}
use Rattle.json_read.specs.JsonEncoding.{Encoding, HasEncoding, id_of}
use Rattle.json_read.specs.JsonEncodingFault.{EncodedFault}
use Rattle.json_read.specs.JsonDictionaryFault.{EntryFault}
use Rattle.json_read.specs.JsonCatalog.{listed_fields, HasEntries, StandsOnce}
use Rattle.json_base.specs.declared.path.Member.TheVariants as member
use Rattle.json_base.specs.declared.path.Step.{Step}
use Rattle.json_base.specs.declared.path.Step.TheVariants as step
use Rattle.json_base.specs.declared.fault.JsonFaultKind.{JsonFaultKind}
use Rattle.json_base.specs.declared.fault.JsonFaultKind.TheVariants.{NoDictionary, DictionaryTwice}

-- Of an entry: it has no number.
pub data NoId (d : Data) : JsonFaultKind → List Step → Type 0 where
  no_entry_object : (kind : JsonFaultKind) (path : List Step) → Unlike as_object d kind path → NoId d kind path
  bad_entry_id : (kind : JsonFaultKind) (path : List Step) → MemberFault member.Id (Unlike id_of) d kind path → NoId d kind path

-- Of a document that is to have entries, each with a number.
pub data EntriesFault (d : Data) : JsonFaultKind → List Step → Type 0 where
  no_entries : (kind : JsonFaultKind) (path : List Step) → MemberFault member.Dictionaries (Unlike as_array) d kind path → EntriesFault d kind path
  bad_numbers : (entries : Items) (kind : JsonFaultKind) (path : List Step) → option_and_then as_array (member_of member.Dictionaries d) ≡ Some entries → EachFault NoId entries kind path
      → EntriesFault d kind (step.Member member.Dictionaries ∷ path)

-- Of the number that field i names: no entry has it, two have it, or the one that has it is wrong.
pub data NamedFault (entries : Items) (ids : List ℤ) (i : ℕ) (id : ℤ) : JsonFaultKind → List Step → Type 0 where
  nowhere : ((j : ℕ) → slice_get ids j ≢ Some id)
      → NamedFault entries ids i id NoDictionary (step.Member member.Schema ∷ step.Member member.Fields ∷ step.Item i ∷ step.Member member.Dictionary ∷ step.Member member.Id ∷ [])
  -- k is its second place
  again : (j k : ℕ) → j < k → StandsOnce ids id k j → slice_get ids k ≡ Some id
      → NamedFault entries ids i id DictionaryTwice (step.Member member.Dictionaries ∷ step.Item k ∷ step.Member member.Id ∷ [])
  bad_entry : (j : ℕ) (entry : Data) (kind : JsonFaultKind) (path : List Step) → slice_get ids j ≡ Some id → get_item j entries ≡ Some entry → EntryFault entry kind path
      → NamedFault entries ids i id kind (step.Member member.Dictionaries ∷ step.Item j ∷ path)

-- Of the numbers that fields name which are encoded so.
pub data CodingsFault (entries : Items) (ids : List ℤ) (encodings : List (Option Encoding)) : JsonFaultKind → List Step → Type 0 where
  bad_coding : (i : ℕ) (e : Encoding) (kind : JsonFaultKind) (path : List Step) → slice_get encodings i ≡ Some (Some e) → NamedFault entries ids i e.id kind path
      → CodingsFault entries ids encodings kind path

-- Field i is encoded so.
pub record NamesEncoding (d : Data) (i : ℕ) (e : Encoding) : Type 0 where
  pub fields : Items
  pub listed : listed_fields d ≡ Some fields
  pub field : Data
  pub found : get_item i fields ≡ Some field
  pub encoding : HasEncoding field (Some e)

-- Of a document. Its entries are only looked at where a field is encoded; those of other numbers than fields name aren't looked at further.
pub data CatalogFault (d : Data) : JsonFaultKind → List Step → Type 0 where
  bad_encodings : (fields : Items) (kind : JsonFaultKind) (path : List Step) → listed_fields d ≡ Some fields → EachFault EncodedFault fields kind path
      → CatalogFault d kind (step.Member member.Schema ∷ step.Member member.Fields ∷ path)
  bad_entries : (i : ℕ) (e : Encoding) (kind : JsonFaultKind) (path : List Step) → NamesEncoding d i e → EntriesFault d kind path → CatalogFault d kind path
  bad_named : (i : ℕ) (e : Encoding) (entries : Items) (ids : List ℤ) (kind : JsonFaultKind) (path : List Step) → NamesEncoding d i e → HasEntries d entries ids
      → NamedFault entries ids i e.id kind path → CatalogFault d kind path
