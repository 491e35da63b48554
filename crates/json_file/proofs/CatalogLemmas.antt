-- The dictionaries that entries are, and the columns that are encoded by them.
use Rattle.std.proofs.Common.{◌≡◌, ◌∙◌, ℕ, ◌+◌, ◌<◌, ℤ, List, [], ◌∷◌, ◌++◌, length, get_or, map, Option, Some, None, option_map, option_and_then, Global, refl, sym, ap, subst, arith}
use Rattle.std.specs.List.{slice_get}
use Rattle.std.specs.Arc.{arc_value}
use Rattle.std.specs.declared.sync.Arc.{Arc}
use Rattle.std.proofs.lemmas.List.{length-map}
use Rattle.std.proofs.lemmas.Option.{slice_get-map, slice_get_read}
use Rattle.arrays.specs.Prelude.{Seen}
use Rattle.json_read.specs.Prelude.{AreCodings, AreWordsOf, Coding, Data, HasDictionary, HasId, HasSome, IsBefore, IsCoding, IsNumberPlace, ReadsEach, StandsOnce, array, as_array, no_items, parts_of, place_at}
use Rattle.json_read.proofs.JsonItems.{get_item_some}
use Rattle.json_read.specs.declared.encoding.Encoding as reader
use Rattle.json_read.specs.declared.place.Place.TheVariants.{At}
use Rattle.json_read.proofs.JsonCatalogs.{codings_pushed, encoded_at}
use Rattle.json_scan.specs.Spelling.{before}
use Rattle.json_stream.proofs.SlotLemmas.{items_len-before}
use Rattle.json_file.specs.Prelude.{AreCodedBy, AreEntries, HavePlaces, ids_in}
use Rattle.json_file.specs.declared.catalog.Dictionaries.{Dictionaries}
use Rattle.json_file.specs.declared.dictionary.DictionaryEntry.{DictionaryEntry}

-- ---- the numbers of entries

entry_of_id : (o : Option DictionaryEntry) (id : ℤ) → option_map (λ e. e.id) o ≡ Some id → (e : DictionaryEntry) × (o ≡ Some e) × (e.id ≡ id)
entry_of_id None id h = absurd cc
entry_of_id (Some e) id h = (e, refl, cc)

pub entries_numbered : (ds : List Data) (entries : List DictionaryEntry) → AreEntries ds entries → ReadsEach HasId (before ds no_items) (ids_in entries)
entries_numbered ds entries h = record {
  len = length-map entries _ ∙ (h.len ∙ sym (items_len-before ds));
  each = λ i d id found got.
      let e = entry_of_id (slice_get entries i) id (sym (slice_get-map (λ e. e.id) entries i) ∙ got) in
      subst (HasId d) e.2 (h.each i d e.0 found e.1).id;
}

-- ---- the texts of a number

-- the place of a number that is found once
pub placed_at : (d : Dictionaries) (id : ℤ) (i : ℕ) → HavePlaces d → At i ≡ place_at d.places id → StandsOnce (ids_in d.entries.items) id (length (ids_in d.entries.items)) i
placed_at d id i h is = subst (IsNumberPlace (ids_in d.entries.items) id (length (ids_in d.entries.items))) (sym is) (h id).0

pub placed_within : (d : Dictionaries) (id : ℤ) (i : ℕ) → HavePlaces d → At i ≡ place_at d.places id → i < length d.entries.items
placed_within d id i h is =
    let within : i < length (ids_in d.entries.items) = subst (IsBefore (length (ids_in d.entries.items))) (sym is) (h id).1 in
    omega (arith, length-map d.entries.items (λ e. e.id))

pub dictionary_of : (ds : List Data) (d : Dictionaries) (id : ℤ) (i : ℕ) (e : DictionaryEntry) (words : Arc Seen Global) → HavePlaces d → At i ≡ place_at d.places id → e ≡ get_or d.entries.items i e → e.words ≡ Some words
    → AreEntries ds d.entries.items → HasDictionary (before ds no_items) (ids_in d.entries.items) id (arc_value words).items
dictionary_of ds d id i e words placed is at at_words h =
    let entries = d.entries.items in
    let within = placed_within d id i placed is in
    let entry = get_item_some (before ds no_items) i (omega (arith, within, h.len, items_len-before ds)) in
    record {
      i = i;
      place = placed_at d id i placed is;
      entry = entry.0;
      found = entry.1;
      reads = subst (AreWordsOf entry.0) at_words (h.each i entry.0 e entry.1 (slice_get_read entries (length entries) i e refl within at)).words;
    }

-- ---- the columns

pub codings_more : (ds : List Data) (entries : List DictionaryEntry) (es : List (Option reader.Encoding)) (n : ℕ) (cs : List (Option Coding)) (c : Option Coding)
    → (AreEntries ds entries → AreCodings (before ds no_items) (ids_in entries) (map (option_map parts_of) es) n cs) → n < length es
    → (AreEntries ds entries → IsCoding (before ds no_items) (ids_in entries) (option_map parts_of (get_or es n None)) c)
    → AreEntries ds entries → AreCodings (before ds no_items) (ids_in entries) (map (option_map parts_of) es) (n + 1) (cs ++ c ∷ [])
codings_more ds entries es n cs c front within one h =
    codings_pushed (before ds no_items) (ids_in entries) (map (option_map parts_of) es) n cs c (front h) (option_map parts_of (get_or es n None), encoded_at es n (get_or es n None) within refl, one h)

pub coded_by : (ds : List Data) (entries : List DictionaryEntry) (found : Option Data) (es : List (Option reader.Encoding)) (cs : List (Option Coding)) → AreEntries ds entries
    → (HasSome (map (option_map parts_of) es) → found ≡ Some (array (before ds no_items))) → AreCodings (before ds no_items) (ids_in entries) (map (option_map parts_of) es) (length es) cs
    → AreCodedBy found (map (option_map parts_of) es) cs
coded_by ds entries found es cs h is codings = record {
  entries = before ds no_items;
  ids = ids_in entries;
  listed = λ some. ap (option_and_then as_array) (is some);
  numbered = entries_numbered ds entries h;
  read = subst (λ n. AreCodings (before ds no_items) (ids_in entries) (map (option_map parts_of) es) n cs) (sym (length-map es (option_map parts_of))) codings;
}
