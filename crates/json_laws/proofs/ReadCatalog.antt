-- The dictionaries of a document are those of its fields.
use Rattle.std.proofs.Common.{◌≡◌, ◌∙◌, ℕ, zero, suc, ◌+◌, ◌<◌, ◌≤◌, ◌^◌, ℤ, pos, List, [], ◌∷◌, length, Bool, true, false, ◌||◌, Option, Some, None, option_and_then, codes, refl, sym, ap, subst, arith}
use Rattle.std.specs.Prelude.{IsUtf8, slice_get}
use Rattle.std.specs.List.{AllByRecursion}
use Rattle.std.proofs.lemmas.List.{length-map}
use Rattle.std.proofs.lemmas.List.Sums.{sum_by-cons}
use Rattle.std.proofs.lemmas.Bool.{le-ltb, or_right}
use Rattle.arrays.specs.Prelude.{FieldShape, IsItemOf, Kind, Narrow, dict, field, int32, kind_of_field, most_slots, text, text_bytes, text_length}
use Rattle.arrays.specs.Kind as kind
use Rattle.arrays.specs.Shape as shape
use Rattle.arrays.specs.Shape.{int, boolean}
use Rattle.pool.specs.Texts.{byte_count}
use Rattle.json_base.specs.Prelude.{Data, Items, array, as_array, get_item, member, member_of, object}
use Rattle.json_base.specs.declared.path.Member.TheVariants as at_member
use Rattle.json_read.specs.Prelude.{Coding, HasCatalog, HasCoding, HasDictionary, HasEntries, HasId, ReadsEntry, ReadsPlain, bare, listed_fields}
use Rattle.json_read.specs.JsonColumn.{texts as texts_spelled}
use Rattle.json_print.specs.Prelude.{dictionary_data, entries_data, entry_data, field_data, fields_data, has_dictionary, is_encoded, last_members, schema_data, text_batch, text_column, text_items, with_field}
use Rattle.json_laws.proofs.ReadColumns.{text_column_read}
use Rattle.json_laws.proofs.ReadEach.{AreRead, each_read}
use Rattle.json_laws.proofs.ReadNumbers.{count_read, id_read}
use Rattle.json_laws.proofs.ReadSchema.{encoding_read}

-- ---- the ids of entries: the places of encoded fields

abbrev with_id : ℕ → FieldShape → List ℤ → List ℤ
with_id place (field name nullable (int t)) ids = ids
with_id place (field name nullable boolean) ids = ids
with_id place (field name nullable (shape.texts w)) ids = ids
with_id place (field name nullable (shape.lists w f)) ids = ids
with_id place (field name nullable dict) ids = pos place ∷ ids

abbrev pub ids_from : ℕ → List FieldShape → List ℤ
ids_from place [] = []
ids_from place (f ∷ fields) = with_id place f (ids_from (suc place) fields)

with_entry_read : (place : ℕ) → place < 2 ^ 63 → (f : FieldShape) (texts : List (List ℕ)) (others : Items) (ids : List ℤ) → AreRead HasId others ids → AreRead HasId (with_field place f texts others) (with_id place f ids)
with_entry_read place small (field name nullable (int t)) texts others ids h = h
with_entry_read place small (field name nullable boolean) texts others ids h = h
with_entry_read place small (field name nullable (shape.texts w)) texts others ids h = h
with_entry_read place small (field name nullable (shape.lists w f)) texts others ids h = h
with_entry_read place small (field name nullable dict) texts others ids h = (id_read place small, h)

pub ids_read : (place : ℕ) (dictionaries : List (List (List ℕ))) (fields : List FieldShape) → length dictionaries ≡ length fields → place + length fields ≤ 2 ^ 63
    → AreRead HasId (entries_data place dictionaries fields) (ids_from place fields)
ids_read place [] [] same few = tt
ids_read place [] (f ∷ fields) same few = absurd (omega arith)
ids_read place (texts ∷ dictionaries) [] same few = absurd (omega arith)
ids_read place (texts ∷ dictionaries) (f ∷ fields) same few =
    with_entry_read place (omega (arith, few)) f texts (entries_data (suc place) dictionaries fields) (ids_from (suc place) fields)
    (ids_read (suc place) dictionaries fields (omega (arith, same)) (omega (arith, few)))

-- they rise
above_head : (place : ℕ) (f : FieldShape) (ids : List ℤ) → ((i n : ℕ) → slice_get ids i ≡ Some (pos n) → suc place ≤ n) → (i n : ℕ) → slice_get (with_id place f ids) i ≡ Some (pos n) → place ≤ n
above_head place (field name nullable (int t)) ids h i n at = omega (arith, h i n at)
above_head place (field name nullable boolean) ids h i n at = omega (arith, h i n at)
above_head place (field name nullable (shape.texts w)) ids h i n at = omega (arith, h i n at)
above_head place (field name nullable (shape.lists w f)) ids h i n at = omega (arith, h i n at)
above_head place (field name nullable dict) ids h zero n at = let same : place ≡ n = cc in omega (arith, same)
above_head place (field name nullable dict) ids h (suc i) n at = omega (arith, h i n at)

above : (place : ℕ) (fields : List FieldShape) (i n : ℕ) → slice_get (ids_from place fields) i ≡ Some (pos n) → place ≤ n
above place [] i n at = absurd cc
above place (f ∷ fields) i n at = above_head place f (ids_from (suc place) fields) (above (suc place) fields) i n at

-- so each comes once
once_head : (place : ℕ) (f : FieldShape) (ids : List ℤ) → ((i n : ℕ) → slice_get ids i ≡ Some (pos n) → suc place ≤ n)
    → ((i j n : ℕ) → slice_get ids i ≡ Some (pos n) → slice_get ids j ≡ Some (pos n) → j ≡ i)
    → (i j n : ℕ) → slice_get (with_id place f ids) i ≡ Some (pos n) → slice_get (with_id place f ids) j ≡ Some (pos n) → j ≡ i
once_head place (field name nullable (int t)) ids h g i j n at again = g i j n at again
once_head place (field name nullable boolean) ids h g i j n at again = g i j n at again
once_head place (field name nullable (shape.texts w)) ids h g i j n at again = g i j n at again
once_head place (field name nullable (shape.lists w f)) ids h g i j n at again = g i j n at again
once_head place (field name nullable dict) ids h g zero zero n at again = refl
once_head place (field name nullable dict) ids h g zero (suc j) n at again =
    let same : place ≡ n = cc in
    absurd (omega (arith, same, h j n again))
once_head place (field name nullable dict) ids h g (suc i) zero n at again =
    let same : place ≡ n = cc in
    absurd (omega (arith, same, h i n at))
once_head place (field name nullable dict) ids h g (suc i) (suc j) n at again = ap suc (g i j n at again)

once : (place : ℕ) (fields : List FieldShape) (i j n : ℕ) → slice_get (ids_from place fields) i ≡ Some (pos n) → slice_get (ids_from place fields) j ≡ Some (pos n) → j ≡ i
once place [] i j n at again = absurd cc
once place (f ∷ fields) i j n at again = once_head place f (ids_from (suc place) fields) (above (suc place) fields) (once (suc place) fields) i j n at again

-- ---- the entry of a field

pub record HasEntry (entries : Items) (ids : List ℤ) (id : ℕ) (name : List ℕ) (texts : List (List ℕ)) : Type 0 where
  pub i : ℕ
  pub here : slice_get ids i ≡ Some (pos id)
  pub found : get_item i entries ≡ Some (entry_data id name texts)

behind : (place : ℕ) (f : FieldShape) (others : List (List ℕ)) (entries : Items) (ids : List ℤ) (id : ℕ) (name : List ℕ) (texts : List (List ℕ)) → HasEntry entries ids id name texts
    → HasEntry (with_field place f others entries) (with_id place f ids) id name texts
behind place (field n b (int t)) others entries ids id name texts h = h
behind place (field n b boolean) others entries ids id name texts h = h
behind place (field n b (shape.texts w)) others entries ids id name texts h = h
behind place (field n b (shape.lists w f)) others entries ids id name texts h = h
behind place (field n b dict) others entries ids id name texts h = record { i = suc h.i; here = h.here; found = h.found }

pub entry_found : (place : ℕ) (dictionaries : List (List (List ℕ))) (fields : List FieldShape) (j : ℕ) (name : List ℕ) (nullable : Bool) (texts : List (List ℕ))
    → slice_get fields j ≡ Some (field name nullable dict) → slice_get dictionaries j ≡ Some texts
    → HasEntry (entries_data place dictionaries fields) (ids_from place fields) (place + j) name texts
entry_found place [] fields j name nullable texts at_field at_texts = absurd cc
entry_found place (ts ∷ dictionaries) [] j name nullable texts at_field at_texts = absurd cc
entry_found place (ts ∷ dictionaries) (f ∷ fields) zero name nullable texts at_field at_texts =
    let same : f ≡ field name nullable dict = cc in
    let also : ts ≡ texts = cc in
    let here : HasEntry (with_field place (field name nullable dict) texts (entries_data (suc place) dictionaries fields)) (with_id place (field name nullable dict) (ids_from (suc place) fields)) place name texts =
    record { i = 0; here = refl; found = refl } in
    subst (λ id. HasEntry (entries_data place (ts ∷ dictionaries) (f ∷ fields)) (ids_from place (f ∷ fields)) id name texts) (omega arith)
    (subst (λ g. HasEntry (with_field place g ts (entries_data (suc place) dictionaries fields)) (with_id place g (ids_from (suc place) fields)) place name texts) (sym same)
    (subst (λ us. HasEntry (with_field place (field name nullable dict) us (entries_data (suc place) dictionaries fields)) (with_id place (field name nullable dict) (ids_from (suc place) fields)) place name texts) (sym also) here))
entry_found place (ts ∷ dictionaries) (f ∷ fields) (suc j) name nullable texts at_field at_texts =
    subst (λ id. HasEntry (entries_data place (ts ∷ dictionaries) (f ∷ fields)) (ids_from place (f ∷ fields)) id name texts) (omega arith)
    (behind place f ts (entries_data (suc place) dictionaries fields) (ids_from (suc place) fields) (suc place + j) name texts (entry_found (suc place) dictionaries fields j name nullable texts at_field at_texts))

-- ---- what an entry holds

texts_typed : (texts : List (List ℕ)) → AllByRecursion IsUtf8 texts → AllByRecursion (IsItemOf kind.utf8) (text_items texts)
texts_typed [] h = tt
texts_typed (t ∷ texts) h = (h.0, texts_typed texts h.1)

texts_bytes : (texts : List (List ℕ)) → text_bytes (text_items texts) ≡ byte_count texts
texts_bytes [] = refl
texts_bytes (t ∷ texts) = sum_by-cons text_length (text t) (text_items texts) ∙ ap (λ n. length t + n) (texts_bytes texts) ∙ sym (sum_by-cons length t texts)

pub entry_read : (id : ℕ) (name : List ℕ) (texts : List (List ℕ)) → length texts < 2 ^ 31 → byte_count texts < 2 ^ 31 → AllByRecursion IsUtf8 texts → ReadsEntry (entry_data id name texts) (text_items texts)
entry_read id name texts few short typed =
    let many : length (text_items texts) ≡ length texts = length-map texts text in
    record {
      wrapper = text_batch name texts;
      at_wrapper = refl;
      reads = bare record {
        n = length texts;
        count = count_read (length texts) few;
        column = text_column Narrow name (text_items texts);
        columns = refl;
        reads =
            subst (λ n. ReadsPlain (texts_spelled Narrow) n (text_column Narrow name (text_items texts)) (text_items texts)) many
            (text_column_read Narrow name (text_items texts) (omega (arith, many, few)) (texts_typed texts typed) (le-ltb most_slots (text_bytes (text_items texts)) (omega (arith, texts_bytes texts, short))));
      };
    }

-- ---- the catalog

abbrev pub coding_of : Kind → List (List ℕ) → Option Coding
coding_of (kind.int t) texts = None
coding_of kind.boolean texts = None
coding_of (kind.texts w) texts = None
coding_of (kind.lists w k) texts = None
coding_of kind.dict texts = Some (record { index = int32; texts = text_items texts })

abbrev pub catalog_of : List (List (List ℕ)) → List FieldShape → List (Option Coding)
catalog_of (texts ∷ dictionaries) (f ∷ fields) = coding_of (kind_of_field f) texts ∷ catalog_of dictionaries fields
catalog_of dictionaries fields = []

-- The document has the dictionary of the id.
pub record IsThere (d : Data) (id : ℕ) (texts : List (List ℕ)) : Type 0 where
  pub entries : Items
  pub ids : List ℤ
  pub given : HasEntries d entries ids
  pub dictionary : HasDictionary entries ids (pos id) (text_items texts)

abbrev pub AreThere : Data → ℕ → List (List (List ℕ)) → List FieldShape → Type 0
AreThere d place dictionaries fields =
    (j : ℕ) (name : List ℕ) (nullable : Bool) (texts : List (List ℕ)) → slice_get fields j ≡ Some (field name nullable dict) → slice_get dictionaries j ≡ Some texts → IsThere d (place + j) texts

there_behind : (d : Data) (place : ℕ) (ts : List (List ℕ)) (dictionaries : List (List (List ℕ))) (f : FieldShape) (fields : List FieldShape) → AreThere d place (ts ∷ dictionaries) (f ∷ fields)
    → AreThere d (suc place) dictionaries fields
there_behind d place ts dictionaries f fields h j name nullable texts at_field at_texts =
    subst (λ id. IsThere d id texts) (omega arith) (h (suc j) name nullable texts at_field at_texts)

field_coded : (d : Data) (place : ℕ) → place < 2 ^ 63 → (ts : List (List ℕ)) (dictionaries : List (List (List ℕ))) (f : FieldShape) (fields : List FieldShape)
    → AreThere d place (ts ∷ dictionaries) (f ∷ fields) → HasCoding d (field_data place f) (coding_of (kind_of_field f) ts)
field_coded d place small ts dictionaries (field name nullable (int t)) fields h = refl
field_coded d place small ts dictionaries (field name nullable boolean) fields h = refl
field_coded d place small ts dictionaries (field name nullable (shape.texts w)) fields h = refl
field_coded d place small ts dictionaries (field name nullable (shape.lists w f)) fields h = refl
field_coded d place small ts dictionaries (field name nullable dict) fields h =
    let there : IsThere d place ts = subst (λ id. IsThere d id ts) (omega arith) (h 0 name nullable ts refl refl) in
    record {
      id = pos place;
      encoding = (dictionary_data place, refl, encoding_read place small);
      entries = there.entries;
      ids = there.ids;
      given = there.given;
      dictionary = there.dictionary;
    }

fields_coded : (d : Data) (place : ℕ) (dictionaries : List (List (List ℕ))) (fields : List FieldShape) → length dictionaries ≡ length fields → place + length fields ≤ 2 ^ 63
    → AreThere d place dictionaries fields → AreRead (HasCoding d) (fields_data place fields) (catalog_of dictionaries fields)
fields_coded d place [] [] same few h = tt
fields_coded d place [] (f ∷ fields) same few h = absurd (omega arith)
fields_coded d place (ts ∷ dictionaries) [] same few h = absurd (omega arith)
fields_coded d place (ts ∷ dictionaries) (f ∷ fields) same few h = (
  field_coded d place (omega (arith, few)) ts dictionaries f fields h,
  fields_coded d (suc place) dictionaries fields (omega (arith, same)) (omega (arith, few)) (there_behind d place ts dictionaries f fields h),
)

pub catalog_read : (d : Data) (dictionaries : List (List (List ℕ))) (fields : List FieldShape) → listed_fields d ≡ Some (fields_data 0 fields) → length dictionaries ≡ length fields → length fields < 2 ^ 63
    → AreThere d 0 dictionaries fields → HasCatalog d (catalog_of dictionaries fields)
catalog_read d dictionaries fields listed same few h = record {
  fields = fields_data 0 fields;
  listed = listed;
  each = each_read (HasCoding d) (fields_data 0 fields) (catalog_of dictionaries fields) (fields_coded d 0 dictionaries fields same (omega (arith, few)) h);
}

-- ---- the dictionaries of a document

some_encoded : (fields : List FieldShape) (j : ℕ) (name : List ℕ) (nullable : Bool) → slice_get fields j ≡ Some (field name nullable dict) → has_dictionary fields ≡ true
some_encoded [] j name nullable at = absurd cc
some_encoded (f ∷ fields) zero name nullable at =
    let same : f ≡ field name nullable dict = cc in
    ap (λ g. is_encoded (kind_of_field g) || has_dictionary fields) same
some_encoded (f ∷ fields) (suc j) name nullable at = or_right (is_encoded (kind_of_field f)) (has_dictionary fields) (some_encoded fields j name nullable at)

abbrev pub with_batches : Items → Bool → List (List (List ℕ)) → List FieldShape → Data
with_batches batches b dictionaries fields = object (member (codes "batches") (array batches) (last_members b dictionaries fields))

listed : (batches : Items) (b : Bool) (dictionaries : List (List (List ℕ))) (fields : List FieldShape) → b ≡ true
    → option_and_then as_array (member_of at_member.Dictionaries (with_batches batches b dictionaries fields)) ≡ Some (entries_data 0 dictionaries fields)
listed batches true dictionaries fields h = refl
listed batches false dictionaries fields h = absurd cc

pub schema_at : (batches : Items) (b : Bool) (dictionaries : List (List (List ℕ))) (fields : List FieldShape)
    → member_of at_member.Schema (with_batches batches b dictionaries fields) ≡ Some (schema_data fields)
schema_at batches true dictionaries fields = refl
schema_at batches false dictionaries fields = refl

-- What is required of a dictionary.
abbrev pub IsGood : List (List ℕ) → Type 0
IsGood texts = (length texts < 2 ^ 31) × (byte_count texts < 2 ^ 31) × AllByRecursion IsUtf8 texts

good_at : (dictionaries : List (List (List ℕ))) → AllByRecursion IsGood dictionaries → (j : ℕ) (texts : List (List ℕ)) → slice_get dictionaries j ≡ Some texts → IsGood texts
good_at [] h j texts at = absurd cc
good_at (ts ∷ dictionaries) h zero texts at = let same : ts ≡ texts = cc in subst IsGood same h.0
good_at (ts ∷ dictionaries) h (suc j) texts at = good_at dictionaries h.1 j texts at

pub all_there : (batches : Items) (dictionaries : List (List (List ℕ))) (fields : List FieldShape) → length dictionaries ≡ length fields → length fields < 2 ^ 63
    → AllByRecursion IsGood dictionaries → AreThere (with_batches batches (has_dictionary fields) dictionaries fields) 0 dictionaries fields
all_there batches dictionaries fields same few good j name nullable texts at_field at_texts =
    let entries = entries_data 0 dictionaries fields in
    let ids = ids_from 0 fields in
    let e = entry_found 0 dictionaries fields j name nullable texts at_field at_texts in
    let g = good_at dictionaries good j texts at_texts in
    record {
      entries = entries;
      ids = ids;
      given = record {
        listed = listed batches (has_dictionary fields) dictionaries fields (some_encoded fields j name nullable at_field);
        numbered = each_read HasId entries ids (ids_read 0 dictionaries fields same (omega (arith, few)));
      };
      dictionary = record {
        i = e.i;
        place = record { here = e.here; only = λ k below at. once 0 fields e.i k (0 + j) e.here at };
        entry = entry_data (0 + j) name texts;
        found = e.found;
        reads = entry_read (0 + j) name texts g.0 g.1 g.2;
      };
    }
