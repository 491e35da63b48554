-- What the dictionaries are that fields name, and why their faults stand.
use Rattle.std.proofs.Common.{◌≡◌, ◌∙◌, ℕ, zero, suc, ◌+◌, ◌<◌, ◌≤◌, ℤ, pos, true, false, is_some, List, [], ◌∷◌, ◌++◌, length, get_or, slice_set, map, Option, Some, None, option_and_then, option_map, unwrap_or, refl, sym, ap, subst, arith, below_more, length-append}
use Rattle.std.specs.List.{slice_get}
use Rattle.std.proofs.lemmas.List.{length-map, length-set}
use Rattle.std.specs.BTreeMap.{BTreeMap, is_at}
use Rattle.std.specs.Map.{lookup}
use Rattle.std.specs.Ordering.{int_cmp}
use Rattle.std.specs.declared.alloc.Global.{Global}
use Rattle.std.specs.declared.sync.Arc.{Arc}
use Rattle.arrays.specs.Prelude.{Seen}
use Rattle.std.proofs.lemmas.Option.{slice_get_within, slice_get-get_or, slice_get-map}
use Rattle.json_base.specs.Prelude.{Data, EachFault, IsFault, IsObject, IsUnder, Items, MemberFault, ReadsEach, ReadsFirst, Tells, Unlike, Value, as_array, as_object, get_item, item, items_len, items_view, member_of, no_items}
use Rattle.json_base.proofs.Views.{items_len-items_view}
use Rattle.json_base.specs.declared.path.Member.TheVariants as member
use Rattle.json_base.specs.declared.path.Step.{Step}
use Rattle.json_base.specs.declared.path.Step.TheVariants as step
use Rattle.json_read.specs.Prelude.{AreCodings, AreNumbered, ArePlaces, AreWordsOf, CatalogFault, CodingsFault, Encoding, EntriesFault, EntryFault, HasCatalog, HasCoding, HasEncoding, HasEncodings, HasEntries, HasId, HasSome, IsBefore, IsCoding, IsCodingAt, IsNoDictionary, IsNumberPlace, NamedFault, NamesEncoding, NoId, again, bad_coding, bad_entries, bad_entry, bad_entry_id, bad_named, bad_numbers, id_of, ids_of, listed_fields, no_entries, no_entry_object, nowhere, parts_of, place_at}
use Rattle.json_read.specs.declared.encoding.Encoding as reader
use Rattle.json_read.specs.declared.place.Place.{Place}
use Rattle.json_read.specs.declared.place.Place.TheVariants.{Nowhere, Again}
use Rattle.json_base.specs.declared.fault.JsonFault.{JsonFault}
use Rattle.json_base.specs.declared.fault.JsonFaultKind.{JsonFaultKind}
use Rattle.json_base.specs.declared.fault.JsonFaultKind.TheVariants.{NoDictionary, DictionaryTwice}
use Rattle.json_read.specs.JsonCatalog as catalog
use Rattle.json_base.proofs.JsonTells.{tells_at, tells_as, tells_under, tells_wants}
use Rattle.json_base.proofs.MemberLaws.{has_object}
use Rattle.json_base.proofs.JsonItems.{slice_get-front, slice_get-last, get_item_some, first_pushed}

-- ---- numbers of entries

pub id_object : (d : Data) (f : JsonFault) → Tells (Unlike as_object d) f → Tells (NoId d) f
id_object d f t = tells_as (Unlike as_object d) (NoId d) f (λ k p h. no_entry_object k p h) t

pub id_bad : (d : Data) (f : JsonFault) → Tells (MemberFault member.Id (Unlike id_of) d) f → Tells (NoId d) f
id_bad d f t = tells_as (MemberFault member.Id (Unlike id_of) d) (NoId d) f (λ k p h. bad_entry_id k p h) t

pub ruleset id_faults = (id_object, id_bad, tells_wants)

-- ---- the entry of a number

-- the entry at the place of a number
pub entry_within : (vs : List Value) (ids : List ℤ) (id : ℤ) (i : ℕ) → ReadsEach HasId (items_view vs) ids → slice_get ids i ≡ Some id → i < length vs
entry_within vs ids id i h at = omega (arith, slice_get_within ids i id at, h.len, items_len-items_view vs)

pub entry_object : (entries : Items) (ids : List ℤ) (id : ℤ) (i : ℕ) (d : Data) → ReadsEach HasId entries ids → slice_get ids i ≡ Some id → get_item i entries ≡ Some d → IsObject d
entry_object entries ids id i d h at found = has_object id_of member.Id d id (h.each i d id found at)

-- the numbers that were read are those of the entries
ids_read : (entries : Items) (ids : List ℤ) → ReadsEach HasId entries ids → ids ≡ ids_of entries
ids_read no_items [] h = refl
ids_read no_items (x ∷ xs) h = absurd (omega (arith, h.len))
ids_read (item d ds) [] h = absurd (omega (arith, h.len))
ids_read (item d ds) (x ∷ xs) h =
    let first : HasId d x = h.each 0 d x refl refl in
    let rest : ReadsEach HasId ds xs = record { len = omega (arith, h.len); each = λ i. h.each (suc i) } in
    ap (λ y. y ∷ xs) (sym (ap (λ o. unwrap_or o (pos 0)) first)) ∙ ap (λ ys. unwrap_or (option_and_then id_of (member_of member.Id d)) (pos 0) ∷ ys) (ids_read ds xs rest)

pub entries_placed : (entries : Items) (ids : List ℤ) (places : BTreeMap ℤ Place) → ReadsEach HasId entries ids → ArePlaces ids (length ids) places → AreNumbered entries places
entries_placed entries ids places h placed = record {
  numbered = subst (ReadsEach HasId entries) (ids_read entries ids h) h;
  placed = subst (λ xs. ArePlaces xs (length xs) places) (ids_read entries ids h) placed;
}

-- the place that is found
pub placed_at : (entries : Items) (places : BTreeMap ℤ Place) (id : ℤ) (p : Place) → AreNumbered entries places → p ≡ place_at places id → IsNumberPlace (ids_of entries) id (length (ids_of entries)) p
placed_at entries places id p h is = subst (IsNumberPlace (ids_of entries) id (length (ids_of entries))) (sym is) (h.placed id).0

pub entries_read : (d : Data) (entries : Items) (ids : List ℤ) → option_and_then as_array (member_of member.Dictionaries d) ≡ Some entries → ReadsEach HasId entries ids
    → HasEntries d entries (ids_of entries)
entries_read d entries ids listed h = record { listed = listed; numbered = subst (ReadsEach HasId entries) (ids_read entries ids h) h }

pub none_placed : (places : BTreeMap ℤ Place) → places.entries ≡ [] → AreNumbered no_items places
none_placed places none = record {
  numbered = record { len = refl; each = λ i d x found at. cc };
  placed = λ id.
      subst (λ p. IsNumberPlace [] id 0 p × IsBefore 0 p) (sym (ap (λ es. unwrap_or (lookup (is_at (int_cmp id)) es) Nowhere) none)) (λ j below at. omega (arith, below), tt);
}

-- ---- the texts that are kept

set_each : {X : Type 0} (P : ℕ → X → Type 0) (xs : List X) (i : ℕ) (y : X) → ((j : ℕ) (x : X) → slice_get xs j ≡ Some x → P j x) → P i y → (j : ℕ) (x : X)
    → slice_get (slice_set xs i y) j ≡ Some x → P j x
set_each P [] i y h p j x at = h j x at
set_each P (z ∷ xs) zero y h p zero x at =
    let same : y ≡ x = cc at in
    subst (P 0) same p
set_each P (z ∷ xs) zero y h p (suc j) x at = h (suc j) x at
set_each P (z ∷ xs) (suc i) y h p zero x at = h 0 x at
set_each P (z ∷ xs) (suc i) y h p (suc j) x at = set_each (λ k. P (suc k)) xs i y (λ k. h (suc k)) p j x at

-- more is kept of the entry i
pub kept_set : (entries : Items) (kept : List (Option (Arc Seen Global))) (i : ℕ) (o : Option (Arc Seen Global)) (d : Data) → ReadsEach AreWordsOf entries kept → get_item i entries ≡ Some d
    → AreWordsOf d o → ReadsEach AreWordsOf entries (slice_set kept i o)
kept_set entries kept i o d h at is = record {
  len = length-set kept i o ∙ h.len;
  each = λ j e x found got.
      set_each (λ j x. (e : Data) → get_item j entries ≡ Some e → AreWordsOf e x) kept i o (λ j x got e found. h.each j e x found got)
      (λ e found.
      let same : d ≡ e = cc (at, found) in
      subst (λ y. AreWordsOf y o) same is)
      j x got e found;
}

-- what is kept of it
pub kept_at : (entries : Items) (kept : List (Option (Arc Seen Global))) (i : ℕ) (o : Option (Arc Seen Global)) (d : Data) → ReadsEach AreWordsOf entries kept → get_item i entries ≡ Some d
    → i < length kept → AreWordsOf d (get_or kept i o)
kept_at entries kept i o d h at within = h.each i d (get_or kept i o) at (slice_get-get_or kept i o within)

-- nothing of one more
pub kept_none : (entries : Items) (n : ℕ) (kept : List (Option (Arc Seen Global))) → ReadsFirst AreWordsOf entries n kept → n < items_len entries
    → ReadsFirst AreWordsOf entries (n + 1) (kept ++ None ∷ [])
kept_none entries n kept h within =
    let d = get_item_some entries n within in
    first_pushed AreWordsOf entries n kept d.0 None h d.1 tt

pub tells_nowhere : (entries : Items) (ids : List ℤ) (i : ℕ) (id : ℤ) (f : JsonFault) → IsNumberPlace ids id (length ids) Nowhere → IsNoDictionary i f → Tells (NamedFault entries ids i id) f
tells_nowhere entries ids i id f h is =
    tells_at (NamedFault entries ids i id) NoDictionary (step.Member member.Schema ∷ step.Member member.Fields ∷ step.Item i ∷ step.Member member.Dictionary ∷ step.Member member.Id ∷ []) f
    (nowhere (λ j at. h j (slice_get_within ids j id at) at)) is

pub tells_again : (entries : Items) (ids : List ℤ) (i : ℕ) (id : ℤ) (n k : ℕ) (f : JsonFault) → IsNumberPlace ids id n (Again k)
    → IsFault DictionaryTwice (step.Member member.Dictionaries ∷ step.Item k ∷ step.Member member.Id ∷ []) f → Tells (NamedFault entries ids i id) f
tells_again entries ids i id n k f h is =
    tells_at (NamedFault entries ids i id) DictionaryTwice (step.Member member.Dictionaries ∷ step.Item k ∷ step.Member member.Id ∷ []) f (again h.0 k h.1 h.2 h.3) is

pub tells_entry : (entries : Items) (ids : List ℤ) (i : ℕ) (id : ℤ) (j : ℕ) (d : Data) (f g h : JsonFault) → Tells (EntryFault d) f → slice_get ids j ≡ Some id → get_item j entries ≡ Some d
    → IsUnder (step.Item j) f g → IsUnder (step.Member member.Dictionaries) g h → Tells (NamedFault entries ids i id) h
tells_entry entries ids i id j d f g h t at found up up_again =
    let Inside : JsonFaultKind → List Step → Type 0 = λ k p. NamedFault entries ids i id k (step.Member member.Dictionaries ∷ p) in
    tells_under Inside (NamedFault entries ids i id) (step.Member member.Dictionaries) g h (λ k p w. w)
    (tells_under (EntryFault d) Inside (step.Item j) f g (λ k p w. bad_entry j d k p at found w) t up)
    up_again

pub ruleset named_faults = (tells_nowhere, tells_again, tells_wants)

-- ---- entries

pub entries_absent : (d : Data) (f : JsonFault) → Tells (MemberFault member.Dictionaries (Unlike as_array) d) f → Tells (EntriesFault d) f
entries_absent d f t = tells_as (MemberFault member.Dictionaries (Unlike as_array) d) (EntriesFault d) f (λ k p h. no_entries k p h) t

pub entries_bad : (d : Data) (entries : Items) (f g : JsonFault) → Tells (EachFault NoId entries) f → option_and_then as_array (member_of member.Dictionaries d) ≡ Some entries
    → IsUnder (step.Member member.Dictionaries) f g → Tells (EntriesFault d) g
entries_bad d entries f g t at up = tells_under (EachFault NoId entries) (EntriesFault d) (step.Member member.Dictionaries) f g (λ k p h. bad_numbers entries k p at h) t up

pub ruleset entries_faults = (entries_absent, entries_bad)

-- ---- columns that are encoded

pub encoded_at : (es : List (Option reader.Encoding)) (i : ℕ) (o : Option reader.Encoding) → i < length es → get_or es i None ≡ o
    → slice_get (map (option_map parts_of) es) i ≡ Some (option_map parts_of o)
encoded_at es i o within is = slice_get-map (option_map parts_of) es i ∙ ap (option_map (option_map parts_of)) (slice_get-get_or es i None within ∙ ap Some is)

is_there : (o : Option reader.Encoding) → true ≡ is_some o → (e : reader.Encoding) × (o ≡ Some e)
is_there None h = absurd cc
is_there (Some e) h = (e, refl)

isnt_there : (o : Option reader.Encoding) → false ≡ is_some o → o ≡ None
isnt_there None h = refl
isnt_there (Some e) h = absurd cc

pub some_at : (es : List (Option reader.Encoding)) (i : ℕ) → i < length es → true ≡ is_some (get_or es i None) → HasSome (map (option_map parts_of) es)
some_at es i within h =
    let e = is_there (get_or es i None) h in
    record { i = i; encoding = parts_of e.0; at = encoded_at es i (Some e.0) within e.1 }

pub none_at : (es : List (Option reader.Encoding)) (n : ℕ) → ((i : ℕ) → i < n → (e : Encoding) → slice_get (map (option_map parts_of) es) i ≡ Some (Some e) → ⊥) → n < length es
    → false ≡ is_some (get_or es n None) → (i : ℕ) → i < n + 1 → (e : Encoding) → slice_get (map (option_map parts_of) es) i ≡ Some (Some e) → ⊥
none_at es n before within h =
    below_more (λ i. (e : Encoding) → slice_get (map (option_map parts_of) es) i ≡ Some (Some e) → ⊥) n before
    (λ e at. cc (encoded_at es n None within (isnt_there (get_or es n None) h), at))

pub none_of : (es : List (Option reader.Encoding)) (n : ℕ) → ((i : ℕ) → i < n → (e : Encoding) → slice_get (map (option_map parts_of) es) i ≡ Some (Some e) → ⊥) → length es ≤ n
    → HasSome (map (option_map parts_of) es) → ⊥
none_of es n before all h =
    before h.i (omega (arith, slice_get_within (map (option_map parts_of) es) h.i (Some h.encoding) h.at, length-map es (option_map parts_of), all)) h.encoding h.at

-- ---- codings

pub tells_coding : (entries : Items) (ids : List ℤ) (encodings : List (Option Encoding)) (i : ℕ) (e : Encoding) (f : JsonFault) → Tells (NamedFault entries ids i e.id) f
    → slice_get encodings i ≡ Some (Some e) → Tells (CodingsFault entries ids encodings) f
tells_coding entries ids encodings i e f t at = tells_as (NamedFault entries ids i e.id) (CodingsFault entries ids encodings) f (λ k p h. bad_coding i e k p at h) t

pub codings_pushed : (entries : Items) (ids : List ℤ) (encodings : List (Option Encoding)) (n : ℕ) (cs : List (Option catalog.Coding)) (c : Option catalog.Coding) → AreCodings entries ids encodings n cs
    → IsCodingAt entries ids encodings n c → AreCodings entries ids encodings (n + 1) (cs ++ c ∷ [])
codings_pushed entries ids encodings n cs c h at = record {
  len = omega (arith, length-append cs (c ∷ []), h.len);
  each = λ i x found.
      below_more (λ k. (x : Option catalog.Coding) → slice_get (cs ++ c ∷ []) k ≡ Some x → IsCodingAt entries ids encodings k x) n
      (λ k within x found. h.each k x (sym (slice_get-front cs (c ∷ []) k (omega (arith, h.len))) ∙ found))
      (λ x found.
      let last : Some c ≡ Some x = sym (slice_get-last cs c) ∙ (ap (slice_get (cs ++ c ∷ [])) h.len ∙ found) in
      let same : c ≡ x = cc in
      subst (IsCodingAt entries ids encodings n) same at)
      i (omega (arith, slice_get_within (cs ++ c ∷ []) i x found, length-append cs (c ∷ []), h.len)) x found;
}

pub ruleset codings_faults = (tells_wants)

-- ---- the catalog

-- a column that is encoded is that of a field
named_at : (d : Data) (fields : Items) (encodings : List (Option Encoding)) (i : ℕ) (e : Encoding) → listed_fields d ≡ Some fields → ReadsEach HasEncoding fields encodings
    → slice_get encodings i ≡ Some (Some e) → NamesEncoding d i e
named_at d fields encodings i e listed h at =
    let field = get_item_some fields i (omega (arith, slice_get_within encodings i (Some e) at, h.len)) in
    record { fields = fields; listed = listed; field = field.0; found = field.1; encoding = h.each i field.0 (Some e) field.1 at }

pub catalog_entries : (d : Data) (encodings : List (Option Encoding)) (f : JsonFault) → Tells (EntriesFault d) f → HasSome encodings → HasEncodings d encodings → Tells (CatalogFault d) f
catalog_entries d encodings f t some h =
    tells_as (EntriesFault d) (CatalogFault d) f (λ k p w. bad_entries some.i some.encoding k p (named_at d h.fields encodings some.i some.encoding h.listed h.each some.at) w) t

catalog_coding : (d : Data) (fields : Items) (encodings : List (Option Encoding)) (entries : Items) (ids : List ℤ) (k : JsonFaultKind) (p : List Step) → (HasSome encodings → HasEntries d entries ids)
    → listed_fields d ≡ Some fields → ReadsEach HasEncoding fields encodings → CodingsFault entries ids encodings k p → CatalogFault d k p
catalog_coding d fields encodings entries ids k p given listed h (bad_coding i e k' p' at w) =
    bad_named i e entries ids k' p' (named_at d fields encodings i e listed h at) (given record { i = i; encoding = e; at = at }) w

pub catalog_codings : (d : Data) (encodings : List (Option Encoding)) (entries : Items) (ids : List ℤ) (f : JsonFault) → Tells (CodingsFault entries ids encodings) f
    → (HasSome encodings → HasEntries d entries ids) → HasEncodings d encodings → Tells (CatalogFault d) f
catalog_codings d encodings entries ids f t given h =
    tells_as (CodingsFault entries ids encodings) (CatalogFault d) f (λ k p w. catalog_coding d h.fields encodings entries ids k p given h.listed h.each w) t

coding_read : (d field : Data) (entries : Items) (ids : List ℤ) (e : Option Encoding) (c : Option catalog.Coding) → HasEncoding field e → ((x : Encoding) → e ≡ Some x → HasEntries d entries ids)
    → IsCoding entries ids e c → HasCoding d field c
coding_read d field entries ids None None h given is = h
coding_read d field entries ids (Some e) (Some c) h given is = record {
  id = e.id;
  encoding = subst (λ t. HasEncoding field (Some (record { id = e.id; index = t }))) (sym is.0) h;
  entries = entries;
  ids = ids;
  given = given e refl;
  dictionary = is.1;
}
coding_read d field entries ids None (Some c) h given is = absurd is
coding_read d field entries ids (Some e) None h given is = absurd is

pub catalog_read : (d : Data) (encodings : List (Option Encoding)) (entries : Items) (ids : List ℤ) (n : ℕ) (cs : List (Option catalog.Coding)) → HasEncodings d encodings
    → (HasSome encodings → HasEntries d entries ids) → n ≡ length encodings → AreCodings entries ids encodings n cs → HasCatalog d cs
catalog_read d encodings entries ids n cs h given len are = record {
  fields = h.fields;
  listed = h.listed;
  each = record {
    len = are.len ∙ (len ∙ h.each.len);
    each = λ i field c found at.
        let e = are.each i c at in
        coding_read d field entries ids e.0 c (h.each.each i field e.0 found e.1) (λ x is. given record { i = i; encoding = x; at = e.1 ∙ ap Some is }) e.2;
  };
}

pub ruleset catalog_faults = (catalog_entries, catalog_codings, tells_wants)
