-- Where a fault of a dictionary stands, none is read, and two readings of the dictionaries of one file are one.
use Rattle.std.proofs.Common.{◌≡◌, ◌∙◌, ℕ, ℤ, List, Option, Some, None, option_and_then, refl, sym, ap, subst, arith}
use Rattle.std.proofs.lemmas.Bool.{false≢true}
use Rattle.std.proofs.lemmas.Option.{slice_get_within}
use Rattle.arrays.specs.Prelude.{IntType, Item, Narrow}
use Rattle.json_base.specs.Data as data'
use Rattle.json_base.specs.Prelude.{Data, EachFault, IsObject, Items, ListFault, ReadsEach, as_array, as_object, count_of, get_item, item, member_of, no_items}
use Rattle.json_base.specs.declared.path.Member.TheVariants as member
use Rattle.json_base.specs.declared.path.Step.{Step}
use Rattle.json_base.specs.declared.fault.JsonFaultKind.{JsonFaultKind}
use Rattle.json_read.specs.Prelude.{CatalogFault, CodesFault, Coding, ColumnFault, EncodedFault, Encoding, EntriesFault, EntryFault, HasCatalog, HasCoding, HasDictionary, HasEncoding, HasEntries, HasId, IndicesFault, IsEncodedBy, IsEncoding, NamedFault, NamesEncoding, NoId, ReadsCodes, ReadsEntry, ReadsInt, ReadsPlain, ReadsTexts, TextsFault, WrapperFault, WrapsTexts, again, bad_bare, bad_codes, bad_encodings, bad_entries, bad_entry, bad_entry_id, bad_named, bad_numbers, bad_texts, bad_texts_count, bad_texts_list, bad_wrapped, bare, entry_at, id_of, indices, no_batch, no_code_slots, no_entries, no_entry_object, no_index, no_index_flag, no_texts_object, nowhere, only_item, past_dictionary, slot_of, texts, wrapped}
use Rattle.json_base.proofs.MemberLaws.{has_object, no_null, inner, no_object, not_unlike, no_member, under_law, get_item-within, slice_get_some, each_law, same_each}
use Rattle.json_read.proofs.ColumnLaws.{list_law, no_flag_law, valid_law, slot_read, no_slots_law, plain_law, same_plain}
use Rattle.json_read.proofs.SchemaLaws.{encoded_law, encoding_object, without_law, same_int}

-- ---- columns of indices

indices_law : (t : IntType) (entries : List Item) (n : ℕ) (d : Data) (items : List Item) (k : JsonFaultKind) (p : List Step) → (h : ReadsPlain (indices t entries) n d items)
    → IndicesFault t entries h.flags h.values k p → ⊥
indices_law t entries n d items k p h (no_index_flag i e found none) =
    let x = slot_read (indices t entries) n d items h i e found in
    no_flag_law (indices t entries) (get_item i h.values) x.0 (ap (λ o. slot_of (indices t entries) o (get_item i h.values)) (sym none) ∙ x.1)
indices_law t entries n d items k p h (no_index i e found valid none) =
    let x = slot_read (indices t entries) n d items h i e found in
    valid_law (indices t entries) (get_item i h.values) e x.0 (ap (λ o. slot_of (indices t entries) o (get_item i h.values)) (sym valid) ∙ x.1) found (ap (option_and_then (entry_at entries)) none)
indices_law t entries n d items k p h (past_dictionary i e z first reads found valid number none) =
    let x = slot_read (indices t entries) n d items h i e found in
    valid_law (indices t entries) (get_item i h.values) e x.0 (ap (λ o. slot_of (indices t entries) o (get_item i h.values)) (sym valid) ∙ x.1) found
    (ap (option_and_then (entry_at entries)) number ∙ none)

pub codes_law : (t : IntType) (entries : List Item) (n : ℕ) (d : Data) (items : List Item) (k : JsonFaultKind) (p : List Step) → ReadsCodes t entries n d items → CodesFault t entries n d k p → ⊥
codes_law t entries n d items k p h (no_code_slots k' p' f) = no_slots_law n d h.flags h.values _ _ h.given f
codes_law t entries n d items k p h (bad_codes flags values k' p' given f) =
    let a : flags ≡ h.flags = cc (given.validity, h.given.validity) in
    let b : values ≡ h.values = cc (given.listed, h.given.listed) in
    indices_law t entries n d items k' p' h (subst (λ x. IndicesFault t entries x h.values k' p') a (subst (λ y. IndicesFault t entries flags y k' p') b f))

-- ---- texts

texts_law : (d : Data) (items : List Item) (k : JsonFaultKind) (p : List Step) → ReadsTexts d items → TextsFault d k p → ⊥
texts_law d items k p h (no_texts_object k' p' u) = no_object count_of member.Count d h.n h.count (not_unlike as_object d _ _ u)
texts_law d items k p h (bad_texts_count k' p' f) = no_member count_of member.Count d h.n _ _ h.count f
texts_law d items k p h (bad_texts_list k' p' f) =
    let i = inner as_array (member_of member.Columns d) (item h.column no_items) h.columns in
    under_law member.Columns (ListFault 1) d i.0 _ _ i.1 (λ k p w. list_law 1 i.0 (item h.column no_items) k p i.2 refl w) f
texts_law d items k p h (bad_texts n column k' p' count columns w) =
    let a : n ≡ h.n = cc (count, h.count) in
    let b : column ≡ h.column = cc (columns, h.columns) in
    plain_law (texts Narrow) h.n h.column items k' p' h.reads (subst (λ x. ColumnFault (texts Narrow) x h.column k' p') a (subst (λ y. ColumnFault (texts Narrow) n y k' p') b w))

-- an object is no array
not_single : (d e : Data) → IsObject d → only_item d ≡ Some e → ⊥
not_single data'.null e h at = cc
not_single (data'.boolean b) e h at = cc
not_single (data'.number n) e h at = cc
not_single (data'.string s) e h at = cc
not_single (data'.array ds) e h at = absurd (false≢true h)
not_single (data'.object ms) e h at = cc

texts_object : (d : Data) (items : List Item) → ReadsTexts d items → IsObject d
texts_object d items h = has_object count_of member.Count d h.n h.count

wrapper_law : (d : Data) (items : List Item) (k : JsonFaultKind) (p : List Step) → WrapsTexts d items → WrapperFault d k p → ⊥
wrapper_law d items k p (bare r) (no_batch none single) = no_object count_of member.Count d r.n r.count none
wrapper_law d items k p (bare r) (bad_bare k' p' object w) = texts_law d items _ _ r w
wrapper_law d items k p (bare r) (bad_wrapped e k' p' single w) = not_single d e (texts_object d items r) single
wrapper_law d items k p (wrapped b at r) (no_batch none single) = cc (at, single)
wrapper_law d items k p (wrapped b at r) (bad_bare k' p' object w) = not_single d b object at
wrapper_law d items k p (wrapped b at r) (bad_wrapped e k' p' single w) =
    let same : e ≡ b = cc (single, at) in
    texts_law b items k' p' r (subst (λ x. TextsFault x k' p') same w)

entry_law : (d : Data) (items : List Item) (k : JsonFaultKind) (p : List Step) → ReadsEntry d items → EntryFault d k p → ⊥
entry_law d items k p h w = under_law member.Texts WrapperFault d h.wrapper k p h.at_wrapper (λ k p w. wrapper_law h.wrapper items k p h.reads w) w

-- ---- entries

id_law : (d : Data) (id : ℤ) (k : JsonFaultKind) (p : List Step) → HasId d id → NoId d k p → ⊥
id_law d id k p h (no_entry_object k' p' u) = no_object id_of member.Id d id h (not_unlike as_object d _ _ u)
id_law d id k p h (bad_entry_id k' p' f) = no_member id_of member.Id d id _ _ h f

entries_law : (d : Data) (entries : Items) (ids : List ℤ) (k : JsonFaultKind) (p : List Step) → HasEntries d entries ids → EntriesFault d k p → ⊥
entries_law d entries ids k p h (no_entries k' p' f) = no_member as_array member.Dictionaries d entries _ _ h.listed f
entries_law d entries ids k p h (bad_numbers es k' p' found w) =
    let same : es ≡ entries = cc (found, h.listed) in
    each_law HasId NoId entries ids k' p' h.numbered id_law (subst (λ x. EachFault NoId x k' p') same w)

named_law : (entries : Items) (ids : List ℤ) (id : ℤ) (items : List Item) (i : ℕ) (k : JsonFaultKind) (p : List Step) → HasDictionary entries ids id items → NamedFault entries ids i id k p → ⊥
named_law entries ids id items i k p h (nowhere none) = none h.i h.place.here
named_law entries ids id items i k p h (again j m below only at) =
    let first = h.place.only j (slice_get_within ids j id only.here) only.here in
    let second = h.place.only m (slice_get_within ids m id at) at in
    omega (arith, first, second, below)
named_law entries ids id items i k p h (bad_entry j e k' p' at found w) =
    let place : j ≡ h.i = h.place.only j (slice_get_within ids j id at) at in
    let same : e ≡ h.entry = cc (ap (λ x. get_item x entries) place, found, h.found) in
    entry_law h.entry items k' p' h.reads (subst (λ x. EntryFault x k' p') same w)

same_ids : (d : Data) (a b : Items) (x y : List ℤ) → a ≡ b → HasEntries d a x → HasEntries d b y → x ≡ y
same_ids d a b x y same h g = same_each HasId b x y (λ e p q r s. cc) (subst (λ c. ReadsEach HasId c x) same h.numbered) g.numbered

-- ---- the catalog

-- what the catalog says of an encoded field
named_coding : (d field : Data) (o : Option Coding) (e : Encoding) → HasCoding d field o → HasEncoding field (Some e)
    → (entries : Items) × (ids : List ℤ) × (items : List Item) × HasEntries d entries ids × HasDictionary entries ids e.id items
named_coding d field None e h g =
    let object = encoding_object field e g in
    absurd (without_law field object.0 h object.1 (no_null object.0 object.2))
named_coding d field (Some c) e h g =
    let object : h.encoding.0 ≡ g.0 = cc (h.encoding.1, g.1) in
    let id : h.id ≡ e.id = cc (ap (λ x. option_and_then id_of (member_of member.Id x)) object, h.encoding.2.id, g.2.id) in
    (h.entries, h.ids, c.texts, h.given, subst (λ x. HasDictionary h.entries h.ids x c.texts) id h.dictionary)

named_at : (d : Data) (catalog : List (Option Coding)) (i : ℕ) (e : Encoding) → HasCatalog d catalog → NamesEncoding d i e
    → (entries : Items) × (ids : List ℤ) × (items : List Item) × HasEntries d entries ids × HasDictionary entries ids e.id items
named_at d catalog i e h names =
    let same : names.fields ≡ h.fields = cc (names.listed, h.listed) in
    let found : get_item i h.fields ≡ Some names.field = sym (ap (get_item i) same) ∙ names.found in
    let c = slice_get_some catalog i (omega (arith, get_item-within h.fields i names.field found, h.each.len)) in
    named_coding d names.field c.0 e (h.each.each i names.field c.0 found c.1) names.encoding

coding_law : (d field : Data) (o : Option Coding) (k : JsonFaultKind) (p : List Step) → HasCoding d field o → EncodedFault field k p → ⊥
coding_law d field None k p h w = encoded_law field None k p h w
coding_law d field (Some c) k p h w = encoded_law field (Some (record { id = h.id; index = c.index })) k p h.encoding w

pub catalog_law : (d : Data) (catalog : List (Option Coding)) (k : JsonFaultKind) (p : List Step) → HasCatalog d catalog → CatalogFault d k p → ⊥
catalog_law d catalog k p h (bad_encodings fields k' p' listed w) =
    let same : fields ≡ h.fields = cc (listed, h.listed) in
    each_law (HasCoding d) EncodedFault h.fields catalog k' p' h.each (coding_law d) (subst (λ x. EachFault EncodedFault x k' p') same w)
catalog_law d catalog k p h (bad_entries i e k' p' names w) =
    let n = named_at d catalog i e h names in
    entries_law d n.0 n.1 _ _ n.3 w
catalog_law d catalog k p h (bad_named i e entries ids k' p' names given w) =
    let n = named_at d catalog i e h names in
    let same : entries ≡ n.0 = cc (given.listed, n.3.listed) in
    let numbers : ids ≡ n.1 = same_ids d entries n.0 ids n.1 same given n.3 in
    named_law n.0 n.1 e.id n.2 i k' p' n.4 (subst (λ x. NamedFault n.0 x i e.id k' p') numbers (subst (λ y. NamedFault y ids i e.id k' p') same w))

-- ---- two readings of one catalog are one

same_texts : (d : Data) (xs ys : List Item) → ReadsTexts d xs → ReadsTexts d ys → xs ≡ ys
same_texts d xs ys h g =
    let n : h.n ≡ g.n = cc (h.count, g.count) in
    let column : h.column ≡ g.column = cc (h.columns, g.columns) in
    same_plain (texts Narrow) g.n g.column xs ys (subst (λ m. ReadsPlain (texts Narrow) m g.column xs) n (subst (λ e. ReadsPlain (texts Narrow) h.n e xs) column h.reads)) g.reads

same_wrapper : (d : Data) (xs ys : List Item) → WrapsTexts d xs → WrapsTexts d ys → xs ≡ ys
same_wrapper d xs ys (bare r) (bare q) = same_texts d xs ys r q
same_wrapper d xs ys (bare r) (wrapped b at q) = absurd (not_single d b (texts_object d xs r) at)
same_wrapper d xs ys (wrapped b at r) (bare q) = absurd (not_single d b (texts_object d ys q) at)
same_wrapper d xs ys (wrapped b at r) (wrapped e at' q) =
    let same : b ≡ e = cc (at, at') in
    same_texts e xs ys (subst (λ x. ReadsTexts x xs) same r) q

same_entry : (d : Data) (xs ys : List Item) → ReadsEntry d xs → ReadsEntry d ys → xs ≡ ys
same_entry d xs ys h g =
    let wrapper : h.wrapper ≡ g.wrapper = cc (h.at_wrapper, g.at_wrapper) in
    same_wrapper g.wrapper xs ys (subst (λ x. WrapsTexts x xs) wrapper h.reads) g.reads

same_dictionary : (entries : Items) (ids : List ℤ) (id : ℤ) (xs ys : List Item) → HasDictionary entries ids id xs → HasDictionary entries ids id ys → xs ≡ ys
same_dictionary entries ids id xs ys h g =
    let place : h.i ≡ g.i = g.place.only h.i (slice_get_within ids h.i id h.place.here) h.place.here in
    let entry : h.entry ≡ g.entry = cc (ap (λ x. get_item x entries) place, h.found, g.found) in
    same_entry g.entry xs ys (subst (λ x. ReadsEntry x xs) entry h.reads) g.reads

coding_by : (c b : Coding) → c.index ≡ b.index → c.texts ≡ b.texts → c ≡ b
coding_by c b index items = ap (λ t. record { index = t; texts = c.texts }) index ∙ ap (λ xs. record { index = b.index; texts = xs }) items

same_coded : (d field : Data) (c b : Coding) → IsEncodedBy d field c → IsEncodedBy d field b → c ≡ b
same_coded d field c b h g =
    let object : h.encoding.0 ≡ g.encoding.0 = cc (h.encoding.1, g.encoding.1) in
    let encoding = subst (λ x. IsEncoding x (record { id = h.id; index = c.index })) object h.encoding.2 in
    let id : h.id ≡ g.id = cc (encoding.id, g.encoding.2.id) in
    let at_index : encoding.object ≡ g.encoding.2.object = cc (encoding.at_index, g.encoding.2.at_index) in
    let index = same_int g.encoding.2.object c.index b.index (subst (λ x. ReadsInt x c.index) at_index encoding.index) g.encoding.2.index in
    let entries : h.entries ≡ g.entries = cc (h.given.listed, g.given.listed) in
    let ids = same_ids d h.entries g.entries h.ids g.ids entries h.given g.given in
    coding_by c b index
    (same_dictionary g.entries g.ids g.id c.texts b.texts
    (subst (λ x. HasDictionary g.entries g.ids x c.texts) id (subst (λ x. HasDictionary g.entries x h.id c.texts) ids (subst (λ x. HasDictionary x h.ids h.id c.texts) entries h.dictionary)))
    g.dictionary)

-- a field isn't both encoded and not
one_way : (d field : Data) (c : Coding) → HasCoding d field None → IsEncodedBy d field c → ⊥
one_way d field c h g =
    let object = encoding_object field (record { id = g.id; index = c.index }) g.encoding in
    without_law field object.0 h object.1 (no_null object.0 object.2)

same_coding : (d field : Data) (o q : Option Coding) → HasCoding d field o → HasCoding d field q → o ≡ q
same_coding d field None None h g = refl
same_coding d field None (Some c) h g = absurd (one_way d field c h g)
same_coding d field (Some c) None h g = absurd (one_way d field c g h)
same_coding d field (Some c) (Some b) h g = ap Some (same_coded d field c b h g)

pub same_catalog : (d : Data) (catalog other : List (Option Coding)) → HasCatalog d catalog → HasCatalog d other → catalog ≡ other
same_catalog d catalog other h g =
    let fields : h.fields ≡ g.fields = cc (h.listed, g.listed) in
    same_each (HasCoding d) g.fields catalog other (same_coding d) (subst (λ x. ReadsEach (HasCoding d) x catalog) fields h.each) g.each
