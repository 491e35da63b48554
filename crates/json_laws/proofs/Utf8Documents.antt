-- The strings and names of a file's document are UTF-8.
use Rattle.std.proofs.Common.{◌≡◌, ℕ, zero, suc, ◌+◌, ℤ, pos, List, [], ◌∷◌, length, Bool, true, false, not, cond, filter, Some, codes, get_or, refl, subst, arith}
use Rattle.std.specs.Prelude.{IsUtf8, slice_get}
use Rattle.std.specs.List.{AllByRecursion}
use Rattle.std.specs.Str.{bytes_eq}
use Rattle.json.proofs.Printed.Utf8.{IsUtf8-are_ascii}
use Rattle.arrays.specs.Prelude.{FieldShape, IntType, IsItemOf, Item, Kind, Narrow, OffsetWidth, Shape, W16, W32, W64, W8, Wide, Width, dict, field, inner_items, is_null, kind_of_field, kind_of_shape, offset_type}
use Rattle.arrays.specs.Item as column
use Rattle.arrays.specs.Kind as kind
use Rattle.arrays.specs.Shape as shape
use Rattle.arrays.specs.Shape.{int, boolean}
use Rattle.pool.specs.Texts.{firsts, texts_of}
use Rattle.json_base.specs.Prelude.{Data, Items, Table}
use Rattle.json_print.specs.Prelude.{batch_data, batches_data, code_data, code_in, column_at, column_data, column_items, columns_data, dictionaries_from, dictionary_of, document, each, entries_data, entry_data, field_data, fields_data, flag_data, has_dictionary, int_data, int_type, item_length, last_members, list_column, list_name, named_members, number_data, offset_data, offsets_data, plain_column, schema_data, shaped_column, sized, text_column, text_data, text_items, text_name, truth_data, type_data, valid_data, with_field}
use Rattle.json_laws.specs.IsFile.{AreColumns, IsColumn, IsField, IsFile, IsNamed, IsTable}
use Rattle.json_print.proofs.Columns.{inner_typed, joined}
use Rattle.json_laws.proofs.Utf8.{AreNamed, AreTexts, IsText, signed_utf8}

-- ---- slots

each_text : (k : Kind) (value : Item → Data) → ((x : Item) → IsItemOf k x → IsText (value x)) → (items : List Item) → AllByRecursion (IsItemOf k) items → AreTexts (each value items)
each_text k value one [] h = tt
each_text k value one (x ∷ xs) h = (one x h.0, each_text k value one xs h.1)

flag_text : (b : Bool) → IsText (flag_data b)
flag_text true = tt
flag_text false = tt

flags_text : (items : List Item) → AreTexts (each valid_data items)
flags_text [] = tt
flags_text (x ∷ xs) = (flag_text (not (is_null x)), flags_text xs)

int_text : (w : Width) (z : ℤ) → IsText (int_data w z)
int_text W8 z = tt
int_text W16 z = tt
int_text W32 z = tt
int_text W64 z = signed_utf8 z

offset_text : (w : OffsetWidth) (n : ℕ) → IsText (offset_data w n)
offset_text w n = int_text (offset_type w).bits (pos n)

offsets_text : (w : OffsetWidth) (start : ℕ) (items : List Item) → AreTexts (offsets_data w start items)
offsets_text w start [] = (offset_text w start, tt)
offsets_text w start (x ∷ xs) = (offset_text w start, offsets_text w (start + item_length x) xs)

number_text : (t : IntType) (x : Item) → IsItemOf (kind.int t) x → IsText (number_data t x)
number_text t column.null h = int_text t.bits (pos 0)
number_text t (column.int z) h = int_text t.bits z
number_text t (column.boolean b) h = absurd h
number_text t (column.text bytes) h = absurd h
number_text t (column.list l) h = absurd h

truth_text : (x : Item) → IsItemOf kind.boolean x → IsText (truth_data x)
truth_text column.null h = tt
truth_text (column.int z) h = tt
truth_text (column.boolean b) h = flag_text b
truth_text (column.text bytes) h = tt
truth_text (column.list l) h = tt

text_text : (w : OffsetWidth) (x : Item) → IsItemOf (kind.texts w) x → IsText (text_data x)
text_text w column.null h = IsUtf8-are_ascii [] refl
text_text w (column.int z) h = absurd h
text_text w (column.boolean b) h = absurd h
text_text w (column.text bytes) h = h
text_text w (column.list l) h = absurd h

code_text : (code : List ℕ → ℕ) (x : Item) → IsItemOf kind.dict x → IsText (code_data code x)
code_text code column.null h = tt
code_text code (column.int z) h = tt
code_text code (column.boolean b) h = tt
code_text code (column.text bytes) h = tt
code_text code (column.list l) h = tt

-- ---- columns

sized_text : (n : ℕ) (name : List ℕ) → IsUtf8 name → AreNamed (sized n name)
sized_text n name h = (IsUtf8-are_ascii (codes "count") refl, tt, (IsUtf8-are_ascii (codes "name") refl, h, tt))

plain_text : (value : Item → Data) (name : List ℕ) (items : List Item) → IsUtf8 name → AreTexts (each value items) → IsText (plain_column value name items)
plain_text value name items named h =
    (IsUtf8-are_ascii (codes "DATA") refl, h, (IsUtf8-are_ascii (codes "VALIDITY") refl, flags_text items, sized_text (length items) name named))

text_column_text : (w : OffsetWidth) (name : List ℕ) (items : List Item) → IsUtf8 name → AllByRecursion (IsItemOf (kind.texts w)) items → IsText (text_column w name items)
text_column_text w name items named h = (
  IsUtf8-are_ascii (codes "DATA") refl,
  each_text (kind.texts w) text_data (text_text w) items h,
  (IsUtf8-are_ascii (codes "OFFSET") refl, offsets_text w 0 items, (IsUtf8-are_ascii (codes "VALIDITY") refl, flags_text items, sized_text (length items) name named)),
)

list_column_text : (w : OffsetWidth) (child : Data) (name : List ℕ) (items : List Item) → IsUtf8 name → IsText child → IsText (list_column w child name items)
list_column_text w child name items named h = (
  IsUtf8-are_ascii (codes "OFFSET") refl,
  offsets_text w 0 items,
  (IsUtf8-are_ascii (codes "VALIDITY") refl, flags_text items, (IsUtf8-are_ascii (codes "children") refl, (h, tt), sized_text (length items) name named)),
)

mutual
  column_text : (code : List ℕ → ℕ) (f : FieldShape) (items : List Item) → IsNamed f → AllByRecursion (IsItemOf (kind_of_field f)) items → IsText (column_data code f items)
  column_text code (field name nullable ty) items named h = shaped_text code ty name items named h

  shaped_text : (code : List ℕ → ℕ) (ty : Shape) (name : List ℕ) (items : List Item) → IsNamed (field name false ty) → AllByRecursion (IsItemOf (kind_of_shape ty)) items
      → IsText (shaped_column code ty name items)
  shaped_text code (int t) name items named h = plain_text (number_data t) name items named.0 (each_text (kind.int t) (number_data t) (number_text t) items h)
  shaped_text code boolean name items named h = plain_text truth_data name items named.0 (each_text kind.boolean truth_data truth_text items h)
  shaped_text code (shape.texts w) name items named h = text_column_text w name items named.0 h
  shaped_text code (shape.lists w f) name items named h =
      list_column_text w (column_data code f (inner_items items)) name items named.0 (column_text code f (inner_items items) named.1 (inner_typed w (kind_of_field f) items h))
  shaped_text code dict name items named h = plain_text (code_data code) name items named.0 (each_text kind.dict (code_data code) (code_text code) items h)

-- ---- batches

columns_text : (dictionaries : List (List (List ℕ))) (fields : List FieldShape) (rows : ℕ) (columns : List (List Item)) → AllByRecursion IsField fields → AreColumns fields rows columns
    → AreTexts (columns_data dictionaries fields columns)
columns_text [] fields rows columns lawful h = tt
columns_text (texts ∷ dictionaries) [] rows columns lawful h = tt
columns_text (texts ∷ dictionaries) (f ∷ fields) rows [] lawful h = tt
columns_text (texts ∷ dictionaries) (f ∷ fields) rows (items ∷ columns) lawful h =
    (column_text (code_in texts) f items lawful.0.named h.0.typed, columns_text dictionaries fields rows columns lawful.1 h.1)

batch_text : (dictionaries : List (List (List ℕ))) (fields : List FieldShape) (t : Table) → AllByRecursion IsField fields → IsTable fields t → IsText (batch_data dictionaries fields t)
batch_text dictionaries fields t lawful h =
    (IsUtf8-are_ascii (codes "columns") refl, columns_text dictionaries fields t.rows t.columns lawful h.columns, (IsUtf8-are_ascii (codes "count") refl, tt, tt))

batches_text : (dictionaries : List (List (List ℕ))) (fields : List FieldShape) (tables : List Table) → AllByRecursion IsField fields → AllByRecursion (IsTable fields) tables
    → AreTexts (batches_data dictionaries fields tables)
batches_text dictionaries fields [] lawful h = tt
batches_text dictionaries fields (t ∷ tables) lawful h = (batch_text dictionaries fields t lawful h.0, batches_text dictionaries fields tables lawful h.1)

-- ---- the texts of dictionaries

kept : (P : List ℕ → Type 0) (b : Bool) (t : List ℕ) (ts : List (List ℕ)) → P t → AllByRecursion P ts → AllByRecursion P (cond b (t ∷ ts) ts)
kept P true t ts h g = (h, g)
kept P false t ts h g = g

filtered : (P : List ℕ → Type 0) (p : List ℕ → Bool) (ts : List (List ℕ)) → AllByRecursion P ts → AllByRecursion P (filter p ts)
filtered P p [] h = tt
filtered P p (t ∷ ts) h = kept P (p t) t (filter p ts) h.0 (filtered P p ts h.1)

firsts_utf8 : (ts : List (List ℕ)) → AllByRecursion IsUtf8 ts → AllByRecursion IsUtf8 (firsts ts)
firsts_utf8 [] h = tt
firsts_utf8 (t ∷ ts) h = (h.0, filtered IsUtf8 (λ u. not (bytes_eq u t)) (firsts ts) (firsts_utf8 ts h.1))

texts_utf8 : (items : List Item) → AllByRecursion (IsItemOf kind.dict) items → AllByRecursion IsUtf8 (texts_of items)
texts_utf8 [] h = tt
texts_utf8 (column.null ∷ xs) h = texts_utf8 xs h.1
texts_utf8 (column.int z ∷ xs) h = texts_utf8 xs h.1
texts_utf8 (column.boolean b ∷ xs) h = texts_utf8 xs h.1
texts_utf8 (column.text bytes ∷ xs) h = (h.0, texts_utf8 xs h.1)
texts_utf8 (column.list l ∷ xs) h = texts_utf8 xs h.1

pub column_typed : (fields : List FieldShape) (rows : ℕ) (columns : List (List Item)) (i : ℕ) (f : FieldShape) → AreColumns fields rows columns → slice_get fields i ≡ Some f
    → IsColumn (kind_of_field f) rows (get_or columns i [])
column_typed [] rows columns i f h at = absurd cc
column_typed (g ∷ fields) rows [] i f h at = absurd h
column_typed (g ∷ fields) rows (items ∷ columns) zero f h at = let same : g ≡ f = cc in subst (λ x. IsColumn (kind_of_field x) rows items) same h.0
column_typed (g ∷ fields) rows (items ∷ columns) (suc i) f h at = column_typed fields rows columns i f h.1 at

-- The items of a field over all tables.
items_typed : (fields : List FieldShape) (tables : List Table) (i : ℕ) (f : FieldShape) → AllByRecursion (IsTable fields) tables → slice_get fields i ≡ Some f
    → AllByRecursion (IsItemOf (kind_of_field f)) (column_items i tables)
items_typed fields [] i f h at = tt
items_typed fields (t ∷ tables) i f h at =
    joined (IsItemOf (kind_of_field f)) (column_at i t) (column_items i tables) (column_typed fields t.rows t.columns i f h.0.columns at).typed (items_typed fields tables i f h.1 at)

dictionary_utf8 : (k : Kind) (items : List Item) → AllByRecursion (IsItemOf k) items → AllByRecursion IsUtf8 (dictionary_of k items)
dictionary_utf8 (kind.int t) items h = tt
dictionary_utf8 kind.boolean items h = tt
dictionary_utf8 (kind.texts w) items h = tt
dictionary_utf8 (kind.lists w k) items h = tt
dictionary_utf8 kind.dict items h = firsts_utf8 (texts_of items) (texts_utf8 items h)

dictionaries_from_utf8 : (place : ℕ) (fields : List FieldShape) (tables : List Table)
    → ((i : ℕ) (f : FieldShape) → slice_get fields i ≡ Some f → AllByRecursion (IsItemOf (kind_of_field f)) (column_items (place + i) tables))
    → AllByRecursion (AllByRecursion IsUtf8) (dictionaries_from place fields tables)
dictionaries_from_utf8 place [] tables h = tt
dictionaries_from_utf8 place (f ∷ fields) tables h =
    let k = kind_of_field f in (
      dictionary_utf8 k (column_items place tables) (subst (λ p. AllByRecursion (IsItemOf k) (column_items p tables)) (omega arith) (h 0 f refl)),
      dictionaries_from_utf8 (suc place) fields tables (λ i g at. subst (λ p. AllByRecursion (IsItemOf (kind_of_field g)) (column_items p tables)) (omega arith) (h (suc i) g at)),
    )

pub dictionaries_utf8 : (fields : List FieldShape) (tables : List Table) → AllByRecursion (IsTable fields) tables → AllByRecursion (AllByRecursion IsUtf8) (dictionaries_from 0 fields tables)
dictionaries_utf8 fields tables h =
    dictionaries_from_utf8 0 fields tables
    (λ i f at. subst (λ p. AllByRecursion (IsItemOf (kind_of_field f)) (column_items p tables)) (omega arith) (items_typed fields tables i f h at))

text_items_text : (texts : List (List ℕ)) → AllByRecursion IsUtf8 texts → AllByRecursion (IsItemOf kind.utf8) (text_items texts)
text_items_text [] h = tt
text_items_text (t ∷ texts) h = (h.0, text_items_text texts h.1)

entry_text : (id : ℕ) (name : List ℕ) (texts : List (List ℕ)) → IsUtf8 name → AllByRecursion IsUtf8 texts → IsText (entry_data id name texts)
entry_text id name texts named h = (
  IsUtf8-are_ascii (codes "data") refl,
  (IsUtf8-are_ascii (codes "columns") refl, (text_column_text Narrow name (text_items texts) named (text_items_text texts h), tt), (IsUtf8-are_ascii (codes "count") refl, tt, tt)),
  (IsUtf8-are_ascii (codes "id") refl, tt, tt),
)

with_field_text : (id : ℕ) (f : FieldShape) (texts : List (List ℕ)) (others : Items) → IsNamed f → AllByRecursion IsUtf8 texts → AreTexts others → AreTexts (with_field id f texts others)
with_field_text id (field name nullable (int t)) texts others named h g = g
with_field_text id (field name nullable boolean) texts others named h g = g
with_field_text id (field name nullable (shape.texts w)) texts others named h g = g
with_field_text id (field name nullable (shape.lists w f)) texts others named h g = g
with_field_text id (field name nullable dict) texts others named h g = (entry_text id name texts named.0 h, g)

entries_text : (place : ℕ) (dictionaries : List (List (List ℕ))) (fields : List FieldShape) → AllByRecursion IsField fields → AllByRecursion (AllByRecursion IsUtf8) dictionaries
    → AreTexts (entries_data place dictionaries fields)
entries_text place [] fields lawful h = tt
entries_text place (texts ∷ dictionaries) [] lawful h = tt
entries_text place (texts ∷ dictionaries) (f ∷ fields) lawful h =
    with_field_text place f texts (entries_data (suc place) dictionaries fields) lawful.0.named h.0 (entries_text (suc place) dictionaries fields lawful.1 h.1)

-- ---- schemas

int_type_text : (t : IntType) → IsText (int_type t)
int_type_text t = (
  IsUtf8-are_ascii (codes "bitWidth") refl,
  tt,
  (IsUtf8-are_ascii (codes "isSigned") refl, tt, (IsUtf8-are_ascii (codes "name") refl, IsUtf8-are_ascii (codes "int") refl, tt)),
)

text_name_utf8 : (w : OffsetWidth) → IsUtf8 (text_name w)
text_name_utf8 Narrow = IsUtf8-are_ascii (text_name Narrow) refl
text_name_utf8 Wide = IsUtf8-are_ascii (text_name Wide) refl

list_name_utf8 : (w : OffsetWidth) → IsUtf8 (list_name w)
list_name_utf8 Narrow = IsUtf8-are_ascii (list_name Narrow) refl
list_name_utf8 Wide = IsUtf8-are_ascii (list_name Wide) refl

type_text : (ty : Shape) → IsText (type_data ty)
type_text (int t) = int_type_text t
type_text boolean = (IsUtf8-are_ascii (codes "name") refl, IsUtf8-are_ascii (codes "bool") refl, tt)
type_text (shape.texts w) = (IsUtf8-are_ascii (codes "name") refl, text_name_utf8 w, tt)
type_text (shape.lists w f) = (IsUtf8-are_ascii (codes "name") refl, list_name_utf8 w, tt)
type_text dict = (IsUtf8-are_ascii (codes "name") refl, text_name_utf8 Narrow, tt)

named_text : (name : List ℕ) (nullable : Bool) (ty : Shape) → IsUtf8 name → AreNamed (named_members name nullable ty)
named_text name nullable ty h =
    (IsUtf8-are_ascii (codes "name") refl, h, (IsUtf8-are_ascii (codes "nullable") refl, tt, (IsUtf8-are_ascii (codes "type") refl, type_text ty, tt)))

children_name : IsUtf8 (codes "children")
children_name = IsUtf8-are_ascii (codes "children") refl

field_text : (id : ℕ) (f : FieldShape) → IsNamed f → IsText (field_data id f)
field_text id (field name nullable (int t)) h = (children_name, tt, named_text name nullable (int t) h.0)
field_text id (field name nullable boolean) h = (children_name, tt, named_text name nullable boolean h.0)
field_text id (field name nullable (shape.texts w)) h = (children_name, tt, named_text name nullable (shape.texts w) h.0)
field_text id (field name nullable (shape.lists w f)) h = (children_name, (field_text id f h.1, tt), named_text name nullable (shape.lists w f) h.0)
field_text id (field name nullable dict) h = (
  children_name,
  tt,
  (
    IsUtf8-are_ascii (codes "dictionary") refl,
    (
      IsUtf8-are_ascii (codes "id") refl,
      tt,
      (IsUtf8-are_ascii (codes "indexType") refl, int_type_text kind.int32, (IsUtf8-are_ascii (codes "isOrdered") refl, tt, tt)),
    ),
    named_text name nullable dict h.0,
  ),
)

fields_text : (place : ℕ) (fields : List FieldShape) → AllByRecursion IsField fields → AreTexts (fields_data place fields)
fields_text place [] h = tt
fields_text place (f ∷ fields) h = (field_text place f h.0.named, fields_text (suc place) fields h.1)

schema_text : (fields : List FieldShape) → AllByRecursion IsField fields → IsText (schema_data fields)
schema_text fields h = (IsUtf8-are_ascii (codes "fields") refl, fields_text 0 fields h, tt)

-- ---- documents

last_text : (b : Bool) (dictionaries : List (List (List ℕ))) (fields : List FieldShape) → AllByRecursion IsField fields → AllByRecursion (AllByRecursion IsUtf8) dictionaries
    → AreNamed (last_members b dictionaries fields)
last_text true dictionaries fields lawful h =
    (IsUtf8-are_ascii (codes "dictionaries") refl, entries_text 0 dictionaries fields lawful h, (IsUtf8-are_ascii (codes "schema") refl, schema_text fields lawful, tt))
last_text false dictionaries fields lawful h = (IsUtf8-are_ascii (codes "schema") refl, schema_text fields lawful, tt)

pub document_text : (fields : List FieldShape) (tables : List Table) → IsFile fields tables → IsText (document fields tables)
document_text fields tables h =
    let dictionaries = dictionaries_from 0 fields tables in
    (IsUtf8-are_ascii (codes "batches") refl, batches_text dictionaries fields tables h.lawful h.present, last_text (has_dictionary fields) dictionaries fields h.lawful (dictionaries_utf8 fields tables h.present))
