-- The text of a file reads back as the file.
use Rattle.std.proofs.Common.{◌≡◌, ◌∙◌, ℕ, zero, suc, ◌+◌, ◌<◌, ◌^◌, List, [], ◌∷◌, length, Option, Some, option_and_then, refl, sym, ap, ap₂, subst, arith}
use Rattle.std.specs.Prelude.{IsUtf8, slice_get}
use Rattle.std.specs.List.{AllByRecursion}
use Rattle.std.proofs.lemmas.Option.{get_or_from_slice_get, slice_get_within}
use Rattle.arrays.specs.Prelude.{FieldShape, File, Item, Kind, dict, field, int32, kind_of_field}
use Rattle.arrays.specs.Kind as kind
use Rattle.arrays.specs.Shape as shape
use Rattle.arrays.specs.Shape.{int, boolean}
use Rattle.pool.specs.Texts.{firsts, texts_of}
use Rattle.json_base.specs.Prelude.{Data, Table, as_array, get_item, items_len, member_of, tables_of}
use Rattle.json_base.specs.declared.path.Member.TheVariants as at_member
use Rattle.json_read.specs.Prelude.{Coding, Reads, ReadsBatch, ReadsCodes, ReadsFile, ReadsTop, file_of, listed_fields}
use Rattle.json_base.proofs.MemberLaws.{slice_get_some}
use Rattle.json_print.specs.Prelude.{batch_data, batches_data, code_data, code_in, column_at, column_data, column_items, columns_data, dictionaries_from, dictionary_of, document, fields_data, has_dictionary, plain_column, schema_data, text_items}
use Rattle.json_print.specs.Text as printed
use Rattle.json_print.proofs.Texts.{length-dictionaries_from}
use Rattle.json_laws.specs.IsFile.{AreColumns, AreShort, IsColumn, IsField, IsFile, IsTable}
use Rattle.json_laws.proofs.FileFits.{file_fits}
use Rattle.json_print.proofs.PlainDocuments.{document_plain, text_read_back}
use Rattle.json_laws.proofs.ReadCatalog.{IsGood, all_there, catalog_of, catalog_read, coding_of, schema_at}
use Rattle.json_laws.proofs.ReadCodes.{IsAmong, codes_read, texts_among}
use Rattle.json_laws.proofs.ReadColumns.{plain_column_read}
use Rattle.json_laws.proofs.ReadEach.{AreRead, each_read}
use Rattle.json_laws.proofs.ReadNumbers.{count_read}
use Rattle.json_laws.proofs.ReadSchema.{schema_read}
use Rattle.json_laws.proofs.Utf8.{text_utf8}
use Rattle.json_laws.proofs.Utf8Documents.{column_typed, dictionaries_utf8, document_text}

-- ---- what stands at a place

field_at : (fields : List FieldShape) (i : ℕ) (f : FieldShape) → AllByRecursion IsField fields → slice_get fields i ≡ Some f → IsField f
field_at [] i f h at = absurd cc
field_at (g ∷ fields) zero f h at = let same : g ≡ f = cc in subst IsField same h.0
field_at (g ∷ fields) (suc i) f h at = field_at fields i f h.1 at

short_at : (dictionaries : List (List (List ℕ))) (i : ℕ) (texts : List (List ℕ)) → AreShort dictionaries → slice_get dictionaries i ≡ Some texts → length texts < 2 ^ 31
short_at [] i texts h at = absurd cc
short_at (ts ∷ dictionaries) zero texts h at = let same : ts ≡ texts = cc in subst (λ us. length us < 2 ^ 31) same h.0.0
short_at (ts ∷ dictionaries) (suc i) texts h at = short_at dictionaries i texts h.1 at

dictionary_at : (place : ℕ) (fields : List FieldShape) (tables : List Table) (i : ℕ) (f : FieldShape) (texts : List (List ℕ)) → slice_get fields i ≡ Some f
    → slice_get (dictionaries_from place fields tables) i ≡ Some texts → texts ≡ dictionary_of (kind_of_field f) (column_items (place + i) tables)
dictionary_at place [] tables i f texts at_field at_texts = absurd cc
dictionary_at place (g ∷ fields) tables zero f texts at_field at_texts =
    let same : g ≡ f = cc in
    let here : dictionary_of (kind_of_field g) (column_items place tables) ≡ texts = cc in
    sym here ∙ ap (λ x. dictionary_of (kind_of_field x) (column_items place tables)) same ∙ ap (λ p. dictionary_of (kind_of_field f) (column_items p tables)) (omega arith)
dictionary_at place (g ∷ fields) tables (suc i) f texts at_field at_texts =
    dictionary_at (suc place) fields tables i f texts at_field at_texts ∙ ap (λ p. dictionary_of (kind_of_field f) (column_items p tables)) (omega arith)

coding_at : (dictionaries : List (List (List ℕ))) (fields : List FieldShape) (i : ℕ) (f : FieldShape) (texts : List (List ℕ)) (c : Option Coding) → slice_get fields i ≡ Some f
    → slice_get dictionaries i ≡ Some texts → slice_get (catalog_of dictionaries fields) i ≡ Some c → coding_of (kind_of_field f) texts ≡ c
coding_at [] fields i f texts c at_field at_texts at = absurd cc
coding_at (ts ∷ dictionaries) [] i f texts c at_field at_texts at = absurd cc
coding_at (ts ∷ dictionaries) (g ∷ fields) zero f texts c at_field at_texts at =
    let same : g ≡ f = cc in
    let also : ts ≡ texts = cc in
    let here : coding_of (kind_of_field g) ts ≡ c = cc in
    ap₂ (λ x us. coding_of (kind_of_field x) us) (sym same) (sym also) ∙ here
coding_at (ts ∷ dictionaries) (g ∷ fields) (suc i) f texts c at_field at_texts at = coding_at dictionaries fields i f texts c at_field at_texts at

column_data_at : (dictionaries : List (List (List ℕ))) (fields : List FieldShape) (columns : List (List Item)) (i : ℕ) (f : FieldShape) (texts : List (List ℕ)) (items : List Item) (d : Data)
    → slice_get fields i ≡ Some f → slice_get dictionaries i ≡ Some texts → slice_get columns i ≡ Some items → get_item i (columns_data dictionaries fields columns) ≡ Some d
    → column_data (code_in texts) f items ≡ d
column_data_at [] fields columns i f texts items d at_field at_texts at_items at = absurd cc
column_data_at (ts ∷ dictionaries) [] columns i f texts items d at_field at_texts at_items at = absurd cc
column_data_at (ts ∷ dictionaries) (g ∷ fields) [] i f texts items d at_field at_texts at_items at = absurd cc
column_data_at (ts ∷ dictionaries) (g ∷ fields) (xs ∷ columns) zero f texts items d at_field at_texts at_items at =
    let same : g ≡ f = cc in
    let also : ts ≡ texts = cc in
    let too : xs ≡ items = cc in
    let here : column_data (code_in ts) g xs ≡ d = cc in
    ap (λ us. column_data (code_in us) f items) (sym also) ∙ ap₂ (λ x ys. column_data (code_in ts) x ys) (sym same) (sym too) ∙ here
column_data_at (ts ∷ dictionaries) (g ∷ fields) (xs ∷ columns) (suc i) f texts items d at_field at_texts at_items at =
    column_data_at dictionaries fields columns i f texts items d at_field at_texts at_items at

-- ---- the column of a field

abbrev IsCodedBy : Kind → List (List ℕ) → List Item → Type 0
IsCodedBy k texts items = k ≡ kind.dict → AllByRecursion (IsAmong texts) items

top_read : (f : FieldShape) (texts : List (List ℕ)) (rows : ℕ) (items : List Item) → IsField f → rows < 2 ^ 31 → IsColumn (kind_of_field f) rows items → length texts < 2 ^ 31
    → IsCodedBy (kind_of_field f) texts items → ReadsTop (kind_of_field f) (coding_of (kind_of_field f) texts) rows (column_data (code_in texts) f items) items
top_read (field name nullable (int t)) texts rows items lawful few h short coded = plain_column_read (code_in texts) (field name nullable (int t)) rows items lawful refl few h
top_read (field name nullable boolean) texts rows items lawful few h short coded = plain_column_read (code_in texts) (field name nullable boolean) rows items lawful refl few h
top_read (field name nullable (shape.texts w)) texts rows items lawful few h short coded = plain_column_read (code_in texts) (field name nullable (shape.texts w)) rows items lawful refl few h
top_read (field name nullable (shape.lists w f)) texts rows items lawful few h short coded = plain_column_read (code_in texts) (field name nullable (shape.lists w f)) rows items lawful refl few h
top_read (field name nullable dict) texts rows items lawful few h short coded =
    subst (λ n. ReadsCodes int32 (text_items texts) n (plain_column (code_data (code_in texts)) name items) items) h.len
    (codes_read texts name items short (omega (arith, few, h.len)) h.typed (coded refl))

-- ---- a batch

many_columns : (fields : List FieldShape) (rows : ℕ) (columns : List (List Item)) → AreColumns fields rows columns → length columns ≡ length fields
many_columns [] rows [] h = refl
many_columns [] rows (items ∷ columns) h = absurd h
many_columns (f ∷ fields) rows [] h = absurd h
many_columns (f ∷ fields) rows (items ∷ columns) h = ap suc (many_columns fields rows columns h.1)

length-columns : (dictionaries : List (List (List ℕ))) (fields : List FieldShape) (columns : List (List Item)) → length dictionaries ≡ length fields → length columns ≡ length fields
    → items_len (columns_data dictionaries fields columns) ≡ length fields
length-columns [] [] columns same also = refl
length-columns [] (f ∷ fields) columns same also = absurd (omega arith)
length-columns (ts ∷ dictionaries) [] columns same also = absurd (omega arith)
length-columns (ts ∷ dictionaries) (f ∷ fields) [] same also = absurd (omega arith)
length-columns (ts ∷ dictionaries) (f ∷ fields) (xs ∷ columns) same also = ap suc (length-columns dictionaries fields columns (omega (arith, same)) (omega (arith, also)))

-- The texts of a dictionary-encoded column are in its dictionary.
column_coded : (fields : List FieldShape) (tables : List Table) (k : ℕ) (t : Table) (i : ℕ) (f : FieldShape) (texts : List (List ℕ)) (items : List Item) → slice_get tables k ≡ Some t
    → slice_get fields i ≡ Some f → slice_get (dictionaries_from 0 fields tables) i ≡ Some texts → slice_get t.columns i ≡ Some items → IsCodedBy (kind_of_field f) texts items
column_coded fields tables k t i f texts items at at_field at_texts at_items is =
    let whole : dictionary_of (kind_of_field f) (column_items (0 + i) tables) ≡ firsts (texts_of (column_items i tables)) =
    ap (λ x. dictionary_of x (column_items (0 + i) tables)) is ∙ ap (λ p. firsts (texts_of (column_items p tables))) (omega arith) in
    let same : texts ≡ firsts (texts_of (column_items i tables)) = dictionary_at 0 fields tables i f texts at_field at_texts ∙ whole in
    let here : column_at i t ≡ items = get_or_from_slice_get t.columns i items [] at_items in
    subst (λ us. AllByRecursion (IsAmong us) items) (sym same)
    (subst (λ xs. AllByRecursion (IsAmong (firsts (texts_of (column_items i tables)))) xs) here (texts_among i tables k t at))

batch_read : (fields : List FieldShape) (tables : List Table) (k : ℕ) (t : Table) → slice_get tables k ≡ Some t → AllByRecursion IsField fields → IsTable fields t
    → AreShort (dictionaries_from 0 fields tables)
    → ReadsBatch fields (catalog_of (dictionaries_from 0 fields tables) fields) (batch_data (dictionaries_from 0 fields tables) fields t) t
batch_read fields tables k t at lawful h short =
    let dictionaries = dictionaries_from 0 fields tables in
    let as_many = length-dictionaries_from 0 fields tables in
    let columns = many_columns fields t.rows t.columns h.columns in
    record {
      count = count_read t.rows h.few;
      found = columns_data dictionaries fields t.columns;
      listed = refl;
      whole = length-columns dictionaries fields t.columns as_many columns;
      columns = record {
        len = columns;
        each = λ i f c d items at_field at_coding at_data at_items.
            let texts = slice_get_some dictionaries i (omega (arith, as_many, slice_get_within fields i f at_field)) in
            let typed = subst (IsColumn (kind_of_field f) t.rows) (get_or_from_slice_get t.columns i items [] at_items) (column_typed fields t.rows t.columns i f h.columns at_field) in
            let read = top_read f texts.0 t.rows items (field_at fields i f lawful at_field) h.few typed (short_at dictionaries i texts.0 short texts.1)
            (column_coded fields tables k t i f texts.0 items at at_field texts.1 at_items) in
            subst (λ o. ReadsTop (kind_of_field f) o t.rows d items) (coding_at dictionaries fields i f texts.0 c at_field texts.1 at_coding)
            (subst (λ e. ReadsTop (kind_of_field f) (coding_of (kind_of_field f) texts.0) t.rows e items)
            (column_data_at dictionaries fields t.columns i f texts.0 items d at_field texts.1 at_items at_data) read);
      };
    }

-- The batches from a place on.
batches_read : (Reads : Data → Table → Type 0) (dictionaries : List (List (List ℕ))) (fields : List FieldShape) (tables : List Table)
    → ((k : ℕ) (t : Table) → slice_get tables k ≡ Some t → Reads (batch_data dictionaries fields t) t) → AreRead Reads (batches_data dictionaries fields tables) tables
batches_read Reads dictionaries fields [] h = tt
batches_read Reads dictionaries fields (t ∷ tables) h = (h 0 t refl, batches_read Reads dictionaries fields tables (λ k u at. h (suc k) u at))

-- ---- the document

table_at : (fields : List FieldShape) (tables : List Table) (k : ℕ) (t : Table) → AllByRecursion (IsTable fields) tables → slice_get tables k ≡ Some t → IsTable fields t
table_at fields [] k t h at = absurd cc
table_at fields (u ∷ tables) zero t h at = let same : u ≡ t = cc in subst (IsTable fields) same h.0
table_at fields (u ∷ tables) (suc k) t h at = table_at fields tables k t h.1 at

all_good : (dictionaries : List (List (List ℕ))) → AreShort dictionaries → AllByRecursion (AllByRecursion IsUtf8) dictionaries → AllByRecursion IsGood dictionaries
all_good [] short typed = tt
all_good (texts ∷ dictionaries) short typed = ((short.0.0, short.0.1, typed.0), all_good dictionaries short.1 typed.1)

listed : (fields : List FieldShape) (tables : List Table) → listed_fields (document fields tables) ≡ Some (fields_data 0 fields)
listed fields tables =
    let dictionaries = dictionaries_from 0 fields tables in
    ap (λ o. option_and_then as_array (option_and_then (member_of at_member.Fields) o)) (schema_at (batches_data dictionaries fields tables) (has_dictionary fields) dictionaries fields)

document_read : (fields : List FieldShape) (tables : List Table) → IsFile fields tables → AreShort (dictionaries_from 0 fields tables)
    → ReadsFile (document fields tables) (record { fields = fields; tables = tables })
document_read fields tables h short =
    let dictionaries = dictionaries_from 0 fields tables in
    let batches = batches_data dictionaries fields tables in
    let as_many = length-dictionaries_from 0 fields tables in
    let catalog = catalog_of dictionaries fields in
    let schema = schema_at batches (has_dictionary fields) dictionaries fields in
    record {
      schema = record { schema = schema_data fields; at_schema = schema; reads = schema_read fields h.few h.lawful };
      catalog = catalog;
      coded =
          catalog_read (document fields tables) dictionaries fields (listed fields tables) as_many h.few
          (all_there batches dictionaries fields as_many h.few (all_good dictionaries short (dictionaries_utf8 fields tables h.present)));
      batches = batches;
      at_batches = refl;
      tables =
          each_read (ReadsBatch fields catalog) batches tables
          (batches_read (ReadsBatch fields catalog) dictionaries fields tables (λ k t at. batch_read fields tables k t at h.lawful (table_at fields tables k t h.present at) short));
    }

pub text_is_utf8 : (f : File) → IsFile f.fields (tables_of f.batches) → AreShort (dictionaries_from 0 f.fields (tables_of f.batches)) → IsUtf8 (printed.text f)
unfolding printed.text
text_is_utf8 f h short =
    let d = document f.fields (tables_of f.batches) in
    text_utf8 d (document_plain f.fields (tables_of f.batches) (file_fits f.fields (tables_of f.batches) h short)) (document_text f.fields (tables_of f.batches) h)

pub text_reads : (f : File) → IsFile f.fields (tables_of f.batches) → AreShort (dictionaries_from 0 f.fields (tables_of f.batches)) → Reads (printed.text f) (file_of f)
text_reads f h short = record {
  text = text_is_utf8 f h short;
  document = document f.fields (tables_of f.batches);
  parsed = text_read_back f (file_fits f.fields (tables_of f.batches) h short);
  file = document_read f.fields (tables_of f.batches) h short;
}
