-- The documents of files that fit are plain values.
use Rattle.std.proofs.Common.{◌≡◌, ◌∙◌, ℕ, suc, ◌+◌, ◌<◌, ◌≤◌, ◌^◌, List, [], ◌∷◌, length, Bool, true, false, Some, codes, refl, sym, ap, subst, arith}
use Rattle.std.specs.Prelude.{sum_by}
use Rattle.std.proofs.lemmas.List.{length-map}
use Rattle.std.proofs.lemmas.List.Sums.{sum_by-cons}
use Rattle.arrays.specs.Prelude.{FieldShape, File, Narrow, dict, field, text}
use Rattle.arrays.specs.Shape as shape
use Rattle.arrays.specs.Shape.{int, boolean}
use Rattle.json_base.specs.Prelude.{Items, Table, depth, read, tables_of}
use Rattle.json_print.specs.Prelude.{AreBehind, ArePlain, ArePlainMembers, AreSmall, FitDictionaries, FitsFile, IsPlain, dictionaries_from, document, entries_data, entry_data, has_dictionary, item_length, last_members, text_batch, text_items, with_field}
use Rattle.json_print.specs.Text as printed
use Rattle.json_print.proofs.ReadBack.{read_back}
use Rattle.json_print.proofs.Depths.{document_depth}
use Rattle.json_print.proofs.PlainBatches.{batches_plain}
use Rattle.json_print.proofs.PlainColumns.{text_column_plain}
use Rattle.json_print.proofs.PlainSchemas.{schema_plain}

-- ---- dictionaries

small_all : (dictionaries : List (List (List ℕ))) → FitDictionaries dictionaries → AreSmall dictionaries
small_all [] h = tt
small_all (texts ∷ dictionaries) h = (h.0.0, small_all dictionaries h.1)

bytes_of_texts : (texts : List (List ℕ)) → sum_by item_length (text_items texts) ≡ sum_by length texts
bytes_of_texts [] = refl
bytes_of_texts (t ∷ texts) =
    sum_by-cons item_length (text t) (text_items texts) ∙ ap (λ n. length t + n) (bytes_of_texts texts) ∙ sym (sum_by-cons length t texts)

text_batch_plain : (name : List ℕ) (texts : List (List ℕ)) → length texts < 2 ^ 64 → sum_by length texts < 2 ^ 64 → IsPlain (text_batch name texts)
text_batch_plain name texts few short = (
  (text_column_plain Narrow name (text_items texts) (subst (λ n. n < 2 ^ 64) (sym (length-map texts text)) few) (subst (λ n. n < 2 ^ 64) (sym (bytes_of_texts texts)) short), tt),
  (refl, tt),
  (few, tt, tt),
)

entry_plain : (id : ℕ) (name : List ℕ) (texts : List (List ℕ)) → id < 2 ^ 64 → length texts < 2 ^ 64 → sum_by length texts < 2 ^ 64 → IsPlain (entry_data id name texts)
entry_plain id name texts small few short = (text_batch_plain name texts few short, (refl, tt), (small, tt, tt))

with_field_plain : (id : ℕ) (f : FieldShape) (texts : List (List ℕ)) (others : Items) → id < 2 ^ 64 → length texts < 2 ^ 64 → sum_by length texts < 2 ^ 64 → ArePlain others
    → ArePlain (with_field id f texts others)
with_field_plain id (field name nullable (int t)) texts others small few short plain = plain
with_field_plain id (field name nullable boolean) texts others small few short plain = plain
with_field_plain id (field name nullable (shape.texts w)) texts others small few short plain = plain
with_field_plain id (field name nullable (shape.lists w f)) texts others small few short plain = plain
with_field_plain id (field name nullable dict) texts others small few short plain = (entry_plain id name texts small few short, plain)

entries_plain : (place : ℕ) (dictionaries : List (List (List ℕ))) (fields : List FieldShape) → place + length fields ≤ 2 ^ 64 → FitDictionaries dictionaries
    → ArePlain (entries_data place dictionaries fields)
entries_plain place [] fields h fit = tt
entries_plain place (texts ∷ dictionaries) [] h fit = tt
entries_plain place (texts ∷ dictionaries) (f ∷ fields) h fit =
    with_field_plain place f texts (entries_data (suc place) dictionaries fields) (omega (arith, h)) fit.0.0 fit.0.1 (entries_plain (suc place) dictionaries fields (omega (arith, h)) fit.1)

-- ---- documents

last_plain : (b : Bool) (dictionaries : List (List (List ℕ))) (fields : List FieldShape) → length fields < 2 ^ 64 → FitDictionaries dictionaries
    → AreBehind (codes "batches") (last_members b dictionaries fields) × ArePlainMembers (last_members b dictionaries fields)
last_plain true dictionaries fields few fit = ((refl, (refl, tt)), (entries_plain 0 dictionaries fields (omega (arith, few)) fit, (refl, tt), (schema_plain fields few, tt, tt)))
last_plain false dictionaries fields few fit = ((refl, tt), (schema_plain fields few, tt, tt))

pub document_plain : (fields : List FieldShape) (tables : List Table) → FitsFile fields tables → IsPlain (document fields tables)
document_plain fields tables h =
    let dictionaries = dictionaries_from 0 fields tables in
    let last = last_plain (has_dictionary fields) dictionaries fields h.few h.coded in
    (batches_plain dictionaries fields tables (small_all dictionaries h.coded) h.present, last.0, last.1)

pub text_read_back : (f : File) → FitsFile f.fields (tables_of f.batches) → read (printed.text f) ≡ Some (document f.fields (tables_of f.batches))
unfolding printed.text
text_read_back f fit =
    let low : depth (document f.fields (tables_of f.batches)) ≤ 22 = document_depth f.fields (tables_of f.batches) fit.shallow in
    read_back (document f.fields (tables_of f.batches)) (document_plain f.fields (tables_of f.batches) fit) (omega (arith, low))
