-- A table before its first batch.
use Rattle.std.proofs.Common.{◌≡◌, ◌∙◌, ℕ, ◌+◌, ◌<◌, List, [], ◌∷◌, ◌++◌, length, get_or, map, replicate, take, Bool, true, false, Option, None, Some, cond, ap, sym, refl, subst, arith}
use Rattle.std.specs.Arc.{arc_value}
use Rattle.std.specs.List.{AllZip, enumerate_from}
use Rattle.std.specs.declared.alloc.Global.{Global}
use Rattle.std.specs.declared.sync.Arc.{Arc}
use Rattle.std.specs.declared.vec.Vec.{Vec}
use Rattle.std.proofs.lemmas.List.{length-map, map-append, take_all, take_more}
use Rattle.arrays.specs.Prelude.{Batch, Field, FieldShape, Seen, Table, column, field_of, fields_of, kind_of_field, rows_of, shown, text}
use Rattle.arrays.specs.Kind as kind
use Rattle.answers.specs.Prelude.{AreStats, ColumnStats}
use Rattle.table.specs.Prelude.{ArePools, Contents, History, IsConsistent, IsLegal, LawfulTable, batches_of, book_of, book_rows, dictionaries_in, dictionaries_of, dictionary_in, history_from, is_text_field, pieces_in, rows_of_batches, show, stored_field, stored_fields, texts_in}
use Rattle.compaction.specs.Statistics.{AreStatsOf}
use Rattle.table.specs.declared.storage.Storage.{Storage}
use Rattle.answers.proofs.ColumnsLemmas.{all_zip-push}

-- ---- no texts

pub none_if : (b : Bool) → cond {A = List (List ℕ)} b [] [] ≡ []
none_if true = refl
none_if false = refl

no_texts-from : (n : ℕ) (fields : List FieldShape) → replicate (length fields) [] ≡ map (texts_in []) (enumerate_from n fields)
no_texts-from n [] = refl
no_texts-from n (f ∷ fields) =
    ap (λ t. t ∷ replicate (length fields) []) (sym (none_if (is_text_field f))) ∙ ap (λ l. texts_in [] (n, f) ∷ l) (no_texts-from (n + 1) fields)

-- pools without texts have those of a table without rows
pub no_texts-are : (fields : List FieldShape) (count : ℕ) → count ≡ length fields → replicate count [] ≡ map (texts_in []) (enumerate_from 0 fields)
no_texts-are fields count same = ap (λ n. replicate n []) same ∙ no_texts-from 0 fields

entry_if : (b test : Bool) → test ≡ b
    → cond test (Some (shown kind.utf8 (map text (cond test [] [])))) None ≡ cond b (Some (shown kind.utf8 [])) None
entry_if true true is = refl
entry_if true false is = absurd cc
entry_if false true is = absurd cc
entry_if false false is = refl

-- ---- one field more

pub fields-more : (fields : List Field) (i : ℕ) (f : Field) → i < length fields → f ≡ get_or fields i f → fields_of (take (i + 1) fields) ≡ fields_of (take i fields) ++ field_of f ∷ []
fields-more fields i f below is =
    ap fields_of (take_more fields i f below ∙ ap (λ x. take i fields ++ x ∷ []) (sym is)) ∙ map-append field_of (take i fields) (f ∷ [])

pub enumerate_from-push : (n : ℕ) (fields : List FieldShape) (f : FieldShape) → enumerate_from n (fields ++ f ∷ []) ≡ enumerate_from n fields ++ (n + length fields, f) ∷ []
enumerate_from-push n [] f = ap (λ m. (m, f) ∷ []) (omega arith)
enumerate_from-push n (x ∷ fields) f =
    ap (λ xs. (n, x) ∷ xs) (enumerate_from-push (n + 1) fields f)
    ∙ ap (λ m. (n, x) ∷ (enumerate_from (n + 1) fields ++ (m, f) ∷ [])) (omega arith)

pub stats-more : (fields more : List FieldShape) (f : FieldShape) (stats new : List ColumnStats) (s : ColumnStats) → more ≡ fields ++ f ∷ [] → new ≡ stats ++ s ∷ []
    → AreStatsOf fields [] stats → AreStats s (kind_of_field f) [] → AreStatsOf more [] new
stats-more fields more f stats new s longer pushed are one =
    let R : ℕ × FieldShape → ColumnStats → Type 0 = λ e q. AreStats q (kind_of_field e.1) (column [] e.0) in
    subst (AllZip R (enumerate_from 0 more)) (sym pushed)
    (subst (λ es. AllZip R es (stats ++ s ∷ [])) (sym (ap (enumerate_from 0) longer ∙ enumerate_from-push 0 fields f))
    (all_zip-push R (enumerate_from 0 fields) stats (0 + length fields, f) s are one))

pub entries-more : (fields more : List FieldShape) (f : FieldShape) (old new : List (Option Seen)) (o : Option Seen) (b : Bool) → more ≡ fields ++ f ∷ [] → new ≡ old ++ o ∷ []
    → old ≡ dictionaries_of fields [] → is_text_field f ≡ b → o ≡ cond b (Some (shown kind.utf8 [])) None → new ≡ dictionaries_of more []
unfolding dictionaries_of
entries-more fields more f old new o b longer pushed so_far is one =
    pushed
    ∙ ap (λ l. l ++ o ∷ []) so_far
    ∙ ap (λ x. map (dictionary_in []) (enumerate_from 0 fields) ++ x ∷ []) (one ∙ sym (entry_if b (is_text_field f) is))
    ∙ sym (map-append (dictionary_in []) (enumerate_from 0 fields) ((0 + length fields, f) ∷ []))
    ∙ ap (map (dictionary_in [])) (sym (enumerate_from-push 0 fields f))
    ∙ ap (λ l. map (dictionary_in []) (enumerate_from 0 l)) (sym longer)

-- ---- nothing

lawful-empty : (fields : List FieldShape) (stats : List ColumnStats) (dictionaries : List (Option Seen)) → AreStatsOf fields [] stats → dictionaries ≡ dictionaries_of fields []
    → LawfulTable fields [] [] stats dictionaries []
lawful-empty fields stats dictionaries are texts = record {
  stored = λ k d below. absurd (omega (arith, below));
  ends = λ i within. record { entries = 0; each = within; within = omega arith; same = ap (λ (l : List Batch). length (rows_of_batches l)) (take_all i [] (omega (arith, within))) };
  some = λ entry. absurd (omega (arith, entry));
  counts = refl;
  few = omega arith;
  short = omega arith;
  texts = texts;
  fronts = λ k d below. absurd (omega (arith, below));
  statistics = are;
  parts = tt;
}

no_pair : (before rest : History) (e : ℕ × Table) → [] ≡ before ++ e ∷ rest → ⊥
no_pair [] rest e h = absurd cc
no_pair (b ∷ before) rest e h = absurd cc

legal-empty : (fields : List FieldShape) → IsLegal fields []
legal-empty fields = record {
  shaped = λ k d below. absurd (omega (arith, below));
  allowed = λ before rest e h. absurd (no_pair before rest e h);
}

pub storage-empty : (h : Storage) → h.batches.items ≡ [] → h.batch_stats ≡ [] → book_of h ≡ [] → h.rows ≡ 0 → AreStatsOf (arc_value h.schema) [] (arc_value h.stats).items
    → dictionaries_in h ≡ dictionaries_of (arc_value h.schema) [] → IsConsistent h
storage-empty h batches pieces entries rows are texts =
    let fields = arc_value h.schema in
    let no_batches : batches_of h ≡ [] = ap (map arc_value) batches in
    let no_pieces : pieces_in h ≡ [] = ap (map (λ (s : Arc (Vec ColumnStats Global) Global). (arc_value s).items)) pieces in
    record {
      lawful =
          subst (λ (b : List Batch). LawfulTable fields b (pieces_in h) (arc_value h.stats).items (dictionaries_in h) (book_of h)) (sym no_batches)
          (subst (λ (p : List (List ColumnStats)). LawfulTable fields [] p (arc_value h.stats).items (dictionaries_in h) (book_of h)) (sym no_pieces)
          (subst (λ (e : List (ℕ × ℕ)). LawfulTable fields [] [] (arc_value h.stats).items (dictionaries_in h) e) (sym entries)
          (lawful-empty fields (arc_value h.stats).items (dictionaries_in h) are texts)));
      rows = rows ∙ ap book_rows (sym entries);
      legal = subst (IsLegal fields) (ap (λ (e : List (ℕ × ℕ)). history_from e (rows_of_batches (batches_of h))) (sym entries)) (legal-empty fields);
    }

-- ---- pools of an empty table

no_table : (batches : List Batch) → map rows_of batches ≡ [] → rows_of_batches batches ≡ []
no_table [] none = refl
no_table (b ∷ batches) none = absurd cc

-- a table that shows nothing has no texts
pub texts-empty : (h : Storage) (given : List FieldShape) (count : ℕ) (pools : List (List (List ℕ))) → ◌≡◌ {A = Contents} (show h) (record { fields = stored_fields given; history = []; batches = [] })
    → count ≡ length given → pools ≡ replicate count [] → ArePools h (rows_of_batches (batches_of h)) pools
texts-empty h given count pools shows same is =
    let fields : arc_value h.schema ≡ stored_fields given = ap (λ (s : Contents). s.fields) shows in
    let table : rows_of_batches (batches_of h) ≡ [] = no_table (batches_of h) (ap (λ (s : Contents). s.batches) shows) in
    is
    ∙ no_texts-are (arc_value h.schema) count (same ∙ sym (length-map given stored_field) ∙ ap (λ (f : List FieldShape). length f) (sym fields))
    ∙ ap (λ (t : Table). map (texts_in t) (enumerate_from 0 (arc_value h.schema))) (sym table)
