-- What a table holds with a column more is what a table holds.
use Rattle.std.proofs.Common.{◌≡◌, ◌∙◌, ℕ, zero, suc, ◌+◌, ◌<◌, ◌≤◌, List, [], ◌∷◌, ◌++◌, length, get_or, map, take, replicate, All, Bool, true, false, cond, Option, None, Some, ap, sym, refl, subst, arith, length-append}
use Rattle.std.specs.Arc.{arc_value}
use Rattle.std.specs.List.{AllZip, enumerate_from, range_with_len, zip}
use Rattle.std.proofs.lemmas.Bool.{ltb-false}
use Rattle.std.proofs.lemmas.List.{get_or-map, length-map, map-append, take-map, take_all, take_more}
use Rattle.std.proofs.lemmas.List.Elements.{All-append, All-map}
use Rattle.std.proofs.lemmas.Simd.{map-map}
use Rattle.std.proofs.lemmas.Slice.Zip.{get_or-zip, length-zip}
use Rattle.arrays.specs.Prelude.{Batch, FieldShape, Item, Kind, Row, Seen, Table, batch_fault, column, is_nullable, kind_of_field, looked_up, most_slots, null, nulls, row_of, rows_of, same_kind, shown, text}
use Rattle.arrays.specs.Kind as kind
use Rattle.compaction.specs.Prelude.{AreStatsOf, NamesFront}
use Rattle.answers.proofs.ColumnsLemmas.{all_zip-more, all_zip-push}
use Rattle.answers.specs.Prelude.{AreSame, AreStats, ColumnStats}
use Rattle.pool.specs.Texts.{firsts, texts_of}
use Rattle.table.specs.Prelude.{AreAllWider, ArePools, AreWider, Contents, EndsWithEntry, IsConsistent, IsLegal, IsSame, IsStored, IsWider, LawfulTable, batches_of, book_of, book_rows, dictionaries_in, dictionaries_of, dictionary_in, history_from, is_text_field, no_texts, null_cause, pieces_in, rows, rows_of_batches, show, texts_in, widened, widened_row, widened_table, with_last_field, with_nulls}
use Rattle.table.specs.declared.storage.Storage.{Storage}
use Rattle.arrays.proofs.BatchLemmas.{length-rows_of, map-same, whole}
use Rattle.table.proofs.EmptyLemmas.{enumerate_from-push, none_if}
use Rattle.table.proofs.FrontLemmas.{prefix_self}
use Rattle.table.proofs.StorageLemmas.{rows-shown}
use Rattle.table.proofs.JoinedLemmas.{kept-batch}
use Rattle.table.proofs.KeptLemmas.{Kept, kept-lawful}
use Rattle.table.proofs.PutLemmas.{Storage-same, show-same}
use Rattle.table.proofs.WidenedLemmas.{column-added, column-behind, cut-widened, legal-wider, null_cause-wider, row-one, rows-widened, table-append, table-column, texts-null}

-- ---- columns of nulls

nulls-kind : (k : Kind) (n : ℕ) → (nulls k n).kind ≡ k
nulls-kind kind.dict n = refl
nulls-kind (kind.int t) n = refl
nulls-kind kind.boolean n = refl
nulls-kind (kind.texts w) n = refl
nulls-kind (kind.lists w k) n = refl

looked-null : (entries : List Item) (n : ℕ) → map (looked_up entries) (replicate n null) ≡ replicate n null
looked-null entries zero = refl
looked-null entries (suc n) = ap (λ l. null ∷ l) (looked-null entries n)

nulls-items : (k : Kind) (n : ℕ) → (nulls k n).items ≡ replicate n null
nulls-items kind.dict n = looked-null [] n
nulls-items (kind.int t) n = refl
nulls-items kind.boolean n = refl
nulls-items (kind.texts w) n = refl
nulls-items (kind.lists w k) n = refl

-- it names no text
front-nulls : (k : Kind) (n : ℕ) (b : Bool) → NamesFront (nulls k n) (cond b (Some (shown kind.utf8 [])) None)
front-nulls k n false = tt
front-nulls kind.dict n true = prefix_self []
front-nulls (kind.int t) n true = prefix_self []
front-nulls kind.boolean n true = prefix_self []
front-nulls (kind.texts w) n true = prefix_self []
front-nulls (kind.lists w k) n true = prefix_self []

-- ---- batches

null-at : (n i : ℕ) → get_or (replicate n null) i null ≡ null
null-at zero i = refl
null-at (suc n) zero = refl
null-at (suc n) (suc i) = null-at n i

row-wider : (columns : List Seen) (c : Seen) (i n m : ℕ) → n ≡ length columns + 1 → c.items ≡ replicate m null → row_of (columns ++ c ∷ []) i ≡ widened_row n (row_of columns i)
row-wider columns c i n m size none =
    map-append (λ (x : Seen). get_or x.items i null) columns (c ∷ [])
    ∙ ap (λ (l : List Item). row_of columns i ++ get_or l i null ∷ []) none
    ∙ ap (λ x. row_of columns i ++ x ∷ []) (null-at m i)
    ∙ sym (row-one n (row_of columns i) (omega (arith, size, length-map columns (λ (x : Seen). get_or x.items i null))))

rows-wider : (f : FieldShape) (b : Batch) (n : ℕ) → n ≡ length b.columns + 1 → rows_of (with_nulls f b) ≡ widened_table n (rows_of b)
rows-wider f b n size =
    map-same (row_of (with_nulls f b).columns) (λ i. widened_row n (row_of b.columns i))
    (λ i. row-wider b.columns (nulls (kind_of_field f) b.rows) i n b.rows size (nulls-items (kind_of_field f) b.rows)) (range_with_len 0 b.rows)
    ∙ sym (map-map (widened_row n) (row_of b.columns) (range_with_len 0 b.rows))

count : (fields : List FieldShape) (b : Batch) → IsStored fields b → length b.columns ≡ length fields
count fields b is = (whole b.fields b.rows b.columns is.lawful).count ∙ ap (λ (l : List FieldShape). length l) is.same

-- the rows of a batch with a column of nulls are wider ones
pub stored-rows : (fields : List FieldShape) (f : FieldShape) (b : Batch) → IsStored fields b → rows_of (with_nulls f b) ≡ widened_table (length fields + 1) (rows_of b)
stored-rows fields f b is = rows-wider f b (length fields + 1) (omega (arith, count fields b is))

short-rows : (columns : List Seen) (places : List ℕ) (k : ℕ) → length columns ≤ k → All (λ (row : Row). length row ≤ k) (map (row_of columns) places)
short-rows columns places k within =
    All-map (λ (row : Row). length row ≤ k) (row_of columns) places
    (λ j i below. omega (arith, within, length-map columns (λ (c : Seen). get_or c.items (get_or places j i) null)))

kept-wider : (f : FieldShape) (b : Batch) → batch_fault b.fields b.rows b.columns ≡ None → AllZip (Kept (rows_of b)) (enumerate_from 0 (b.fields ++ f ∷ [])) (with_nulls f b).columns
kept-wider f b lawful =
    let c = nulls (kind_of_field f) b.rows in
    let is = whole b.fields b.rows b.columns lawful in
    let k = 0 + length b.fields in
    let none = column-behind k (rows_of b) (short-rows b.columns (range_with_len 0 b.rows) k (omega (arith, is.count))) in
    subst (λ (es : List (ℕ × FieldShape)). AllZip (Kept (rows_of b)) es (b.columns ++ c ∷ [])) (sym (enumerate_from-push 0 b.fields f))
    (all_zip-push (Kept (rows_of b)) (enumerate_from 0 b.fields) b.columns (k, f) c (kept-batch b.fields b refl lawful)
    (record {
      kind = nulls-kind (kind_of_field f) b.rows;
      items = nulls-items (kind_of_field f) b.rows ∙ sym (none ∙ ap (λ m. replicate m null) (length-rows_of b));
    }))

-- a batch with a column of nulls is one
pub nulls-lawful : (f : FieldShape) (b : Batch) → batch_fault b.fields b.rows b.columns ≡ None → batch_fault (b.fields ++ f ∷ []) b.rows (with_nulls f b).columns ≡ None
nulls-lawful f b lawful = kept-lawful (b.fields ++ f ∷ []) b (with_nulls f b).columns (kept-wider f b lawful) lawful

pub batch-short : (b : Batch) → batch_fault b.fields b.rows b.columns ≡ None → b.rows ≤ most_slots
batch-short b lawful = ltb-false most_slots b.rows (whole b.fields b.rows b.columns lawful).small

stored-wider : (fields : List FieldShape) (f : FieldShape) (b : Batch) → is_nullable f ≡ true → IsStored fields b → IsStored (fields ++ f ∷ []) (with_nulls f b)
stored-wider fields f b nullable is = record {
  same = ap (λ (l : List FieldShape). l ++ f ∷ []) is.same;
  lawful = nulls-lawful f b is.lawful;
  nulls = ap (null_cause (fields ++ f ∷ [])) (stored-rows fields f b is) ∙ null_cause-wider fields f (length fields + 1) (rows_of b) nullable ∙ is.nulls;
}

-- ---- tables

-- those behind the first
others : {A : Type 0} (P : A → Type 0) (x : A) (xs : List A) → All P (x ∷ xs) → All P xs
others P x xs all = λ k d below. all (suc k) d (omega (arith, below))

module _ (fields : List FieldShape) (f : FieldShape) where
  pub table-wider : (batches : List Batch) → All (IsStored fields) batches → rows_of_batches (map (with_nulls f) batches) ≡ widened_table (length fields + 1) (rows_of_batches batches)
  table-wider [] stored = refl
  table-wider (b ∷ batches) stored =
      ap (λ (t : Table). t ++ rows_of_batches (map (with_nulls f) batches)) (stored-rows fields f b (stored 0 b (omega arith)))
      ∙ ap (λ (t : Table). widened_table (length fields + 1) (rows_of b) ++ t) (table-wider batches (others (IsStored fields) b batches stored))
      ∙ sym (table-append (length fields + 1) (rows_of b) (rows_of_batches batches))

  tables-wider : (batches : List Batch) → All (IsStored fields) batches → map rows_of (map (with_nulls f) batches) ≡ map (widened_table (length fields + 1)) (map rows_of batches)
  tables-wider [] stored = refl
  tables-wider (b ∷ batches) stored =
      ap (λ (t : Table). t ∷ map rows_of (map (with_nulls f) batches)) (stored-rows fields f b (stored 0 b (omega arith)))
      ∙ ap (λ (l : List Table). widened_table (length fields + 1) (rows_of b) ∷ l) (tables-wider batches (others (IsStored fields) b batches stored))

  length-wider : (batches : List Batch) → length (rows_of_batches (map (with_nulls f) batches)) ≡ length (rows_of_batches batches)
  length-wider [] = refl
  length-wider (b ∷ batches) =
      omega (arith, length-append (rows_of (with_nulls f b)) (rows_of_batches (map (with_nulls f) batches)), length-append (rows_of b) (rows_of_batches batches), length-rows_of (with_nulls f b), length-rows_of b, length-wider batches)

  short-batch : (b : Batch) → IsStored fields b → All (λ (row : Row). length row ≤ length fields) (rows_of b)
  short-batch b is = short-rows b.columns (range_with_len 0 b.rows) (length fields) (omega (arith, count fields b is))

  short-table : (batches : List Batch) → All (IsStored fields) batches → All (λ (row : Row). length row ≤ length fields) (rows_of_batches batches)
  short-table [] stored = λ k d below. absurd (omega (arith, below))
  short-table (b ∷ batches) stored =
      All-append (λ (row : Row). length row ≤ length fields) (rows_of b) (rows_of_batches batches) (short-batch b (stored 0 b (omega arith)))
      (short-table batches (others (IsStored fields) b batches stored))

-- ---- statistics

abbrev HasStats : Table → ℕ × FieldShape → ColumnStats → Type 0
HasStats t e s = AreStats s (kind_of_field e.1) (column t e.0)

stats-same : (s q : ColumnStats) (k : Kind) (items : List Item) → AreSame s q → AreStats q k items → AreStats s k items
stats-same s q k items same are = record {
  rows = same.rows ∙ are.rows;
  nulls = same.nulls ∙ are.nulls;
  sum = same.sum ∙ are.sum;
  least = same.least ∙ are.least;
  greatest = same.greatest ∙ are.greatest;
}

-- copies are the statistics of a table with the same columns
stats-copied : (t u : Table) → ((k : ℕ) → column u k ≡ column t k) → (es : List (ℕ × FieldShape)) (front before : List ColumnStats) → AllZip AreSame front before → AllZip (HasStats t) es before
    → AllZip (HasStats u) es front
stats-copied t u columns [] [] [] same are = tt
stats-copied t u columns [] [] (q ∷ before) same are = absurd same
stats-copied t u columns [] (s ∷ front) [] same are = absurd same
stats-copied t u columns [] (s ∷ front) (q ∷ before) same are = absurd are
stats-copied t u columns (e ∷ es) [] [] same are = absurd are
stats-copied t u columns (e ∷ es) [] (q ∷ before) same are = absurd same
stats-copied t u columns (e ∷ es) (s ∷ front) [] same are = absurd same
stats-copied t u columns (e ∷ es) (s ∷ front) (q ∷ before) same are = (
  subst (AreStats s (kind_of_field e.1)) (sym (columns e.0)) (stats-same s q (kind_of_field e.1) (column t e.0) same.0 are.0),
  stats-copied t u columns es front before same.1 are.1,
)

module _ (fields : List FieldShape) (f : FieldShape) where
  stats-wider : (n : ℕ) (t : Table) (before after : List ColumnStats) → All (λ (row : Row). length row ≤ length fields) t → AreStatsOf fields t before → AreWider (kind_of_field f) (length t) before after
      → AreStatsOf (fields ++ f ∷ []) (widened_table n t) after
  stats-wider n t before after short are wide =
      let u = widened_table n t in
      let k = 0 + length fields in
      subst (AreStatsOf (fields ++ f ∷ []) u) (sym wide.whole)
      (subst (λ (es : List (ℕ × FieldShape)). AllZip (HasStats u) es (wide.front ++ wide.added ∷ [])) (sym (enumerate_from-push 0 fields f))
      (all_zip-push (HasStats u) (enumerate_from 0 fields) wide.front (k, f) wide.added
      (stats-copied t u (table-column n t) (enumerate_from 0 fields) wide.front before wide.same are)
      (subst (AreStats wide.added (kind_of_field f)) (sym (column-added n k t (λ j row below. let here = short j row below in omega (arith, here)))) wide.nulls)))

  parts-wider : (batches : List Batch) (pieces after : List (List ColumnStats)) → All (IsStored fields) batches → AllZip (λ b s. AreStatsOf fields (rows_of b) s) batches pieces
      → AreAllWider (kind_of_field f) batches pieces after → AllZip (λ b s. AreStatsOf (fields ++ f ∷ []) (rows_of b) s) (map (with_nulls f) batches) after
  parts-wider [] [] [] stored parts wide = tt
  parts-wider [] [] (a ∷ after) stored parts wide = absurd wide
  parts-wider [] (p ∷ pieces) after stored parts wide = absurd parts
  parts-wider (b ∷ batches) [] after stored parts wide = absurd parts
  parts-wider (b ∷ batches) (p ∷ pieces) [] stored parts wide = absurd wide
  parts-wider (b ∷ batches) (p ∷ pieces) (a ∷ after) stored parts wide =
      let is = stored 0 b (omega arith) in (
        subst (λ (t : Table). AreStatsOf (fields ++ f ∷ []) t a) (sym (stored-rows fields f b is))
            (stats-wider (length fields + 1) (rows_of b) p a (short-batch fields f b is) parts.0
            (subst (λ m. AreWider (kind_of_field f) m p a) (sym (length-rows_of b)) wide.0)),
        parts-wider batches pieces after (others (IsStored fields) b batches stored) parts.1 wide.1,
      )

-- ---- texts

texts_in-wider : (n : ℕ) (t : Table) (e : ℕ × FieldShape) → texts_in (widened_table n t) e ≡ texts_in t e
texts_in-wider n t e = ap (λ (l : List Item). cond (is_text_field e.1) (firsts (texts_of l)) []) (table-column n t e.0)

texts_in-added : (n k : ℕ) (t : Table) (f : FieldShape) → All (λ (row : Row). length row ≤ k) t → texts_in (widened_table n t) (k, f) ≡ []
texts_in-added n k t f short =
    ap (λ (l : List Item). cond (is_text_field f) (firsts (texts_of l)) []) (column-added n k t short)
    ∙ ap (λ ts. cond (is_text_field f) (firsts ts) []) (texts-null (length t))
    ∙ none_if (is_text_field f)

module _ (fields : List FieldShape) (f : FieldShape) (n : ℕ) (t : Table) (short : All (λ (row : Row). length row ≤ length fields) t) where
  short-there : All (λ (row : Row). length row ≤ 0 + length fields) t
  short-there = λ j row below. let here = short j row below in omega (arith, here)

  pub texts-wider : map (texts_in (widened_table n t)) (enumerate_from 0 (fields ++ f ∷ [])) ≡ map (texts_in t) (enumerate_from 0 fields) ++ [] ∷ []
  texts-wider =
      ap (map (texts_in (widened_table n t))) (enumerate_from-push 0 fields f)
      ∙ map-append (texts_in (widened_table n t)) (enumerate_from 0 fields) ((0 + length fields, f) ∷ [])
      ∙ ap (λ l. l ++ texts_in (widened_table n t) (0 + length fields, f) ∷ []) (map-same (texts_in (widened_table n t)) (texts_in t) (texts_in-wider n t) (enumerate_from 0 fields))
      ∙ ap (λ ts. map (texts_in t) (enumerate_from 0 fields) ++ ts ∷ []) (texts_in-added n (0 + length fields) t f short-there)

  dictionaries-wider : dictionaries_of (fields ++ f ∷ []) (widened_table n t) ≡ dictionaries_of fields t ++ no_texts (kind_of_field f) ∷ []
  unfolding dictionaries_of
  dictionaries-wider =
      let u = widened_table n t in
      ap (map (dictionary_in u)) (enumerate_from-push 0 fields f)
      ∙ map-append (dictionary_in u) (enumerate_from 0 fields) ((0 + length fields, f) ∷ [])
      ∙ ap (λ l. l ++ dictionary_in u (0 + length fields, f) ∷ [])
      (map-same (dictionary_in u) (dictionary_in t) (λ e. ap (λ ts. cond (is_text_field e.1) (Some (shown kind.utf8 (map text ts))) None) (texts_in-wider n t e)) (enumerate_from 0 fields))
      ∙ ap (λ ts. map (dictionary_in t) (enumerate_from 0 fields) ++ cond (is_text_field f) (Some (shown kind.utf8 (map text ts))) None ∷ [])
      (texts_in-added n (0 + length fields) t f short-there)

-- ---- the table

ends-wider : (fields : List FieldShape) (f : FieldShape) (batches : List Batch) (entries : List (ℕ × ℕ)) → ((i : ℕ) → i ≤ length batches → EndsWithEntry batches entries i)
    → (i : ℕ) → i ≤ length (map (with_nulls f) batches) → EndsWithEntry (map (with_nulls f) batches) entries i
ends-wider fields f batches entries ends i within =
    let old = ends i (omega (arith, within, length-map batches (with_nulls f))) in
    record {
      entries = old.entries;
      each = old.each;
      within = old.within;
      same = ap (λ (l : List Batch). length (rows_of_batches l)) (take-map (with_nulls f) i batches) ∙ length-wider fields f (take i batches) ∙ old.same;
    }

pub lawful-wider : (fields : List FieldShape) (f : FieldShape) → is_nullable f ≡ true
    → (batches : List Batch) (pieces theirs : List (List ColumnStats)) (stats after : List ColumnStats) (dictionaries : List (Option Seen)) (entries : List (ℕ × ℕ))
    → LawfulTable fields batches pieces stats dictionaries entries → AreAllWider (kind_of_field f) batches pieces theirs → AreWider (kind_of_field f) (length (rows_of_batches batches)) stats after
    → LawfulTable (fields ++ f ∷ []) (map (with_nulls f) batches) theirs after (dictionaries ++ no_texts (kind_of_field f) ∷ []) entries
lawful-wider fields f nullable batches pieces theirs stats after dictionaries entries is all wide =
    let n = length fields + 1 in
    let short = short-table fields f batches is.stored in
    let table = table-wider fields f batches is.stored in
    record {
      stored = All-map (IsStored (fields ++ f ∷ [])) (with_nulls f) batches (λ k b below. stored-wider fields f (get_or batches k b) nullable (is.stored k b below));
      ends = ends-wider fields f batches entries is.ends;
      some = λ entry. let one = is.some entry in omega (arith, one, length-map batches (with_nulls f));
      counts = is.counts ∙ sym (length-wider fields f batches);
      few = is.few;
      short = is.short;
      texts =
          ap (λ (l : List (Option Seen)). l ++ no_texts (kind_of_field f) ∷ []) is.texts
          ∙ sym (dictionaries-wider fields f n (rows_of_batches batches) short)
          ∙ ap (dictionaries_of (fields ++ f ∷ [])) (sym table);
      fronts =
          All-map (λ (b : Batch). AllZip NamesFront b.columns (dictionaries ++ no_texts (kind_of_field f) ∷ [])) (with_nulls f) batches
          (λ k b below.
          all_zip-push NamesFront (get_or batches k b).columns dictionaries (nulls (kind_of_field f) (get_or batches k b).rows) (no_texts (kind_of_field f)) (is.fronts k b below)
          (front-nulls (kind_of_field f) (get_or batches k b).rows (same_kind (kind_of_field f) kind.dict)));
      statistics = subst (λ (u : Table). AreStatsOf (fields ++ f ∷ []) u after) (sym table) (stats-wider fields f n (rows_of_batches batches) stats after short is.statistics wide);
      parts = parts-wider fields f batches pieces theirs is.stored is.parts all;
    }

-- ---- what is held

module _ (h g : Storage) (f : FieldShape) (nullable : is_nullable f ≡ true) (is : IsConsistent h) (wide : IsWider f h g) where
  history : (show g).history ≡ widened (length (arc_value h.schema) + 1) (show h).history
  history =
      ap (λ (e : List (ℕ × ℕ)). history_from e (rows_of_batches (batches_of g))) wide.book
      ∙ ap (λ (l : List Batch). history_from (book_of h) (rows_of_batches l)) wide.batches
      ∙ ap (history_from (book_of h)) (table-wider (arc_value h.schema) f (batches_of h) is.lawful.stored)
      ∙ cut-widened (length (arc_value h.schema) + 1) (book_of h) (rows_of_batches (batches_of h))

  tables : (show g).batches ≡ map (widened_table (length (arc_value h.schema) + 1)) (show h).batches
  tables = ap (λ (l : List Batch). map rows_of l) wide.batches ∙ tables-wider (arc_value h.schema) f (batches_of h) is.lawful.stored

  pub wider-shows : show g ≡ with_last_field (show h) f
  wider-shows = λ i. record { fields = wide.schema i; history = history i; batches = tables i }

  lawful : LawfulTable (arc_value h.schema ++ f ∷ []) (map (with_nulls f) (batches_of h)) (pieces_in g) (arc_value g.stats).items (dictionaries_in h ++ no_texts (kind_of_field f) ∷ []) (book_of h)
  lawful =
      lawful-wider (arc_value h.schema) f nullable (batches_of h) (pieces_in h) (pieces_in g) (arc_value h.stats).items (arc_value g.stats).items (dictionaries_in h) (book_of h) is.lawful wide.pieces
      (subst (λ m. AreWider (kind_of_field f) m (arc_value h.stats).items (arc_value g.stats).items) (is.rows ∙ is.lawful.counts) wide.stats)

  pub wider-storage : IsConsistent g
  wider-storage = record {
    lawful =
        subst (λ (l : List FieldShape). LawfulTable l (batches_of g) (pieces_in g) (arc_value g.stats).items (dictionaries_in g) (book_of g)) (sym wide.schema)
        (subst (λ (l : List Batch). LawfulTable (arc_value h.schema ++ f ∷ []) l (pieces_in g) (arc_value g.stats).items (dictionaries_in g) (book_of g)) (sym wide.batches)
        (subst (λ (d : List (Option Seen)). LawfulTable (arc_value h.schema ++ f ∷ []) (map (with_nulls f) (batches_of h)) (pieces_in g) (arc_value g.stats).items d (book_of g)) (sym wide.dictionaries)
        (subst (λ (e : List (ℕ × ℕ)). LawfulTable (arc_value h.schema ++ f ∷ []) (map (with_nulls f) (batches_of h)) (pieces_in g) (arc_value g.stats).items (dictionaries_in h ++ no_texts (kind_of_field f) ∷ []) e) (sym wide.book) lawful)));
    rows = wide.rows ∙ is.rows ∙ ap book_rows (sym wide.book);
    legal =
        subst (λ (l : List FieldShape). IsLegal l (show g).history) (sym wide.schema)
        (subst (IsLegal (arc_value h.schema ++ f ∷ [])) (sym history) (legal-wider (arc_value h.schema) (show h).history f nullable is.legal));
  }

-- the texts of a table that shows a field more
pub texts-shown : (h g : Storage) (f : FieldShape) (pools : List (List (List ℕ))) → IsConsistent h → IsConsistent g → ◌≡◌ {A = Contents} (show g) (with_last_field (show h) f) → ArePools h (rows_of_batches (batches_of h)) pools
    → ArePools g (rows_of_batches (batches_of g)) (pools ++ [] ∷ [])
texts-shown h g f pools is stands shows are =
    let fields : arc_value g.schema ≡ arc_value h.schema ++ f ∷ [] = ap (λ (s : Contents). s.fields) shows in
    let n = length (arc_value h.schema) + 1 in
    let table : rows_of_batches (batches_of g) ≡ widened_table n (rows_of_batches (batches_of h)) =
    sym (rows-shown g stands) ∙ ap (λ (s : Contents). rows s.history) shows ∙ rows-widened n (show h).history ∙ ap (widened_table n) (rows-shown h is) in
    ap (λ (l : List (List (List ℕ))). l ++ [] ∷ []) are
    ∙ sym (texts-wider (arc_value h.schema) f n (rows_of_batches (batches_of h)) (short-table (arc_value h.schema) f (batches_of h) is.lawful.stored))
    ∙ ap (λ (t : Table). map (texts_in t) (enumerate_from 0 (arc_value h.schema ++ f ∷ []))) (sym table)
    ∙ ap (λ (l : List FieldShape). map (texts_in (rows_of_batches (batches_of g))) (enumerate_from 0 l)) (sym fields)

-- the table after the change, with a pool more
pub added-storage : (h next new : Storage) (f : FieldShape) (olds pools : List (List (List ℕ))) → IsConsistent h → ArePools h (rows_of_batches (batches_of h)) olds → IsConsistent next → ◌≡◌ {A = Contents} (show next) (with_last_field (show h) f)
    → IsSame next new → pools ≡ olds ++ [] ∷ [] → IsConsistent new × ArePools new (rows_of_batches (batches_of new)) pools
added-storage h next new f olds pools is are stands shows same pushed =
    let holds = Storage-same next new same stands in (
      holds,
      pushed ∙ texts-shown h new f olds is holds (show-same next new same ∙ shows) are,
    )

-- ---- one more

-- what an item is, where an item of a list is it
pub at-image : {A B : Type 0} (f : A → B) (xs : List A) (i : ℕ) (x : A) → i < length xs → x ≡ get_or xs i x → f x ≡ get_or (map f xs) i (f x)
at-image f xs i x below is = ap f is ∙ sym (get_or-map f xs i x (f x) below)

pub copies-more : (stats olds news : List ColumnStats) (i : ℕ) (s q : ColumnStats) → i < length stats → q ≡ get_or stats i q → news ≡ olds ++ s ∷ [] → AllZip AreSame olds (take i stats) → AreSame s q
    → AllZip AreSame news (take (i + 1) stats)
copies-more stats olds news i s q below is pushed so_far one =
    subst (λ (l : List ColumnStats). AllZip AreSame l (take (i + 1) stats)) (sym pushed)
    (subst (AllZip AreSame (olds ++ s ∷ [])) (sym (take_more stats i q below ∙ ap (λ x. take i stats ++ x ∷ []) (sym is)))
    (all_zip-push AreSame olds (take i stats) s q so_far one))

abbrev Wider : Kind → Batch × List ColumnStats → List ColumnStats → Type 0
Wider k e after = AreWider k e.0.rows e.1 after

pub pieces-more : (k : Kind) (batches : List Batch) (before olds news : List (List ColumnStats)) (i : ℕ) (b : Batch) (p a : List ColumnStats) → i < length batches → length before ≡ length batches
    → b ≡ get_or batches i b → p ≡ get_or before i p → news ≡ olds ++ a ∷ [] → AllZip (Wider k) (take i (zip batches before)) olds → AreWider k b.rows p a → AllZip (Wider k) (take (i + 1) (zip batches before)) news
pieces-more k batches before olds news i b p a below same here there pushed so_far one =
    let at : ◌≡◌ {A = Batch × List ColumnStats} (b, p) (get_or (zip batches before) i (b, p)) =
    ap (λ (x : Batch). (x, p)) here ∙ ap (λ (y : List ColumnStats). (get_or batches i b, y)) there ∙ sym (get_or-zip batches before i (b, p) below (omega (arith, below, same))) in
    all_zip-more (Wider k) (zip batches before) olds news i (b, p) a (omega (arith, below, same, length-zip batches before)) at pushed so_far one

pub pieces-all : (k : Kind) (batches : List Batch) (before after : List (List ColumnStats)) (n : ℕ) → length batches ≤ n → AllZip (Wider k) (take n (zip batches before)) after → AreAllWider k batches before after
pieces-all k batches before after n within so_far =
    subst (λ es. AllZip (Wider k) es after) (take_all n (zip batches before) (omega (arith, within, length-zip batches before))) so_far
