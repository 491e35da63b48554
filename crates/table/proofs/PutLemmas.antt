-- A table with what is new put in.
use Rattle.std.proofs.Common.{◌≡◌, ◌∙◌, ℕ, ◌+◌, ◌-◌, ◌<◌, ◌≤◌, ◌^◌, List, [], ◌∷◌, ◌++◌, length, map, Option, None, ap, sym, subst, arith}
use Rattle.std.specs.Prelude.{Err, IfOk, Ok, Result, option_map}
use Rattle.std.specs.Arc.{arc_value}
use Rattle.std.specs.declared.alloc.Global.{Global}
use Rattle.std.specs.declared.sync.Arc.{Arc}
use Rattle.std.specs.declared.vec.Vec.{Vec}
use Rattle.std.specs.List.{AllZip, enumerate_from}
use Rattle.std.proofs.lemmas.Bool.{ltb-false}
use Rattle.std.proofs.lemmas.List.{length-map, map-append}
use Rattle.arrays.specs.Prelude.{Batch, FieldShape, NoMemory, Seen, Table, rows_of}
use Rattle.answers.proofs.ColumnsLemmas.{all_zip-push}
use Rattle.answers.specs.Prelude.{ColumnStats}
use Rattle.std.specs.Bool.{then_some}
use Rattle.compaction.specs.Under.{pieces_of}
use Rattle.table.specs.Prelude.{ArePools, Contents, History, IsAdditionOf, IsConsistent, IsLegal, IsMoved, IsPut, IsSame, IsWith, LawfulTable, admitted, batch_cause, batches_of, book_of, book_rows, cause, dictionaries_in, dictionaries_of, difference, history_from, is_book_full, is_table_full, null_cause, pieces_in, rows, rows_of_batches, show, texts_cause, texts_in, with_last}
use Rattle.table.specs.declared.change.Addition.{Addition}
use Rattle.table.specs.declared.storage.Storage.{Storage}
use Rattle.table.specs.declared.refusal.Refusal.TheVariants.{BookFull, SchemaDiffers, TableFull}
use Rattle.arrays.proofs.BatchLemmas.{length-rows_of}
use Rattle.table.proofs.StorageLemmas.{rows-shown}
use Rattle.table.proofs.HistoryLemmas.{IsLegal-push, cut-push, length-cut}
use Rattle.table.proofs.MovedLemmas.{Lawful-moved, moved-self, table-moved, tables-moved}
use Rattle.table.proofs.TableLemmas.{Lawful-push, table_of-push}
use Rattle.arrays.proofs.FirstLemmas.{first-none, then_some-none}

-- ---- no refusal

-- what no cause means
pub record Allowed (fields : List FieldShape) (h : History) (t : Table) : Type 0 where
  pub nulls : null_cause fields t ≡ None
  pub rows : length (rows h) + length t ≤ 2 ^ 40
  pub entries : length h ≡ 2 ^ 32 - 1 → ⊥
  pub texts : texts_cause fields h t ≡ None

pub Allowed-none : (fields : List FieldShape) (h : History) (t : Table) → cause fields h t ≡ None → Allowed fields h t
Allowed-none fields h t none =
    let a = first-none (null_cause fields t) (then_some (is_table_full h t) TableFull ∷ then_some (is_book_full h) BookFull ∷ texts_cause fields h t ∷ []) none in
    let b = first-none (then_some (is_table_full h t) TableFull) (then_some (is_book_full h) BookFull ∷ texts_cause fields h t ∷ []) a.1 in
    let d = first-none (then_some (is_book_full h) BookFull) (texts_cause fields h t ∷ []) b.1 in
    let e = first-none (texts_cause fields h t) [] d.1 in
    record {
      nulls = a.0;
      rows = ltb-false (2 ^ 40) (length (rows h) + length t) (then_some-none (is_table_full h t) TableFull b.0);
      entries = λ full. Rattle.std.proofs.Common.true≢false (sym (Rattle.std.proofs.Common.eq-eqb (length h) (2 ^ 32 - 1) full) ∙ then_some-none (is_book_full h) BookFull d.0);
      texts = e.0;
    }

pub cause-none : (fields : List FieldShape) (h : History) (b : Batch) → batch_cause fields h b ≡ None → cause fields h (rows_of b) ≡ None
cause-none fields h b none =
    let a = first-none (option_map (λ c. SchemaDiffers c) (difference fields b.fields)) (cause fields h (rows_of b) ∷ []) none in
    (first-none (cause fields h (rows_of b)) [] a.1).0

-- ---- the same parts

pub Storage-same : (h g : Storage) → IsSame h g → IsConsistent h → IsConsistent g
Storage-same h g same is = record {
  lawful =
      subst (λ (f : List FieldShape). LawfulTable f (batches_of g) (pieces_in g) (arc_value g.stats).items (dictionaries_in g) (book_of g)) (sym same.schema)
      (subst (λ (b : List Batch). LawfulTable (arc_value h.schema) b (pieces_in g) (arc_value g.stats).items (dictionaries_in g) (book_of g)) (sym same.batches)
      (subst (λ (p : List (List ColumnStats)). LawfulTable (arc_value h.schema) (batches_of h) p (arc_value g.stats).items (dictionaries_in g) (book_of g)) (sym same.pieces)
      (subst (λ (s : List ColumnStats). LawfulTable (arc_value h.schema) (batches_of h) (pieces_in h) s (dictionaries_in g) (book_of g)) (sym same.stats)
      (subst (λ (d : List (Option Seen)). LawfulTable (arc_value h.schema) (batches_of h) (pieces_in h) (arc_value h.stats).items d (book_of g)) (sym same.dictionaries)
      (subst (λ (e : List (ℕ × ℕ)). LawfulTable (arc_value h.schema) (batches_of h) (pieces_in h) (arc_value h.stats).items (dictionaries_in h) e) (sym same.book) is.lawful)))));
  rows = same.rows ∙ is.rows ∙ ap book_rows (sym same.book);
  legal =
      subst (λ (f : List FieldShape). IsLegal f (show g).history) (sym same.schema)
      (subst (λ (s : Contents). IsLegal (arc_value h.schema) s.history) (sym (show-same h g same)) is.legal);
}
  where
    show-same : (h g : Storage) → IsSame h g → show g ≡ show h
    show-same h g same = λ i. record {
      fields = same.schema i;
      history = history_from (same.book i) (rows_of_batches (same.batches i));
      batches = map rows_of (same.batches i);
    }

pub show-same : (h g : Storage) → IsSame h g → show g ≡ show h
show-same h g same = λ i. record {
  fields = same.schema i;
  history = history_from (same.book i) (rows_of_batches (same.batches i));
  batches = map rows_of (same.batches i);
}

-- what holds of what is answered
pub if-ok : {P Q : Storage → Type 0} → ((h : Storage) → P h → Q h) → (r : Result Storage NoMemory) → IfOk r P → IfOk r Q
if-ok more (Err e) is = tt
if-ok more (Ok h) is = more h is

-- other batches and statistics, which are the same
pub with-same : (h other : Storage) (batches : List (Arc Batch Global)) (pieces : List (Arc (Vec ColumnStats Global) Global))
    → map arc_value batches ≡ batches_of h → pieces_of pieces ≡ pieces_in h → IsWith batches pieces h other → IsSame h other
with-same h other batches pieces same_batches same_pieces is = record {
  schema = is.schema;
  rows = is.rows;
  batches = ap (map arc_value) is.batches ∙ same_batches;
  pieces = ap pieces_of is.pieces ∙ same_pieces;
  stats = is.stats;
  dictionaries = is.dictionaries;
  book = is.book;
}

-- ---- what is shared, with a shared batch put in

module _ (h s r : Storage) (p q : Addition) (shared : IsSame h s) (reserved : IsSame s r) (batch : arc_value q.batch ≡ arc_value p.batch) where
  rows_new : (arc_value q.batch).rows ≡ (arc_value p.batch).rows
  rows_new = ap (λ (b : Batch). b.rows) batch

  pub shared-few : h.rows + (arc_value p.batch).rows ≤ 2 ^ 40 → r.rows + (arc_value q.batch).rows ≤ 2 ^ 40
  shared-few few = omega (arith, few, shared.rows, reserved.rows, rows_new)

  pub shared-moved : map arc_value q.moved.items ≡ map arc_value p.moved.items → length p.moved.items ≤ length h.batches.items → length q.moved.items ≤ length r.batches.items
  shared-moved moved few =
      let counts : length q.moved.items ≡ length p.moved.items =
      sym (length-map q.moved.items (λ (b : Arc Batch Global). arc_value b)) ∙ ap (λ (l : List Batch). length l) moved ∙ length-map p.moved.items (λ (b : Arc Batch Global). arc_value b) in
      let many : length r.batches.items ≡ length h.batches.items =
      sym (length-map r.batches.items (λ (b : Arc Batch Global). arc_value b)) ∙ ap (λ (l : List Batch). length l) (reserved.batches ∙ shared.batches) ∙ length-map h.batches.items (λ (b : Arc Batch Global). arc_value b) in
      omega (arith, few, counts, many)

  pub put-shared : (g : Storage) → IsPut q r g → q.batch_stats ≡ p.batch_stats → arc_value q.stats ≡ arc_value p.stats
      → map (option_map arc_value) q.dictionaries.items ≡ map (option_map arc_value) p.dictionaries.items → map arc_value q.moved.items ≡ map arc_value p.moved.items → q.book ≡ p.book → IsPut p h g
  put-shared g put pieces stats dictionaries moved book = record {
    schema = put.schema ∙ reserved.schema ∙ shared.schema;
    rows = omega (arith, put.rows, shared.rows, reserved.rows, rows_new);
    batches =
        put.batches
        ∙ ap (λ l. with_last l (map arc_value q.moved.items) ++ arc_value q.batch ∷ []) (reserved.batches ∙ shared.batches)
        ∙ ap (λ l. with_last (batches_of h) l ++ arc_value q.batch ∷ []) moved
        ∙ ap (λ b. with_last (batches_of h) (map arc_value p.moved.items) ++ b ∷ []) batch;
    pieces = put.pieces ∙ ap pieces_of pieces;
    stats = put.stats ∙ stats;
    dictionaries = put.dictionaries ∙ dictionaries;
    book = put.book ∙ book;
  }

-- ---- one batch more

module _ (h g : Storage) (b : Batch) (worker : ℕ) (p : Addition) (is : IsConsistent h) (ready : IsAdditionOf h worker b p) (put : IsPut p h g) where
  same_cause : cause (arc_value h.schema) (show h).history (rows_of b) ≡ None
  same_cause = cause-none (arc_value h.schema) (show h).history b ready.allowed

  free : Allowed (arc_value h.schema) (show h).history (rows_of b)
  free = Allowed-none (arc_value h.schema) (show h).history (rows_of b) same_cause

  size : (arc_value p.batch).rows ≡ length (rows_of (arc_value p.batch))
  size = sym (length-rows_of (arc_value p.batch))

  abbrev fields : List FieldShape
  fields = arc_value h.schema

  book_is : book_of g ≡ book_of h ++ (worker, (arc_value p.batch).rows) ∷ []
  book_is = put.book ∙ ready.book

  abbrev words : List (Option Seen)
  words = map (option_map arc_value) p.dictionaries.items

  abbrev pushed : List Batch
  pushed = batches_of h ++ arc_value p.batch ∷ []

  -- the batches in the end
  abbrev after : List Batch
  after = with_last (batches_of h) (map arc_value p.moved.items) ++ arc_value p.batch ∷ []

  moved : AllZip (IsMoved fields words) pushed after
  moved =
      all_zip-push (IsMoved fields words) (batches_of h) (with_last (batches_of h) (map arc_value p.moved.items)) (arc_value p.batch) (arc_value p.batch) ready.moved.same
      (moved-self fields words (arc_value p.batch) (record { same = ready.stored.same; lawful = ready.stored.lawful; fronts = ready.front }))

  table : rows_of_batches (batches_of g) ≡ rows_of_batches (batches_of h) ++ rows_of b
  table = ap rows_of_batches put.batches ∙ table-moved fields words pushed after moved ∙ table_of-push (batches_of h) (arc_value p.batch) ∙ ap (λ (t : Table). rows_of_batches (batches_of h) ++ t) ready.rows

  few : book_rows (book_of h) + (arc_value p.batch).rows ≤ 2 ^ 40
  few =
      omega (arith, free.rows, size, ap (λ (t : Table). length t) ready.rows, is.lawful.counts, ap (λ (t : Table). length t) (rows-shown h is))

  short : length (book_of h) + 1 < 2 ^ 32
  short =
      elim (Rattle.std.proofs.Math.Nat.eq-or-lt_of_le below) [
        | Rattle.std.proofs.Common.inl eq ↦ absurd (free.entries (length-cut (book_of h) (rows_of_batches (batches_of h)) ∙ omega (arith, eq)))
        | Rattle.std.proofs.Common.inr lt ↦ omega (arith, lt)
      ]
    where
      below : length (book_of h) + 1 ≤ 2 ^ 32
      below = omega (arith, is.lawful.short)

  lawful : LawfulTable (arc_value h.schema) after (pieces_in h ++ ready.piece ∷ []) (arc_value p.stats).items (map (option_map arc_value) p.dictionaries.items) (book_of h ++ (worker, (arc_value p.batch).rows) ∷ [])
  lawful =
      let t = rows_of_batches (batches_of h) in
      Lawful-moved fields words pushed after (pieces_in h ++ ready.piece ∷ []) (arc_value p.stats).items (book_of h ++ (worker, (arc_value p.batch).rows) ∷ []) moved
      (Lawful-push (arc_value h.schema) (batches_of h) (pieces_in h) (arc_value h.stats).items (dictionaries_in h) (book_of h) is.lawful
      (arc_value p.batch) ready.piece (arc_value p.stats).items (map (option_map arc_value) p.dictionaries.items) worker (arc_value p.batch).rows
      ready.stored
      (subst (λ (u : Table). Rattle.compaction.specs.Statistics.AreStatsOf (arc_value h.schema) u ready.piece) (sym ready.rows) ready.parts)
      (subst (λ (u : Table). Rattle.compaction.specs.Statistics.AreStatsOf (arc_value h.schema) (t ++ u) (arc_value p.stats).items) (sym ready.rows) ready.statistics)
      (ready.texts ∙ ap (λ (u : Table). dictionaries_of (arc_value h.schema) (t ++ u)) (sym ready.rows))
      ready.front size few short)

  history : history_from (book_of h ++ (worker, (arc_value p.batch).rows) ∷ []) (rows_of_batches (batches_of h) ++ rows_of b) ≡ (show h).history ++ (worker, rows_of b) ∷ []
  history = cut-push (book_of h) (rows_of_batches (batches_of h)) (rows_of b) worker (arc_value p.batch).rows is.lawful.counts (size ∙ ap (λ (t : Table). length t) ready.rows)

  pub put-shows : show g ≡ admitted (show h) worker b
  put-shows =
      let cuts : (show g).history ≡ (show h).history ++ (worker, rows_of b) ∷ [] =
      ap (λ (e : List (ℕ × ℕ)). history_from e (rows_of_batches (batches_of g))) book_is ∙ ap (λ (t : Table). history_from (book_of h ++ (worker, (arc_value p.batch).rows) ∷ []) t) table ∙ history in
      let tables : (show g).batches ≡ (show h).batches ++ rows_of b ∷ [] =
      ap (λ (l : List Batch). map rows_of l) put.batches ∙ tables-moved fields words pushed after moved ∙ map-append rows_of (batches_of h) (arc_value p.batch ∷ []) ∙ ap (λ (t : Table). map rows_of (batches_of h) ++ t ∷ []) ready.rows in
      λ i. record { fields = put.schema i; history = cuts i; batches = tables i }

  pub put-storage : IsConsistent g
  put-storage = record {
    lawful =
        subst (λ (f : List FieldShape). LawfulTable f (batches_of g) (pieces_in g) (arc_value g.stats).items (dictionaries_in g) (book_of g)) (sym put.schema)
        (subst (λ (l : List Batch). LawfulTable (arc_value h.schema) l (pieces_in g) (arc_value g.stats).items (dictionaries_in g) (book_of g)) (sym put.batches)
        (subst (λ (l : List (List ColumnStats)). LawfulTable (arc_value h.schema) after l (arc_value g.stats).items (dictionaries_in g) (book_of g)) (sym (put.pieces ∙ ready.pieces))
        (subst (λ (s : List ColumnStats). LawfulTable (arc_value h.schema) after (pieces_in h ++ ready.piece ∷ []) s (dictionaries_in g) (book_of g)) (sym (ap (λ (v : Rattle.std.specs.declared.vec.Vec.Vec ColumnStats Rattle.std.specs.declared.alloc.Global.Global). v.items) put.stats))
        (subst (λ (d : List (Option Seen)). LawfulTable (arc_value h.schema) after (pieces_in h ++ ready.piece ∷ []) (arc_value p.stats).items d (book_of g)) (sym put.dictionaries)
        (subst (λ (e : List (ℕ × ℕ)). LawfulTable (arc_value h.schema) after (pieces_in h ++ ready.piece ∷ []) (arc_value p.stats).items (map (option_map arc_value) p.dictionaries.items) e) (sym book_is) lawful)))));
    rows = put.rows ∙ ap (λ n. n + (arc_value p.batch).rows) is.rows ∙ sym (Rattle.table.proofs.TableLemmas.counted-push (book_of h) (worker, (arc_value p.batch).rows)) ∙ ap book_rows (sym book_is);
    legal =
        subst (λ (f : List FieldShape). IsLegal f (show g).history) (sym put.schema)
        (subst (λ (s : Contents). IsLegal (arc_value h.schema) s.history) (sym put-shows)
        (IsLegal-push (arc_value h.schema) (show h).history (worker, rows_of b) is.legal ready.typed same_cause));
  }

  pub put-texts : (pools : List (List (List ℕ))) → ArePools h (rows_of_batches (batches_of h) ++ rows_of b) pools → ArePools g (rows_of_batches (batches_of g)) pools
  put-texts pools are =
      are
      ∙ ap (λ (t : Table). map (texts_in t) (enumerate_from 0 (arc_value h.schema))) (sym table)
      ∙ ap (λ (f : List FieldShape). map (texts_in (rows_of_batches (batches_of g))) (enumerate_from 0 f)) (sym put.schema)
