-- Columns as they are stored, and their statistics.
use Rattle.std.proofs.Common.{◌≡◌, ◌∙◌, ℕ, suc, ◌+◌, ◌≤◌, ◌^◌, List, [], ◌∷◌, ◌++◌, length, map, Bool, true, false, not, cond, eqb, ◌||◌, None, Some, get_or, ap, sym, refl, subst, arith, true≢false, eq-eqb}
use Rattle.std.specs.Prelude.{slice_index_or}
use Rattle.std.specs.List.{AllZip, enumerate_from, list_any, range_with_len, zip}
use Rattle.std.proofs.lemmas.List.{length-map}
use Rattle.table.proofs.FrontLemmas.{prefix_self}
use Rattle.arrays.specs.Prelude.{Batch, FieldShape, Item, Kind, Narrow, Seen, Table, Wide, batch_fault, column, is_recodable, kind_of_field, null, row_of, rows_of, same_kind, shown, text}
use Rattle.arrays.specs.Kind as kind
use Rattle.arrays.proofs.ListArrays.{same_kind-refl}
use Rattle.answers.specs.Prelude.{AreJoined, AreStats, AreTheirs, ColumnStats}
use Rattle.pool.specs.Texts.{firsts, texts_of}
use Rattle.compaction.specs.Under.{NamesFront}
use Rattle.table.specs.Prelude.{coded, dictionary_for, grown, stored_kind, stored_seen, texts_in}
use Rattle.table.proofs.CodeLemmas.{among-grown, codes-back}
use Rattle.std.proofs.lemmas.Simd.{map-map}
use Rattle.table.proofs.TableLemmas.{column-append}
use Rattle.arrays.proofs.BatchLemmas.{faultless, length-rows_of, map-same, whole, wrong_kind}
use Rattle.table.proofs.SuitLemmas.{AllSuit, Suits}

-- ---- the columns

-- A stored column under its field.
pub record Kept (u : Table) (e : ℕ × FieldShape) (c : Seen) : Type 0 where
  pub kind : c.kind ≡ kind_of_field e.1
  pub items : c.items ≡ column u e.0

stored-text : (k : Kind) → is_recodable k ≡ true → kind.dict ≡ stored_kind k
stored-text (kind.texts Narrow) texts = refl
stored-text (kind.texts Wide) texts = absurd (true≢false (sym texts))
stored-text kind.dict texts = refl
stored-text (kind.int t) texts = absurd (true≢false (sym texts))
stored-text kind.boolean texts = absurd (true≢false (sym texts))
stored-text (kind.lists w k) texts = absurd (true≢false (sym texts))

stored-other : (k : Kind) → is_recodable k ≡ false → k ≡ stored_kind k
stored-other (kind.texts Narrow) texts = absurd (true≢false texts)
stored-other (kind.texts Wide) texts = refl
stored-other kind.dict texts = absurd (true≢false texts)
stored-other (kind.int t) texts = refl
stored-other kind.boolean texts = refl
stored-other (kind.lists w k) texts = refl

kept-if : (u : Table) (ts : List (List ℕ)) (e : ℕ × FieldShape) (c : Seen) (b : Bool) → is_recodable c.kind ≡ b → Suits u e c
    → Kept u e (cond b (coded (cond b (firsts (ts ++ texts_of c.items)) ts) c) c)
kept-if u ts e c true texts suits = record {
  kind = stored-text c.kind texts ∙ sym suits.kind;
  items = codes-back (firsts (ts ++ texts_of c.items)) c.kind c.items texts suits.typed (among-grown ts (texts_of c.items)) ∙ sym suits.items;
}
kept-if u ts e c false texts suits = record { kind = stored-other c.kind texts ∙ sym suits.kind; items = sym suits.items }

pub kept-all : (t u : Table) (es : List (ℕ × FieldShape)) (columns : List Seen) → AllSuit u es columns → AllZip (Kept u) es (map stored_seen (zip (map (texts_in t) es) columns))
kept-all t u [] [] all = tt
kept-all t u [] (c ∷ columns) all = absurd all
kept-all t u (e ∷ es) [] all = absurd all
kept-all t u (e ∷ es) (c ∷ columns) all = (kept-if u (texts_in t e) e c (is_recodable c.kind) refl all.0, kept-all t u es columns all.1)

front-if : (b : Bool) (ts : List (List ℕ)) (c : Seen) → NamesFront (cond b (coded ts c) c) (cond b (Some (shown kind.utf8 (map text ts))) None)
front-if true ts c = prefix_self (map text ts)
front-if false ts c = tt

pub front-all : (texts : List (List (List ℕ))) (columns : List Seen)
    → AllZip NamesFront (map stored_seen (zip texts columns)) (map dictionary_for (zip (map grown (zip texts columns)) columns))
front-all [] columns = tt
front-all (ts ∷ texts) [] = tt
front-all (ts ∷ texts) (c ∷ columns) = (front-if (is_recodable c.kind) (grown (ts, c)) c, front-all texts columns)

-- The rows of the stored columns are those of the batch.
kept-items : (u : Table) (es : List (ℕ × FieldShape)) (columns stored : List Seen) → AllSuit u es columns → AllZip (Kept u) es stored
    → map (λ (c : Seen). c.items) stored ≡ map (λ (c : Seen). c.items) columns
kept-items u [] [] [] all kept = refl
kept-items u [] [] (d ∷ stored) all kept = absurd kept
kept-items u [] (c ∷ columns) stored all kept = absurd all
kept-items u (e ∷ es) [] stored all kept = absurd all
kept-items u (e ∷ es) (c ∷ columns) [] all kept = absurd kept
kept-items u (e ∷ es) (c ∷ columns) (d ∷ stored) all kept =
    ap (λ (l : List Item). l ∷ map (λ (x : Seen). x.items) stored) (kept.0.items ∙ all.0.items) ∙ ap (λ l. c.items ∷ l) (kept-items u es columns stored all.1 kept.1)

row-same : (xs ys : List Seen) → map (λ (c : Seen). c.items) xs ≡ map (λ (c : Seen). c.items) ys → (i : ℕ) → row_of xs i ≡ row_of ys i
row-same xs ys same i =
    sym (map-map (λ (l : List Item). get_or l i null) (λ (c : Seen). c.items) xs)
    ∙ ap (map (λ (l : List Item). get_or l i null)) same
    ∙ map-map (λ (l : List Item). get_or l i null) (λ (c : Seen). c.items) ys

pub kept-rows : (u : Table) (es : List (ℕ × FieldShape)) (b stored : Batch) → AllSuit u es b.columns → AllZip (Kept u) es stored.columns → stored.rows ≡ b.rows
    → rows_of stored ≡ rows_of b
kept-rows u es b stored all kept size =
    ap (λ n. map (row_of stored.columns) (range_with_len 0 n)) size
    ∙ map-same (row_of stored.columns) (row_of b.columns) (row-same stored.columns b.columns (kept-items u es b.columns stored.columns all kept)) (range_with_len 0 b.rows)

length-column : (u : Table) (k : ℕ) → length (column u k) ≡ length u
length-column u k = length-map u (λ row. slice_index_or row k null)

kept-kinds : (u : Table) (n : ℕ) (fields : List FieldShape) (stored : List Seen) → AllZip (Kept u) (enumerate_from n fields) stored → list_any wrong_kind (zip stored fields) ≡ false
kept-kinds u n [] [] kept = refl
kept-kinds u n [] (d ∷ stored) kept = absurd kept
kept-kinds u n (f ∷ fields) [] kept = absurd kept
kept-kinds u n (f ∷ fields) (d ∷ stored) kept =
    ap (λ k. not (same_kind k (kind_of_field f)) || list_any wrong_kind (zip stored fields)) kept.0.kind
    ∙ ap (λ b. not b || list_any wrong_kind (zip stored fields)) (same_kind-refl (kind_of_field f))
    ∙ kept-kinds u (n + 1) fields stored kept.1

kept-sizes : (u : Table) (n m : ℕ) (fields : List FieldShape) (stored : List Seen) → AllZip (Kept u) (enumerate_from n fields) stored → length u ≡ m
    → list_any (λ (c : Seen). not (eqb (length c.items) m)) stored ≡ false
kept-sizes u n m [] [] kept size = refl
kept-sizes u n m [] (d ∷ stored) kept size = absurd kept
kept-sizes u n m (f ∷ fields) [] kept size = absurd kept
kept-sizes u n m (f ∷ fields) (d ∷ stored) kept size =
    ap (λ b. not b || list_any (λ (c : Seen). not (eqb (length c.items) m)) stored)
    (eq-eqb (length d.items) m (ap (λ (l : List Item). length l) kept.0.items ∙ length-column u n ∙ size))
    ∙ kept-sizes u (n + 1) m fields stored kept.1 size

kept-count : (u : Table) (n : ℕ) (fields : List FieldShape) (stored : List Seen) → AllZip (Kept u) (enumerate_from n fields) stored → length stored ≡ length fields
kept-count u n [] [] kept = refl
kept-count u n [] (d ∷ stored) kept = absurd kept
kept-count u n (f ∷ fields) [] kept = absurd kept
kept-count u n (f ∷ fields) (d ∷ stored) kept = ap suc (kept-count u (n + 1) fields stored kept.1)

-- The stored columns are a batch.
pub kept-lawful : (fields : List FieldShape) (b : Batch) (stored : List Seen) → AllZip (Kept (rows_of b)) (enumerate_from 0 fields) stored
    → batch_fault b.fields b.rows b.columns ≡ None → batch_fault fields b.rows stored ≡ None
kept-lawful fields b stored kept lawful =
    faultless fields b.rows stored
    (record {
      count = kept-count (rows_of b) 0 fields stored kept;
      kinds = kept-kinds (rows_of b) 0 fields stored kept;
      small = (whole b.fields b.rows b.columns lawful).small;
      long = kept-sizes (rows_of b) 0 b.rows fields stored kept (length-rows_of b);
    })

-- ---- statistics

abbrev TheStats : Table → List (ℕ × FieldShape) → List ColumnStats → Type 0
TheStats t es stats = AllZip (λ (e : ℕ × FieldShape) (s : ColumnStats). AreStats s (kind_of_field e.1) (column t e.0)) es stats

-- Texts have the statistics of their codes.
stats-stored : (s : ColumnStats) (k : Kind) (items : List Item) → AreStats s k items → AreStats s (stored_kind k) items
stats-stored s (kind.texts Wide) items is = is
stats-stored s (kind.texts Narrow) items is = record { rows = is.rows; nulls = is.nulls; sum = is.sum; least = is.least; greatest = is.greatest }
stats-stored s kind.dict items is = is
stats-stored s (kind.int t) items is = is
stats-stored s kind.boolean items is = is
stats-stored s (kind.lists w k) items is = is

pub theirs-all : (u : Table) (es : List (ℕ × FieldShape)) (columns : List Seen) (stats : List ColumnStats) → AllSuit u es columns → AreTheirs columns stats → TheStats u es stats
theirs-all u [] [] [] all theirs = tt
theirs-all u [] [] (s ∷ stats) all theirs = absurd theirs
theirs-all u [] (c ∷ columns) stats all theirs = absurd all
theirs-all u (e ∷ es) [] stats all theirs = absurd all
theirs-all u (e ∷ es) (c ∷ columns) [] all theirs = absurd theirs
theirs-all u (e ∷ es) (c ∷ columns) (s ∷ stats) all theirs = (
  subst (λ k. AreStats s k (column u e.0)) (sym all.0.kind) (subst (AreStats s (stored_kind c.kind)) (sym all.0.items) (stats-stored s c.kind c.items theirs.0)),
  theirs-all u es columns stats all.1 theirs.1,
)

pub joined-all : (t u : Table) (es : List (ℕ × FieldShape)) (olds news stats : List ColumnStats) → TheStats t es olds → TheStats u es news → AreJoined olds news stats → TheStats (t ++ u) es stats
joined-all t u [] [] [] [] old new both = tt
joined-all t u [] [] [] (s ∷ stats) old new both = absurd both
joined-all t u [] [] (b ∷ news) stats old new both = absurd new
joined-all t u [] (a ∷ olds) news stats old new both = absurd old
joined-all t u (e ∷ es) [] news stats old new both = absurd old
joined-all t u (e ∷ es) (a ∷ olds) [] stats old new both = absurd new
joined-all t u (e ∷ es) (a ∷ olds) (b ∷ news) [] old new both = absurd both
joined-all t u (e ∷ es) (a ∷ olds) (b ∷ news) (s ∷ stats) old new both = (
  subst (AreStats s (kind_of_field e.1)) (sym (column-append t u e.0)) (both.0 (kind_of_field e.1) (column t e.0) (column u e.0) old.0 new.0),
  joined-all t u es olds news stats old.1 new.1 both.1,
)

-- The rows of both aren't too many.
abbrev pub IsFew : ColumnStats → ColumnStats → Type 0
IsFew a b = a.rows + b.rows ≤ 2 ^ 40

pub few-all : (t u : Table) (es : List (ℕ × FieldShape)) (olds news : List ColumnStats) → TheStats t es olds → TheStats u es news → length t + length u ≤ 2 ^ 40
    → AllZip IsFew olds news
few-all t u [] [] [] old new few = tt
few-all t u [] [] (b ∷ news) old new few = absurd new
few-all t u [] (a ∷ olds) news old new few = absurd old
few-all t u (e ∷ es) [] news old new few = absurd old
few-all t u (e ∷ es) (a ∷ olds) [] old new few = absurd new
few-all t u (e ∷ es) (a ∷ olds) (b ∷ news) old new few =
    (omega (arith, few, old.0.rows, new.0.rows, length-column t e.0, length-column u e.0), few-all t u es olds news old.1 new.1 few)

pub same-many : (t u : Table) (es : List (ℕ × FieldShape)) (olds news : List ColumnStats) → TheStats t es olds → TheStats u es news → length news ≡ length olds
same-many t u [] [] [] old new = refl
same-many t u [] [] (b ∷ news) old new = absurd new
same-many t u [] (a ∷ olds) news old new = absurd old
same-many t u (e ∷ es) [] news old new = absurd old
same-many t u (e ∷ es) (a ∷ olds) [] old new = absurd new
same-many t u (e ∷ es) (a ∷ olds) (b ∷ news) old new = ap suc (same-many t u es olds news old.1 new.1)
