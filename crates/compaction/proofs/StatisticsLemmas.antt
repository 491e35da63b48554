-- Statistics of tables that are put together.
use Rattle.std.proofs.Common.{◌≡◌, ◌∙◌, ℕ, suc, ◌+◌, ◌-◌, ◌^◌, ◌≤◌, ◌<◌, List, [], ◌∷◌, ◌++◌, length, map, take, drop, All, get_or, ap, sym, subst, arith, length-append, length-drop}
use Rattle.std.specs.Arc.{arc_value}
use Rattle.std.specs.declared.alloc.Global.{Global}
use Rattle.std.specs.declared.sync.Arc.{Arc}
use Rattle.std.specs.declared.vec.Vec.{Vec}
use Rattle.std.specs.List.{AllZip, enumerate_from}
use Rattle.std.proofs.lemmas.List.{get_or-map, get_or-drop, length-map, take_all, take_rest}
use Rattle.std.proofs.lemmas.List.Elements.{All-head, All-tail}
use Rattle.std.proofs.lemmas.Slice.Zip.{AllZip-long}
use Rattle.std.proofs.lemmas.List.FromFn.{length-enumerate_from}
use Rattle.arrays.specs.Prelude.{Batch, FieldShape, Item, Seen, Table, column, kind_of_field, most_slots, rows_of}
use Rattle.arrays.proofs.BatchLemmas.{column-is, column-append, length-column}
use Rattle.group.specs.Prelude.{AreJoined, AreStats, AreTheirs}
use Rattle.group.specs.declared.stats.ColumnStats.{ColumnStats}
use Rattle.compaction.specs.Prelude.{AreOfFew, AreStatsOf, HaveStats, IsBatchOf, pieces_of, together}
use Rattle.compaction.proofs.BatchLemmas.{count-of, kind-at}
use Rattle.compaction.proofs.FrontLemmas.{any_field, rows-front, together-more}
use Rattle.compaction.proofs.JoinedLemmas.{IsColumn, all_zip-at}

-- ---- two tables

rows-two : (t u : Table) (n : ℕ) (fields : List FieldShape) (a b : List ColumnStats) → AllZip (λ e s. AreStats s (kind_of_field e.1) (column t e.0)) (enumerate_from n fields) a
    → AllZip (λ e s. AreStats s (kind_of_field e.1) (column u e.0)) (enumerate_from n fields) b → length t + length u ≤ most_slots → AllZip (λ x y. x.rows + y.rows ≤ 2 ^ 40) a b
rows-two t u n [] [] [] first second few = tt
rows-two t u n [] (x ∷ a) b first second few = absurd first
rows-two t u n [] [] (y ∷ b) first second few = absurd second
rows-two t u n (f ∷ fields) [] b first second few = absurd first
rows-two t u n (f ∷ fields) (x ∷ a) [] first second few = absurd second
rows-two t u n (f ∷ fields) (x ∷ a) (y ∷ b) first second few = (
  omega (arith, first.0.rows, second.0.rows, length-column t n, length-column u n, few),
  rows-two t u (n + 1) fields a b first.1 second.1 few,
)

pub few-two : (fields : List FieldShape) (t u : Table) (a b : List ColumnStats) → AreStatsOf fields t a → AreStatsOf fields u b → length t + length u ≤ most_slots → AllZip (λ x y. x.rows + y.rows ≤ 2 ^ 40) a b
few-two fields t u a b first second few = rows-two t u 0 fields a b first second few

pub count-stats : (fields : List FieldShape) (t : Table) (stats : List ColumnStats) → AreStatsOf fields t stats → length stats ≡ length fields
count-stats fields t stats are =
    AllZip-long (λ (e : ℕ × FieldShape) (s : ColumnStats). AreStats s (kind_of_field e.1) (column t e.0)) (enumerate_from 0 fields) stats are ∙ length-enumerate_from 0 fields

two-from : (t u : Table) (n : ℕ) (fields : List FieldShape) (a b s : List ColumnStats) → AllZip (λ e s. AreStats s (kind_of_field e.1) (column t e.0)) (enumerate_from n fields) a
    → AllZip (λ e s. AreStats s (kind_of_field e.1) (column u e.0)) (enumerate_from n fields) b → AreJoined a b s
    → AllZip (λ e s. AreStats s (kind_of_field e.1) (column (t ++ u) e.0)) (enumerate_from n fields) s
two-from t u n [] [] [] [] first second joined = tt
two-from t u n [] [] [] (z ∷ s) first second joined = absurd joined
two-from t u n [] (x ∷ a) b s first second joined = absurd first
two-from t u n [] [] (y ∷ b) s first second joined = absurd second
two-from t u n (f ∷ fields) [] b s first second joined = absurd first
two-from t u n (f ∷ fields) (x ∷ a) [] s first second joined = absurd second
two-from t u n (f ∷ fields) (x ∷ a) (y ∷ b) [] first second joined = absurd joined
two-from t u n (f ∷ fields) (x ∷ a) (y ∷ b) (z ∷ s) first second joined = (
  subst (λ (l : List Item). AreStats z (kind_of_field f) l) (sym (column-append t u n)) (joined.0 (kind_of_field f) (column t n) (column u n) first.0 second.0),
  two-from t u (n + 1) fields a b s first.1 second.1 joined.1,
)

pub stats-two : (fields : List FieldShape) (t u : Table) (a b s : List ColumnStats) → AreStatsOf fields t a → AreStatsOf fields u b → AreJoined a b s → AreStatsOf fields (t ++ u) s
stats-two fields t u a b s first second joined = two-from t u 0 fields a b s first second joined

-- ---- all tables, one after the other

abbrev pub SharedStats : Type 0
SharedStats = Arc (Vec ColumnStats Global) Global

pub piece-at : (shared : List SharedStats) (n : ℕ) (s : SharedStats) → n < length shared → s ≡ get_or shared n s → (arc_value s).items ≡ get_or (pieces_of shared) n (arc_value s).items
piece-at shared n s below is =
    ap (λ (x : SharedStats). (arc_value x).items) is ∙ sym (get_or-map (λ (x : SharedStats). (arc_value x).items) shared n s (arc_value s).items below)

pub count-tables : (fields : List FieldShape) (tables : List Table) (shared : List SharedStats) → AllZip (AreStatsOf fields) tables (pieces_of shared) → length tables ≡ length shared
count-tables fields tables shared are =
    sym (AllZip-long (AreStatsOf fields) tables (pieces_of shared) are) ∙ length-map shared (λ (x : SharedStats). (arc_value x).items)

-- statistics that are read are the table's at the place
pub read-stats : (fields : List FieldShape) (tables : List Table) (shared : List SharedStats) (n : ℕ) (s : SharedStats) → AllZip (AreStatsOf fields) tables (pieces_of shared) → n < length shared
    → s ≡ get_or shared n s → AreStatsOf fields (get_or tables n []) (arc_value s).items
read-stats fields tables shared n s are below is =
    subst (AreStatsOf fields (get_or tables n [])) (sym (piece-at shared n s below is))
    (all_zip-at (AreStatsOf fields) tables (pieces_of shared) n [] (arc_value s).items are (omega (arith, below, count-tables fields tables shared are)))

-- the first tables' statistics, so many of them
abbrev pub AreOfFirst : ℕ → List SharedStats → List ColumnStats → Type 0
AreOfFirst n shared stats = (fields : List FieldShape) (tables : List Table) → AllZip (AreStatsOf fields) tables (pieces_of shared) → AreStatsOf fields (together (take n tables)) stats

pub first-one : (shared : List SharedStats) (s : SharedStats) → 1 ≤ length shared → s ≡ get_or shared 0 s → AreOfFirst 1 shared (arc_value s).items
first-one shared s some is fields tables are =
    let same : 0 + 1 ≡ 1 = omega arith in
    subst (λ (t : Table). AreStatsOf fields t (arc_value s).items)
    (sym (ap (λ n. together (take n tables)) (sym same) ∙ together-more tables 0 (omega (arith, some, count-tables fields tables shared are))))
    (read-stats fields tables shared 0 s are some is)

pub first-more : (shared : List SharedStats) (n : ℕ) (s : SharedStats) (all new : List ColumnStats) → n < length shared → s ≡ get_or shared n s → AreOfFirst n shared all → AreJoined all (arc_value s).items new
    → AreOfFirst (n + 1) shared new
first-more shared n s all new below is before joined fields tables are =
    subst (λ (t : Table). AreStatsOf fields t new) (sym (together-more tables n (omega (arith, below, count-tables fields tables shared are))))
    (stats-two fields (together (take n tables)) (get_or tables n []) all (arc_value s).items new (before fields tables are) (read-stats fields tables shared n s are below is) joined)

pub first-all : (shared : List SharedStats) (n : ℕ) (all : List ColumnStats) → length shared ≤ n → AreOfFirst n shared all → (fields : List FieldShape) (tables : List Table)
    → AllZip (AreStatsOf fields) tables (pieces_of shared) → AreStatsOf fields (together tables) all
first-all shared n all past before fields tables are =
    subst (λ (l : List Table). AreStatsOf fields (together l) all) (take_all n tables (omega (arith, past, count-tables fields tables shared are))) (before fields tables are)

-- what putting them together asks
pub first-count : (shared : List SharedStats) (n : ℕ) (s : SharedStats) (all : List ColumnStats) → AreOfFew (pieces_of shared) → n < length shared → s ≡ get_or shared n s → AreOfFirst n shared all
    → length (arc_value s).items ≡ length all
first-count shared n s all are below is before =
    count-stats are.fields (get_or are.tables n []) (arc_value s).items (read-stats are.fields are.tables shared n s are.stats below is)
    ∙ sym (count-stats are.fields (together (take n are.tables)) all (before are.fields are.tables are.stats))

pub first-few : (shared : List SharedStats) (n : ℕ) (s : SharedStats) (all : List ColumnStats) → AreOfFew (pieces_of shared) → n < length shared → s ≡ get_or shared n s → AreOfFirst n shared all
    → AllZip (λ x y. x.rows + y.rows ≤ 2 ^ 40) all (arc_value s).items
first-few shared n s all are below is before =
    let t = together (take n are.tables) in
    let u = get_or are.tables n [] in
    few-two are.fields t u all (arc_value s).items (before are.fields are.tables are.stats) (read-stats are.fields are.tables shared n s are.stats below is)
    (omega (
      arith,
      are.few,
      rows-front (n + 1) are.tables,
      ap (λ (v : Table). length v) (together-more are.tables n (omega (arith, below, count-tables are.fields are.tables shared are.stats))),
      length-append t u,
    ))

-- ---- statistics of the columns of batches

columns-from : (t : Table) (n : ℕ) (fields : List FieldShape) (columns : List Seen) → length columns ≡ length fields
    → ((k : ℕ) (d : Seen) → k < length fields → IsColumn t (n + k, get_or fields k any_field) (get_or columns k d)) → AllZip (IsColumn t) (enumerate_from n fields) columns
columns-from t n [] [] count each = tt
columns-from t n [] (c ∷ columns) count each = absurd (omega (arith, count))
columns-from t n (f ∷ fields) [] count each = absurd (omega (arith, count))
columns-from t n (f ∷ fields) (c ∷ columns) count each = (
  let here : n + 0 ≡ n = omega arith in subst (λ m. IsColumn t (m, f) c) here (each 0 c (omega arith)),
  columns-from t (n + 1) fields columns (omega (arith, count))
      (λ k d below. let there : n + suc k ≡ n + 1 + k = omega arith in subst (λ m. IsColumn t (m, get_or fields k any_field) (get_or columns k d)) there (each (suc k) d (omega (arith, below)))),
)

-- the columns of a batch are those of its rows
pub columns-are : (fields : List FieldShape) (b : Batch) → IsBatchOf fields b → AllZip (IsColumn (rows_of b)) (enumerate_from 0 fields) b.columns
columns-are fields b is = columns-from (rows_of b) 0 fields b.columns (count-of fields b is) (λ k d below. at k d below)
  where
    at : (k : ℕ) (d : Seen) → k < length fields → IsColumn (rows_of b) (0 + k, get_or fields k any_field) (get_or b.columns k d)
    at k d below =
        let same : 0 + k ≡ k = omega arith in
        record {
          kind = kind-at fields b k any_field is below d;
          items = sym (column-is b k d is.lawful (omega (arith, below, count-of fields b is))) ∙ ap (column (rows_of b)) (sym same);
        }

theirs-to : (t : Table) (n : ℕ) (fields : List FieldShape) (columns : List Seen) (stats : List ColumnStats) → AllZip (IsColumn t) (enumerate_from n fields) columns → AreTheirs columns stats
    → AllZip (λ e s. AreStats s (kind_of_field e.1) (column t e.0)) (enumerate_from n fields) stats
theirs-to t n [] [] [] are theirs = tt
theirs-to t n [] [] (s ∷ stats) are theirs = absurd theirs
theirs-to t n [] (c ∷ columns) stats are theirs = absurd are
theirs-to t n (f ∷ fields) [] stats are theirs = absurd are
theirs-to t n (f ∷ fields) (c ∷ columns) [] are theirs = absurd theirs
theirs-to t n (f ∷ fields) (c ∷ columns) (s ∷ stats) are theirs = (
  subst (AreStats s (kind_of_field f)) are.0.items (subst (λ k. AreStats s k c.items) are.0.kind theirs.0),
  theirs-to t (n + 1) fields columns stats are.1 theirs.1,
)

theirs-from : (t : Table) (n : ℕ) (fields : List FieldShape) (columns : List Seen) (stats : List ColumnStats) → AllZip (IsColumn t) (enumerate_from n fields) columns
    → AllZip (λ e s. AreStats s (kind_of_field e.1) (column t e.0)) (enumerate_from n fields) stats → AreTheirs columns stats
theirs-from t n [] [] [] are of = tt
theirs-from t n [] [] (s ∷ stats) are of = absurd of
theirs-from t n [] (c ∷ columns) stats are of = absurd are
theirs-from t n (f ∷ fields) [] stats are of = absurd are
theirs-from t n (f ∷ fields) (c ∷ columns) [] are of = absurd of
theirs-from t n (f ∷ fields) (c ∷ columns) (s ∷ stats) are of = (
  subst (AreStats s c.kind) (sym are.0.items) (subst (λ k. AreStats s k (column t n)) (sym are.0.kind) of.0),
  theirs-from t (n + 1) fields columns stats are.1 of.1,
)

-- statistics of a batch's columns are those of its rows, and the other way round
pub of-rows : (fields : List FieldShape) (b : Batch) (stats : List ColumnStats) → IsBatchOf fields b → AreTheirs b.columns stats → AreStatsOf fields (rows_of b) stats
of-rows fields b stats is theirs = theirs-to (rows_of b) 0 fields b.columns stats (columns-are fields b is) theirs

pub of-columns : (fields : List FieldShape) (b : Batch) (stats : List ColumnStats) → IsBatchOf fields b → AreStatsOf fields (rows_of b) stats → AreTheirs b.columns stats
of-columns fields b stats is of = theirs-from (rows_of b) 0 fields b.columns stats (columns-are fields b is) of

pub of-all-rows : (fields : List FieldShape) (batches : List Batch) (pieces : List (List ColumnStats)) → All (IsBatchOf fields) batches → HaveStats batches pieces → AllZip (AreStatsOf fields) (map rows_of batches) pieces
of-all-rows fields [] [] all have = tt
of-all-rows fields [] (s ∷ pieces) all have = absurd have
of-all-rows fields (b ∷ batches) [] all have = absurd have
of-all-rows fields (b ∷ batches) (s ∷ pieces) all have = (
  of-rows fields b s (All-head (IsBatchOf fields) b batches all) have.0,
  of-all-rows fields batches pieces (All-tail (IsBatchOf fields) b batches all) have.1,
)

-- ---- what is behind the first ones

pub rest-within : (shared : List SharedStats) (n i : ℕ) → i < length (take (length shared - n) (drop n shared)) → n + i < length shared
rest-within shared n i below = omega (arith, below, ap (λ (l : List SharedStats). length l) (take_rest shared n), length-drop n shared)

pub rest-past : (shared : List SharedStats) (n i : ℕ) → length (take (length shared - n) (drop n shared)) ≤ i → length shared ≤ n + i
rest-past shared n i past = omega (arith, past, ap (λ (l : List SharedStats). length l) (take_rest shared n), length-drop n shared)

pub rest-at : (shared : List SharedStats) (n i : ℕ) (s : SharedStats) → s ≡ get_or (take (length shared - n) (drop n shared)) i s → s ≡ get_or shared (n + i) s
rest-at shared n i s is = is ∙ ap (λ (l : List SharedStats). get_or l i s) (take_rest shared n) ∙ get_or-drop n shared i s
