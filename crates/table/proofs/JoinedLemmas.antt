-- A table whose neighbouring batches are joined.
use Rattle.std.proofs.Common.{◌≡◌, ◌∙◌, ℕ, suc, ◌+◌, ◌<◌, ◌≤◌, List, [], ◌∷◌, ◌++◌, length, map, take, drop, All, Bool, true, false, cond, ◌||◌, position, Option, None, Some, option_map, get_or, ap, sym, refl, subst, arith}
use Rattle.std.specs.Prelude.{Err, Ok, OnErr, OnOk, Result}
use Rattle.std.specs.Arc.{arc_value}
use Rattle.std.specs.List.{AllZip, enumerate_from, list_any, zip}
use Rattle.std.specs.declared.alloc.Global.{Global}
use Rattle.std.specs.declared.sync.Arc.{Arc}
use Rattle.std.specs.declared.vec.Vec.{Vec}
use Rattle.std.proofs.lemmas.List.{get_or-map, length-map, take-map}
use Rattle.std.proofs.lemmas.List.Concat.{flat_map-cons}
use Rattle.std.proofs.lemmas.List.Elements.{All-cons, All-drop, All-map, All-take}
use Rattle.std.proofs.lemmas.List.Folds.{flat_map-map, list_any-append}
use mathlib.Core.List.{IsPrefix}
use Rattle.arrays.specs.Prelude.{Batch, FieldShape, Item, NoMemory, Seen, Table, batch_fault, column, first, is_null, is_nullable, kind_of_field, rows_of, same_kind, shown, text}
use Rattle.arrays.specs.Kind as kind
use Rattle.arrays.proofs.FirstLemmas.{first-none}
use Rattle.arrays.proofs.ChildLemmas.{same_kinds}
use Rattle.answers.specs.Prelude.{AreStats, AreTheirs, ColumnStats}
use Rattle.compaction.specs.Prelude.{AreGroups, AreStatsOf, HaveStats, IsDictionary, IsUnder, pieces_of, together}
use Rattle.compaction.proofs.GroupLemmas.{groups-few, groups-some, groups-together}
use Rattle.table.specs.Prelude.{ArePools, BeginWithTexts, EndsWithEntry, IsCompacted, IsConsistent, IsLegal, IsSame, IsStored, IsWith, LawfulTable, batches_of, book_of, book_rows, column_texts, dictionaries_in, dictionaries_of, dictionary_in, history_from, is_text_field, null_cause, null_in, null_row, pieces_in, rows_of_batches, show, texts_in}
use Rattle.table.specs.declared.storage.Storage.{Storage}
use Rattle.table.specs.declared.refusal.Refusal.TheVariants.{NullInNonNullable}
use Rattle.pool.proofs.PlaceLemmas.{among_missing}
use Rattle.table.proofs.BatchLemmas.{HasColumns-rows_of}
use Rattle.arrays.proofs.BatchLemmas.{missing, whole, wrong_kind}
use Rattle.std.proofs.lemmas.Bool.{not-false, or_parts}
use Rattle.table.proofs.KeptLemmas.{Kept}
use Rattle.table.proofs.FrontLemmas.{prefix_self}
use Rattle.table.proofs.PutLemmas.{Storage-same}
use Rattle.table.proofs.TableLemmas.{column-append}

-- ---- dictionaries

dictionary-if : (f : FieldShape) (b : Bool) (d : Seen) → is_text_field f ≡ b → d.kind ≡ kind.utf8 → IsDictionary f (cond b (Some d) None)
dictionary-if f true d is texts = (is, texts)
dictionary-if f false d is texts = is

dictionaries-from : (t : Table) (n : ℕ) (fields : List FieldShape) → AllZip IsDictionary fields (map (dictionary_in t) (enumerate_from n fields))
dictionaries-from t n [] = tt
dictionaries-from t n (f ∷ fields) = (
  dictionary-if f (is_text_field f) (shown kind.utf8 (map text (texts_in t (n, f)))) refl refl,
  dictionaries-from t (n + 1) fields,
)

pub dictionaries-all : (fields : List FieldShape) (t : Table) → AllZip IsDictionary fields (dictionaries_of fields t)
unfolding dictionaries_of
dictionaries-all fields t = dictionaries-from t 0 fields

pub storage-dictionaries : (h : Storage) → IsConsistent h → AllZip IsDictionary (arc_value h.schema) (dictionaries_in h)
storage-dictionaries h is =
    subst (AllZip IsDictionary (arc_value h.schema)) (sym is.lawful.texts) (dictionaries-all (arc_value h.schema) (rows_of_batches (batches_of h)))

pub storage-under : (h : Storage) → IsConsistent h → All (IsUnder (arc_value h.schema) (dictionaries_in h)) (batches_of h)
storage-under h is = λ i b below.
    let stored = is.lawful.stored i b below in
    record { same = stored.same; lawful = stored.lawful; fronts = is.lawful.fronts i b below }

-- ---- statistics

kept-from : (u : Table) (n : ℕ) (fields : List FieldShape) (columns : List Seen) → length columns ≡ length fields → list_any wrong_kind (zip columns fields) ≡ false
    → ((k : ℕ) (d : Seen) → k < length columns → column u (n + k) ≡ (get_or columns k d).items) → AllZip (Kept u) (enumerate_from n fields) columns
kept-from u n [] [] count kinds at = tt
kept-from u n [] (c ∷ columns) count kinds at = absurd (omega (arith, count))
kept-from u n (f ∷ fields) [] count kinds at = absurd (omega (arith, count))
kept-from u n (f ∷ fields) (c ∷ columns) count kinds at =
    let two = or_parts (wrong_kind (c, f)) (list_any wrong_kind (zip columns fields)) kinds in
    let here : n ≡ n + 0 = omega arith in (
      record {
        kind = same_kinds c.kind (kind_of_field f) (not-false (same_kind c.kind (kind_of_field f)) two.0);
        items = sym (ap (column u) here ∙ at 0 c (omega arith));
      },
      kept-from u (n + 1) fields columns (omega (arith, count)) two.1
          (λ k d below. let there : n + 1 + k ≡ n + suc k = omega arith in ap (column u) there ∙ at (suc k) d (omega (arith, below))),
    )

pub kept-batch : (fields : List FieldShape) (b : Batch) → b.fields ≡ fields → batch_fault b.fields b.rows b.columns ≡ None → AllZip (Kept (rows_of b)) (enumerate_from 0 fields) b.columns
kept-batch fields b same lawful =
    let is = whole b.fields b.rows b.columns lawful in
    subst (λ (fs : List FieldShape). AllZip (Kept (rows_of b)) (enumerate_from 0 fs) b.columns) same
    (kept-from (rows_of b) 0 b.fields b.columns is.count is.kinds
    (λ k d below. let there : 0 + k ≡ k = omega arith in ap (column (rows_of b)) there ∙ (HasColumns-rows_of b lawful).each k d below))

abbrev HasStats : Table → ℕ × FieldShape → ColumnStats → Type 0
HasStats t e s = AreStats s (kind_of_field e.1) (column t e.0)

theirs-of : (u : Table) (es : List (ℕ × FieldShape)) (columns : List Seen) (stats : List ColumnStats) → AllZip (Kept u) es columns → AllZip (HasStats u) es stats → AreTheirs columns stats
theirs-of u [] [] [] kept are = tt
theirs-of u [] [] (s ∷ stats) kept are = absurd are
theirs-of u [] (c ∷ columns) stats kept are = absurd kept
theirs-of u (e ∷ es) [] stats kept are = absurd kept
theirs-of u (e ∷ es) (c ∷ columns) [] kept are = absurd are
theirs-of u (e ∷ es) (c ∷ columns) (s ∷ stats) kept are = (
  subst (λ k. AreStats s k c.items) (sym kept.0.kind) (subst (AreStats s (kind_of_field e.1)) (sym kept.0.items) are.0),
  theirs-of u es columns stats kept.1 are.1,
)

stats-of : (u : Table) (es : List (ℕ × FieldShape)) (columns : List Seen) (stats : List ColumnStats) → AllZip (Kept u) es columns → AreTheirs columns stats → AllZip (HasStats u) es stats
stats-of u [] [] [] kept are = tt
stats-of u [] [] (s ∷ stats) kept are = absurd are
stats-of u [] (c ∷ columns) stats kept are = absurd kept
stats-of u (e ∷ es) [] stats kept are = absurd kept
stats-of u (e ∷ es) (c ∷ columns) [] kept are = absurd are
stats-of u (e ∷ es) (c ∷ columns) (s ∷ stats) kept are = (
  subst (λ k. AreStats s k (column u e.0)) kept.0.kind (subst (AreStats s c.kind) kept.0.items are.0),
  stats-of u es columns stats kept.1 are.1,
)

have-stats : (fields : List FieldShape) (batches : List Batch) (pieces : List (List ColumnStats)) → All (IsStored fields) batches
    → AllZip (λ b s. AreStatsOf fields (rows_of b) s) batches pieces → HaveStats batches pieces
have-stats fields [] [] stored parts = tt
have-stats fields [] (s ∷ pieces) stored parts = absurd parts
have-stats fields (b ∷ batches) [] stored parts = absurd parts
have-stats fields (b ∷ batches) (s ∷ pieces) stored parts =
    let one = stored 0 b (omega arith) in (
      theirs-of (rows_of b) (enumerate_from 0 fields) b.columns s (kept-batch fields b one.same one.lawful) parts.0,
      have-stats fields batches pieces (λ i d below. stored (suc i) d (omega (arith, below))) parts.1,
    )

parts-of : (fields : List FieldShape) (dictionaries : List (Option Seen)) (batches : List Batch) (pieces : List (List ColumnStats)) → All (IsUnder fields dictionaries) batches
    → HaveStats batches pieces → AllZip (λ b s. AreStatsOf fields (rows_of b) s) batches pieces
parts-of fields dictionaries [] [] under have = tt
parts-of fields dictionaries [] (s ∷ pieces) under have = absurd have
parts-of fields dictionaries (b ∷ batches) [] under have = absurd have
parts-of fields dictionaries (b ∷ batches) (s ∷ pieces) under have =
    let one = under 0 b (omega arith) in (
      stats-of (rows_of b) (enumerate_from 0 fields) b.columns s (kept-batch fields b one.same one.lawful) have.0,
      parts-of fields dictionaries batches pieces (λ i d below. under (suc i) d (omega (arith, below))) have.1,
    )

pub storage-stats : (h : Storage) → IsConsistent h → HaveStats (batches_of h) (pieces_in h)
storage-stats h is = have-stats (arc_value h.schema) (batches_of h) (pieces_in h) is.lawful.stored is.lawful.parts

-- ---- nulls

abbrev NoNull : List FieldShape → Table → Type 0
NoNull fields t = null_cause fields t ≡ None

unmapped : {A B : Type 0} (f : A → B) (o : Option A) → option_map f o ≡ None → o ≡ None
unmapped f None none = refl
unmapped f (Some x) none = absurd cc

position-both : (xs ys : List Item) → position is_null xs ≡ None → position is_null ys ≡ None → position is_null (xs ++ ys) ≡ None
position-both xs ys front back =
    missing is_null (xs ++ ys)
    (list_any-append is_null xs ys ∙ ap (λ b. b || list_any is_null ys) (among_missing is_null xs front) ∙ among_missing is_null ys back)

null-if : (b : Bool) (k : ℕ) (xs ys : List Item) → option_map (λ row. NullInNonNullable k row) (cond b None (position is_null xs)) ≡ None
    → option_map (λ row. NullInNonNullable k row) (cond b None (position is_null ys)) ≡ None
    → option_map (λ row. NullInNonNullable k row) (cond b None (position is_null (xs ++ ys))) ≡ None
null-if true k xs ys front back = refl
null-if false k xs ys front back =
    ap (option_map (λ row. NullInNonNullable k row))
    (position-both xs ys (unmapped (λ row. NullInNonNullable k row) (position is_null xs) front) (unmapped (λ row. NullInNonNullable k row) (position is_null ys) back))

null-from : (t u : Table) (es : List (ℕ × FieldShape)) → first (map (null_in t) es) ≡ None → first (map (null_in u) es) ≡ None → first (map (null_in (t ++ u)) es) ≡ None
null-from t u [] front back = refl
null-from t u (e ∷ es) front back =
    let x = first-none (null_in t e) (map (null_in t) es) front in
    let y = first-none (null_in u e) (map (null_in u) es) back in
    let one : null_in (t ++ u) e ≡ None =
    ap (λ (l : List Item). option_map (λ row. NullInNonNullable e.0 row) (null_row e.1 l)) (column-append t u e.0)
    ∙ null-if (is_nullable e.1) e.0 (column t e.0) (column u e.0) x.0 y.0 in
    ap (λ o. first (o ∷ map (null_in (t ++ u)) es)) one ∙ null-from t u es x.1 y.1

no-rows : (es : List (ℕ × FieldShape)) → first (map (null_in []) es) ≡ None
no-rows [] = refl
no-rows (e ∷ es) = ap (λ o. first (o ∷ map (null_in []) es)) (by (is_nullable e.1)) ∙ no-rows es
  where
    by : (b : Bool) → option_map (λ row. NullInNonNullable e.0 row) (cond b None (position is_null [])) ≡ None
    by true = refl
    by false = refl

null-append : (fields : List FieldShape) (t u : Table) → NoNull fields t → NoNull fields u → NoNull fields (t ++ u)
unfolding null_cause
null-append fields t u front back = null-from t u (enumerate_from 0 fields) front back

null-none : (fields : List FieldShape) → NoNull fields []
unfolding null_cause
null-none fields = no-rows (enumerate_from 0 fields)

null-together : (fields : List FieldShape) (tables : List Table) → All (NoNull fields) tables → NoNull fields (together tables)
null-together fields [] all = null-none fields
null-together fields (t ∷ tables) all =
    subst (NoNull fields) (sym (flat_map-cons (λ (u : Table). u) t tables))
    (null-append fields t (together tables) (all 0 t (omega arith)) (null-together fields tables (λ i d below. all (suc i) d (omega (arith, below)))))

null-groups : (fields : List FieldShape) (m : ℕ) (tables groups : List Table) → AreGroups fields m tables groups → All (NoNull fields) tables → All (NoNull fields) groups
null-groups fields m tables [] are all = λ i d below. absurd (omega (arith, below))
null-groups fields m tables (g ∷ groups) are all =
    let n = are.0 in
    All-cons (NoNull fields) g groups
    (subst (NoNull fields) (sym are.1.1.0) (null-together fields (take n tables) (All-take (NoNull fields) n tables all)))
    (null-groups fields m (drop n tables) groups are.1.1.1 (All-drop (NoNull fields) n tables all))

-- ---- the table

abbrev tables_of : List Batch → List Table
tables_of batches = map rows_of batches

tables-together : (batches : List Batch) → together (tables_of batches) ≡ rows_of_batches batches
tables-together batches = flat_map-map (λ (t : Table). t) rows_of batches

front-together : (batches : List Batch) (i : ℕ) → together (take i (tables_of batches)) ≡ rows_of_batches (take i batches)
front-together batches i = ap together (take-map rows_of i batches) ∙ tables-together (take i batches)

module _ (fields : List FieldShape) (m : ℕ) (olds news : List Batch) (groups : AreGroups fields m (tables_of olds) (tables_of news)) where
  pub same-table : rows_of_batches news ≡ rows_of_batches olds
  same-table = sym (tables-together news) ∙ groups-together fields m (tables_of olds) (tables_of news) groups ∙ tables-together olds

  ends-joined : (entries : List (ℕ × ℕ)) → ((i : ℕ) → i ≤ length olds → EndsWithEntry olds entries i) → (i : ℕ) → i ≤ length news → EndsWithEntry news entries i
  ends-joined entries ends i within =
      let few = groups-few fields m (tables_of olds) (tables_of news) groups i (omega (arith, within, length-map news rows_of)) in
      let j = few.0 in
      let old = ends j (omega (arith, few.2, length-map olds rows_of)) in
      record {
        entries = old.entries;
        each = omega (arith, few.1, old.each);
        within = old.within;
        same = ap (λ (t : Table). length t) (sym (front-together news i) ∙ few.3 ∙ front-together olds j) ∙ old.same;
      }

  pub joined-lawful : (pieces theirs : List (List ColumnStats)) (stats : List ColumnStats) (dictionaries : List (Option Seen)) (entries : List (ℕ × ℕ))
      → LawfulTable fields olds pieces stats dictionaries entries → All (IsUnder fields dictionaries) news → HaveStats news theirs → LawfulTable fields news theirs stats dictionaries entries
  joined-lawful pieces theirs stats dictionaries entries is under have =
      let clean : All (NoNull fields) (tables_of news) =
      null-groups fields m (tables_of olds) (tables_of news) groups (All-map (NoNull fields) rows_of olds (λ i b below. (is.stored i b below).nulls)) in
      record {
        stored = λ i b below. let one = under i b below in record {
          same = one.same;
          lawful = one.lawful;
          nulls = subst (NoNull fields) (get_or-map rows_of news i b (rows_of b) below) (clean i (rows_of b) (omega (arith, below, length-map news rows_of)));
        };
        ends = ends-joined entries is.ends;
        some = λ entry. omega (arith, length-map news rows_of, groups-some fields m (tables_of olds) (tables_of news) (omega (arith, is.some entry, length-map olds rows_of)) groups);
        counts = is.counts ∙ ap (λ (t : Table). length t) (sym same-table);
        few = is.few;
        short = is.short;
        texts = is.texts ∙ ap (dictionaries_of fields) (sym same-table);
        fronts = λ i b below. (under i b below).fronts;
        statistics = subst (λ (t : Table). AreStatsOf fields t stats) (sym same-table) is.statistics;
        parts = parts-of fields dictionaries news theirs under have;
      }

-- ---- what is held

module _ (h other : Storage) (m : ℕ) (batches : List (Arc Batch Global)) (theirs : List (Arc (Vec ColumnStats Global) Global))
    (is : IsConsistent h) (with : IsWith batches theirs h other) (groups : AreGroups (arc_value h.schema) m (tables_of (batches_of h)) (tables_of (map arc_value batches)))
    (under : All (IsUnder (arc_value h.schema) (dictionaries_in h)) (map arc_value batches)) (have : HaveStats (map arc_value batches) (pieces_of theirs)) where
  lawful : LawfulTable (arc_value h.schema) (map arc_value batches) (pieces_of theirs) (arc_value h.stats).items (dictionaries_in h) (book_of h)
  lawful =
      joined-lawful (arc_value h.schema) m (batches_of h) (map arc_value batches) groups (pieces_in h) (pieces_of theirs) (arc_value h.stats).items (dictionaries_in h) (book_of h)
      is.lawful under have

  batches_are : batches_of other ≡ map arc_value batches
  batches_are = ap (map arc_value) with.batches

  history : (show other).history ≡ (show h).history
  history =
      ap (λ (e : List (ℕ × ℕ)). history_from e (rows_of_batches (batches_of other))) with.book
      ∙ ap (λ (b : List Batch). history_from (book_of h) (rows_of_batches b)) batches_are
      ∙ ap (history_from (book_of h)) (same-table (arc_value h.schema) m (batches_of h) (map arc_value batches) groups)

  pub joined-storage : IsConsistent other
  joined-storage = record {
    lawful =
        subst (λ (f : List FieldShape). LawfulTable f (batches_of other) (pieces_in other) (arc_value other.stats).items (dictionaries_in other) (book_of other)) (sym with.schema)
        (subst (λ (b : List Batch). LawfulTable (arc_value h.schema) b (pieces_in other) (arc_value other.stats).items (dictionaries_in other) (book_of other)) (sym batches_are)
        (subst (λ (p : List (List ColumnStats)). LawfulTable (arc_value h.schema) (map arc_value batches) p (arc_value other.stats).items (dictionaries_in other) (book_of other)) (sym (ap pieces_of with.pieces))
        (subst (λ (s : List ColumnStats). LawfulTable (arc_value h.schema) (map arc_value batches) (pieces_of theirs) s (dictionaries_in other) (book_of other)) (sym with.stats)
        (subst (λ (d : List (Option Seen)). LawfulTable (arc_value h.schema) (map arc_value batches) (pieces_of theirs) (arc_value h.stats).items d (book_of other)) (sym with.dictionaries)
        (subst (λ (e : List (ℕ × ℕ)). LawfulTable (arc_value h.schema) (map arc_value batches) (pieces_of theirs) (arc_value h.stats).items (dictionaries_in h) e) (sym with.book) lawful)))));
    rows = with.rows ∙ is.rows ∙ ap book_rows (sym with.book);
    legal =
        subst (λ (f : List FieldShape). IsLegal f (show other).history) (sym with.schema)
        (subst (IsLegal (arc_value h.schema)) (sym history) is.legal);
  }

  pub joined-shows : IsCompacted m (show h) (show other)
  joined-shows = record {
    fields = with.schema;
    history = history;
    groups = subst (λ (b : List Batch). AreGroups (arc_value h.schema) m (tables_of (batches_of h)) (tables_of b)) (sym batches_are) groups;
  }

pub compacted-table : (h other : Storage) (m : ℕ) → IsCompacted m (show h) (show other) → rows_of_batches (batches_of other) ≡ rows_of_batches (batches_of h)
compacted-table h other m is = same-table (arc_value h.schema) m (batches_of h) (batches_of other) is.groups

-- ---- texts

all-begin : (texts : List (List (List ℕ))) → AllZip IsPrefix texts texts
all-begin [] = tt
all-begin (t ∷ texts) = (prefix_self t, all-begin texts)

pub texts-begin : (h : Storage) (t : Table) (pools : List (List (List ℕ))) → ArePools h t pools → BeginWithTexts h t pools
texts-begin h t pools are = subst (AllZip IsPrefix (column_texts h t)) (sym are) (all-begin (column_texts h t))

-- the texts are those of the same rows
pub texts-same : (h other : Storage) (pools : List (List (List ℕ))) → (arc_value other.schema ≡ arc_value h.schema) × (rows_of_batches (batches_of other) ≡ rows_of_batches (batches_of h)) → ArePools h (rows_of_batches (batches_of h)) pools → ArePools other (rows_of_batches (batches_of other)) pools
texts-same h other pools same are =
    are
    ∙ ap (λ (t : Table). map (texts_in t) (enumerate_from 0 (arc_value h.schema))) (sym same.1)
    ∙ ap (λ (f : List FieldShape). map (texts_in (rows_of_batches (batches_of other))) (enumerate_from 0 f)) (sym same.0)

-- whether the change was committed or not
pub after-commit : {L : Type 0} (r : Result L NoMemory) (h next new : Storage) (olds pools : Vec (List (List ℕ)) Global) → IsConsistent h → ArePools h (rows_of_batches (batches_of h)) olds.items
    → IsConsistent next → (arc_value next.schema ≡ arc_value h.schema) × (rows_of_batches (batches_of next) ≡ rows_of_batches (batches_of h))
    → OnOk r (IsSame next new) → OnOk r (pools ≡ olds) → OnErr r (new ≡ h) → OnErr r (ArePools h (rows_of_batches (batches_of h)) pools.items)
    → IsConsistent new × ArePools new (rows_of_batches (batches_of new)) pools.items
after-commit (Ok seen) h next new olds pools is are stands same committed kept unchanged back = (
  Storage-same next new committed stands,
  texts-same h new pools.items (committed.schema ∙ same.0, ap rows_of_batches committed.batches ∙ same.1) (ap (λ (v : Vec (List (List ℕ)) Global). v.items) kept ∙ are),
)
after-commit (Err e) h next new olds pools is are stands same committed kept unchanged back = (
  subst IsConsistent (sym unchanged) is,
  subst (λ (x : Storage). ArePools x (rows_of_batches (batches_of x)) pools.items) (sym unchanged) back,
)
