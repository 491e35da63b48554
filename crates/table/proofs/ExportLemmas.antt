-- A table given out part by part.
use Rattle.std.proofs.Common.{◌≡◌, ◌∙◌, inl, inr, ℕ, zero, suc, ◌+◌, ◌<◌, ◌≤◌, List, [], ◌∷◌, ◌++◌, length, map, take, drop, All, false, not, eqb, ◌||◌, None, Some, get_or, ap, sym, refl, arith, subst, length-append, eq-eqb, nat_lt}
use Rattle.std.specs.Prelude.{nat_lt, slice_get}
use Rattle.std.specs.List.{AllByRecursion, list_any, range_with_len, zip}
use Rattle.std.specs.Arc.{arc_value}
use Rattle.std.specs.declared.alloc.Global.{Global}
use Rattle.std.specs.declared.sync.Arc.{Arc}
use Rattle.std.proofs.Math.Seq.{drop-append-add}
use Rattle.std.proofs.lemmas.Bool.{cases_lt, eqb-true, not-false, or_parts}
use Rattle.std.proofs.lemmas.Bool.Decides.{nat_tests}
use Rattle.std.proofs.lemmas.Grind.{flat_map-append}
use Rattle.std.proofs.lemmas.List.{drop-append-le, drop-drop, drop_more, get_or-drop, get_or-map, get_or-take, length-drop, length-map, length-take-le, take-append-drop, take-append-le, take-take, take_all, take_more}
use Rattle.std.proofs.lemmas.List.FromFn.{get_or-map-range_with_len, length-map-range_with_len, map-range_with_len_more}
use Rattle.std.proofs.lemmas.List.Sums.{sum_by-cons, sum_by-take-le}
use Rattle.std.proofs.lemmas.Option.{get_or_from_slice_get, same_Some, slice_get_within}
use Rattle.std.proofs.lemmas.Simd.{map-map}
use Rattle.arrays.specs.Prelude.{AreBatchesOf, Batch, FieldShape, Item, Row, Seen, Table, batch_fault, kind_of_field, kinds_of, most_slots, null, part, row_of, rows_of, same_kind, slice}
use Rattle.compaction.proofs.ChosenLemmas.{items-chosen, kind-chosen}
use Rattle.table.specs.Prelude.{EndsWithEntry, HasMore, IsConsistent, IsExportPlace, IsLawful, IsUnder, batches_of, book_of, book_rows, copied, history_from, pair_of, passed, rows_before, rows_of_batches, show}
use Rattle.table.specs.declared.entry.Entry.{Entry}
use Rattle.table.specs.declared.export.Place.{Place}
use Rattle.table.specs.declared.storage.Storage.{Storage}
use Rattle.arrays.proofs.BatchLemmas.{faultless, length-rows_of, map-same, sizes, whole, wrong_kind}
use Rattle.table.proofs.StorageLemmas.{length-book}
use Rattle.table.proofs.TableLemmas.{counted-push, table_of-push}

abbrev pub Shared : Type 0
Shared = Arc Batch Global

-- ---- the tables that a book cuts

-- the table of entry k begins behind the rows of the entries before it
pub table-at : (entries : List (ℕ × ℕ)) (t : Table) (k : ℕ) (e : ℕ × ℕ) → slice_get entries k ≡ Some e
    → slice_get (map (λ (p : ℕ × Table). p.1) (history_from entries t)) k ≡ Some (slice t (book_rows (take k entries)) e.1)
table-at [] t k e at = absurd cc
table-at (x ∷ rest) t zero e at = ap (λ (p : ℕ × ℕ). Some (take p.1 t)) (same_Some x e at)
table-at (x ∷ rest) t (suc k) e at =
    table-at rest (drop x.1 t) k e at
    ∙ ap (λ u. Some (take e.1 u)) (drop-drop (book_rows (take k rest)) x.1 t)
    ∙ ap (λ n. Some (slice t n e.1)) (sym (sum_by-cons (λ (p : ℕ × ℕ). p.1) x (take k rest)))

-- ---- how many rows entries count

pub counted-next : (entries : List (ℕ × ℕ)) (k : ℕ) (e : ℕ × ℕ) → slice_get entries k ≡ Some e → book_rows (take (k + 1) entries) ≡ book_rows (take k entries) + e.1
counted-next entries k e at =
    let below = slice_get_within entries k e at in
    ap book_rows (take_more entries k e below)
    ∙ ap (λ (p : ℕ × ℕ). book_rows (take k entries ++ p ∷ [])) (get_or_from_slice_get entries k e e at)
    ∙ counted-push (take k entries) e

counted-longer : (entries : List (ℕ × ℕ)) (k m : ℕ) → k ≤ m → book_rows (take k entries) ≤ book_rows (take m entries)
counted-longer entries k m le =
    omega (arith, ap book_rows (take-take k m entries le), sum_by-take-le (λ (p : ℕ × ℕ). p.1) (take m entries) k)

-- no batch ends within an entry
pub ends-behind : (batches : List Batch) (entries : List (ℕ × ℕ)) (i k : ℕ) → EndsWithEntry batches entries i
    → book_rows (take k entries) < rows_before batches i → book_rows (take (k + 1) entries) ≤ rows_before batches i
ends-behind batches entries i k ends before =
    elim (cases_lt k ends.entries) [
      | inl lt ↦ omega (arith, ends.same, counted-longer entries (k + 1) ends.entries (omega (arith, lt)))
      | inr le ↦ absurd (omega (arith, before, ends.same, counted-longer entries ends.entries k le))
    ]

-- ---- the rows before a batch

pub rows_before-next : (batches : List Batch) (i : ℕ) (b : Batch) → i < length batches → rows_before batches (i + 1) ≡ rows_before batches i + (get_or batches i b).rows
rows_before-next batches i b below =
    let one = get_or batches i b in
    ap (λ (l : List Batch). length (rows_of_batches l)) (take_more batches i b below)
    ∙ ap (λ (t : Table). length t) (table_of-push (take i batches) one)
    ∙ length-append (rows_of_batches (take i batches)) (rows_of one)
    ∙ ap (λ n. rows_before batches i + n) (length-rows_of one)

-- the same of shared batches
pub rows_before-shared : (batches : List Shared) (i : ℕ) (x : Shared) (n : ℕ) → i < length batches → x ≡ get_or batches i x → n ≡ (arc_value x).rows
    → rows_before (map (λ (b : Shared). arc_value b) batches) (i + 1) ≡ rows_before (map (λ (b : Shared). arc_value b) batches) i + n
rows_before-shared batches i x n below at size =
    let all = map (λ (b : Shared). arc_value b) batches in
    rows_before-next all i (arc_value x) (omega (arith, below, length-map batches (λ (b : Shared). arc_value b)))
    ∙ ap (λ (b : Batch). rows_before all i + b.rows) (get_or-map (λ (b : Shared). arc_value b) batches i x (arc_value x) below ∙ ap arc_value (sym at))
    ∙ ap (λ m. rows_before all i + m) (sym size)

-- rows of the table are those of their batch
pub slice-table : (batches : List Batch) (i used n : ℕ) (b : Batch) → i < length batches → used + n ≤ (get_or batches i b).rows
    → slice (rows_of_batches batches) (rows_before batches i + used) n ≡ slice (rows_of (get_or batches i b)) used n
slice-table batches i used n b below within =
    let one = get_or batches i b in
    let front = rows_of_batches (take i batches) in
    let rest = rows_of_batches (drop (i + 1) batches) in
    let size = length-rows_of one in
    let whole : rows_of_batches batches ≡ front ++ (rows_of one ++ rest) =
    ap rows_of_batches (sym (take-append-drop i batches))
    ∙ flat_map-append rows_of (take i batches) (drop i batches)
    ∙ ap (λ (l : List Batch). front ++ rows_of_batches l) (drop_more batches i b below) in
    ap (λ (t : Table). slice t (length front + used) n) whole
    ∙ ap (take n) (drop-append-add front (rows_of one ++ rest) used)
    ∙ ap (take n) (drop-append-le used (rows_of one) rest (omega (arith, within, size)))
    ∙ take-append-le n (drop used (rows_of one)) rest (omega (arith, within, size, length-drop used (rows_of one)))

-- ---- a part of a batch

items-copied : (start n : ℕ) (c : Seen) → (copied start n c).items ≡ slice c.items start n
items-copied start n c = items-chosen c.kind (λ items. items) (part start n c)

kind-copied : (start n : ℕ) (c : Seen) → (copied start n c).kind ≡ c.kind
kind-copied start n c = kind-chosen c.kind (λ items. items) (part start n c)

item-copied : (start n i : ℕ) (c : Seen) → i < n → get_or (copied start n c).items i null ≡ get_or c.items (start + i) null
item-copied start n i c below =
    ap (λ (l : List Item). get_or l i null) (items-copied start n c)
    ∙ get_or-take n (drop start c.items) i null below
    ∙ get_or-drop start c.items i null

row-copied : (start n i : ℕ) (columns : List Seen) → i < n → row_of (map (copied start n) columns) i ≡ row_of columns (start + i)
row-copied start n i columns below =
    map-map (λ (c : Seen). get_or c.items i null) (copied start n) columns
    ∙ map-same _ (λ (c : Seen). get_or c.items (start + i) null) (λ c. item-copied start n i c below) columns

rows-copied : (columns : List Seen) (rows start n m : ℕ) → start + n ≤ rows → m ≤ n
    → map (row_of (map (copied start n) columns)) (range_with_len 0 m) ≡ slice (map (row_of columns) (range_with_len 0 rows)) start m
rows-copied columns rows start n zero within few = refl
rows-copied columns rows start n (suc m) within few =
    let one : suc m ≡ m + 1 = omega arith in
    let all = map (row_of columns) (range_with_len 0 rows) in
    let below : m < length (drop start all) = omega (arith, within, few, length-drop start all, length-map-range_with_len (row_of columns) 0 rows) in
    ap (λ k. map (row_of (map (copied start n) columns)) (range_with_len 0 k)) one
    ∙ map-range_with_len_more (row_of (map (copied start n) columns)) 0 m m (omega arith)
    ∙ ap (λ (l : Table). l ++ row_of (map (copied start n) columns) m ∷ []) (rows-copied columns rows start n m within (omega (arith, few)))
    ∙ ap (λ (r : Row). slice all start m ++ r ∷ []) (row-copied start n m columns (omega (arith, few)))
    ∙ ap (λ (r : Row). slice all start m ++ r ∷ [])
    (sym (get_or-drop start all m [] ∙ get_or-map-range_with_len (row_of columns) 0 rows (start + m) (start + m) [] (omega (arith, within, few)) (omega arith)))
    ∙ sym (take_more (drop start all) m [] below)
    ∙ ap (slice all start) (sym one)

-- a batch of the columns' parts has a part of the rows
pub rows-of-part : (b p : Batch) (start n : ℕ) → start + n ≤ b.rows → p.rows ≡ n → p.columns ≡ map (copied start n) b.columns → rows_of p ≡ slice (rows_of b) start n
rows-of-part b p start n within count columns =
    ap (λ (l : List Seen). map (row_of l) (range_with_len 0 p.rows)) columns
    ∙ ap (λ m. map (row_of (map (copied start n) b.columns)) (range_with_len 0 m)) count
    ∙ rows-copied b.columns b.rows start n n within (omega arith)

-- all rows are such a part
pub rows-of-all : (b : Batch) (start n : ℕ) → start + n ≤ b.rows → n ≡ b.rows → rows_of b ≡ slice (rows_of b) start n
rows-of-all b start n within all =
    let none : start ≡ 0 = omega (arith, within, all) in
    sym (ap (λ s. slice (rows_of b) s n) none ∙ take_all n (rows_of b) (omega (arith, all, length-rows_of b)))

kinds-copied : (start n : ℕ) (columns : List Seen) (fields : List FieldShape) → list_any wrong_kind (zip (map (copied start n) columns) fields) ≡ list_any wrong_kind (zip columns fields)
kinds-copied start n [] fields = refl
kinds-copied start n (c ∷ columns) [] = refl
kinds-copied start n (c ∷ columns) (f ∷ fields) =
    ap (λ k. not (same_kind k (kind_of_field f)) || list_any wrong_kind (zip (map (copied start n) columns) fields)) (kind-copied start n c)
    ∙ ap (λ b. not (same_kind c.kind (kind_of_field f)) || b) (kinds-copied start n columns fields)

lengths-copied : (start n rows : ℕ) (columns : List Seen) → start + n ≤ rows → list_any (λ (c : Seen). not (eqb (length c.items) rows)) columns ≡ false
    → list_any (λ (c : Seen). not (eqb (length c.items) n)) (map (copied start n) columns) ≡ false
lengths-copied start n rows [] within long = refl
lengths-copied start n rows (c ∷ columns) within long =
    let parts = or_parts (not (eqb (length c.items) rows)) (list_any (λ (d : Seen). not (eqb (length d.items) rows)) columns) long in
    let size : length c.items ≡ rows = eqb-true (length c.items) rows (not-false (eqb (length c.items) rows) parts.0) in
    let here : length (copied start n c).items ≡ n =
    ap (λ (l : List Item). length l) (items-copied start n c) ∙ length-take-le n (drop start c.items) (omega (arith, size, within, length-drop start c.items)) in
    ap (λ b. not b || list_any (λ (d : Seen). not (eqb (length d.items) n)) (map (copied start n) columns)) (eq-eqb (length (copied start n c).items) n here)
    ∙ lengths-copied start n rows columns within parts.1

pub part-lawful : (b : Batch) (start n : ℕ) → start + n ≤ b.rows → batch_fault b.fields b.rows b.columns ≡ None → batch_fault b.fields n (map (copied start n) b.columns) ≡ None
part-lawful b start n within lawful =
    let is = whole b.fields b.rows b.columns lawful in
    faultless b.fields n (map (copied start n) b.columns)
    (record {
      count = length-map b.columns (copied start n) ∙ is.count;
      kinds = kinds-copied start n b.columns b.fields ∙ is.kinds;
      small = smaller b.rows is.small (omega (arith, within));
      long = lengths-copied start n b.rows b.columns within is.long;
    })
  where
    smaller : (rows : ℕ) → nat_lt most_slots rows ≡ false → n ≤ rows → nat_lt most_slots n ≡ false
    smaller rows small le = grind (arith, nat_tests)

-- A part of a batch fits the fields that the batch has.
pub part-fits : (b : Batch) (fields : List FieldShape) (columns : List Seen) (start n : ℕ) → start + n ≤ b.rows → batch_fault b.fields b.rows b.columns ≡ None
    → fields ≡ b.fields → columns ≡ map (copied start n) b.columns → batch_fault fields n columns ≡ None
part-fits b fields columns start n within lawful same are =
    ap (λ (f : List FieldShape). batch_fault f n columns) same ∙ ap (batch_fault b.fields n) are ∙ part-lawful b start n within lawful

pub slots-within : (b : Batch) (start n : ℕ) → start + n ≤ b.rows → batch_fault b.fields b.rows b.columns ≡ None → All (λ (c : Seen). start + n ≤ length c.items) b.columns
slots-within b start n within lawful =
    λ k d below. omega (arith, within, sizes b.rows b.columns (whole b.fields b.rows b.columns lawful).long k d below)

-- ---- all batches under the same fields

pub are-batches : (fields : List FieldShape) (batches : List Shared) → All (λ (b : Shared). IsUnder fields (arc_value b)) batches → AreBatchesOf fields (map (λ (b : Shared). arc_value b) batches)
are-batches fields [] all i b at = absurd cc
are-batches fields (x ∷ batches) all zero b at = ap (λ (c : Batch). kinds_of c.fields) (sym (same_Some (arc_value x) b at)) ∙ ap kinds_of (all 0 x (omega arith)).0
are-batches fields (x ∷ batches) all (suc i) b at = are-batches fields batches (λ k d below. all (suc k) d (omega (arith, below))) i b at

pub are-under : (fields : List FieldShape) (batches : List Shared) → All (λ (b : Shared). IsUnder fields (arc_value b)) batches
    → AllByRecursion (λ (b : Batch). b.fields ≡ fields) (map (λ (b : Shared). arc_value b) batches)
are-under fields [] all = tt
are-under fields (x ∷ batches) all = ((all 0 x (omega arith)).0, are-under fields batches (λ k d below. all (suc k) d (omega (arith, below))))

pub are-lawful : (fields : List FieldShape) (batches : List Shared) → All (λ (b : Shared). IsUnder fields (arc_value b)) batches
    → AllByRecursion IsLawful (map (λ (b : Shared). arc_value b) batches)
are-lawful fields [] all = tt
are-lawful fields (x ∷ batches) all = ((all 0 x (omega arith)).1, are-lawful fields batches (λ k d below. all (suc k) d (omega (arith, below))))

-- ---- where an entry's rows are

-- The rows of entry k begin at the place, in a batch with rows behind it, where there is one.
record Begins (batches : List Batch) (entries : List (ℕ × ℕ)) (k : ℕ) (e : ℕ × ℕ) (p : Place) : Type 0 where
  pub entry : slice_get entries k ≡ Some e
  pub within : p.batch < length batches
  pub same : passed batches p ≡ book_rows (take k entries)
  pub place : IsExportPlace batches p
  pub more : passed batches p < length (rows_of_batches batches) → HasMore batches p

-- its batch has all of them
entry-fits : (h : Storage) → IsConsistent h → (k : ℕ) (e : ℕ × ℕ) (p : Place) (d : Batch) → Begins (batches_of h) (book_of h) k e p → p.used + e.1 ≤ (get_or (batches_of h) p.batch d).rows
entry-fits h is k e p d at =
    let batches = batches_of h in
    let entries = book_of h in
    let next = counted-next entries k e at.entry in
    let few = sum_by-take-le (λ (x : ℕ × ℕ). x.1) entries (k + 1) in
    let size = rows_before-next batches p.batch d at.within in
    elim (cases_lt (passed batches p) (length (rows_of_batches batches))) [
      | inl lt ↦
          let within = at.more lt in
          let behind = ends-behind batches entries (p.batch + 1) k (is.lawful.ends (p.batch + 1) (omega (arith, at.within))) (omega (arith, at.same, within)) in
          omega (arith, at.same, behind, size, next)
      | inr le ↦ omega (arith, le, at.same, at.place, size, next, few, is.lawful.counts)
    ]

take-next : {A : Type 0} (xs : List A) (k : ℕ) (x : A) → slice_get xs k ≡ Some x → take (k + 1) xs ≡ take k xs ++ x ∷ []
take-next xs k x at =
    take_more xs k x (slice_get_within xs k x at) ∙ ap (λ y. take k xs ++ y ∷ []) (get_or_from_slice_get xs k x x at)

-- the tables of a table's history
abbrev pub tables : Storage → List Table
tables h = map (λ (e : ℕ × Table). e.1) (show h).history

-- they are the next table
entry-table : (h : Storage) (k : ℕ) (e : ℕ × ℕ) (p : Place) (d : Batch) (t : Table) → Begins (batches_of h) (book_of h) k e p → p.used + e.1 ≤ (get_or (batches_of h) p.batch d).rows
    → t ≡ slice (rows_of (get_or (batches_of h) p.batch d)) p.used e.1 → take (k + 1) (tables h) ≡ take k (tables h) ++ t ∷ []
entry-table h k e p d t at fits is =
    let all = rows_of_batches (batches_of h) in
    let here : slice all (book_rows (take k (book_of h))) e.1 ≡ t =
    ap (λ n. slice all n e.1) (sym at.same) ∙ slice-table (batches_of h) p.batch p.used e.1 d at.within fits ∙ sym is in
    take-next (tables h) k t (table-at (book_of h) all k e at.entry ∙ ap Some here)

-- Entry k lies in the batch, from the place on.
pub record Lies (h : Storage) (k : ℕ) (e : ℕ × ℕ) (p : Place) (b : Batch) : Type 0 where
  pub within : p.batch < length h.batches.items
  pub fits : p.used + e.1 ≤ b.rows
  pub small : b.rows ≤ most_slots
  pub under : IsUnder (arc_value h.schema) b
  pub place : rows_before (batches_of h) p.batch + (p.used + e.1) ≤ rows_before (batches_of h) (p.batch + 1)
  pub behind : rows_before (batches_of h) p.batch + (p.used + e.1) ≡ book_rows (take (k + 1) (book_of h))
  pub table : (t : Table) → t ≡ slice (rows_of b) p.used e.1 → take (k + 1) (tables h) ≡ take k (tables h) ++ t ∷ []

lies-there : (h : Storage) → IsConsistent h → (k : ℕ) (e : ℕ × ℕ) (p : Place) (x : Shared) → Begins (batches_of h) (book_of h) k e p → x ≡ get_or h.batches.items p.batch x → Lies h k e p (arc_value x)
lies-there h is k e p x at there =
    let b = get_or (batches_of h) p.batch (arc_value x) in
    let below : p.batch < length h.batches.items = omega (arith, at.within, length-map h.batches.items (λ (y : Shared). arc_value y)) in
    let same : b ≡ arc_value x = get_or-map (λ (y : Shared). arc_value y) h.batches.items p.batch x (arc_value x) below ∙ ap arc_value (sym there) in
    let stored = is.lawful.stored p.batch (arc_value x) at.within in
    let fits = entry-fits h is k e p (arc_value x) at in
    subst (Lies h k e p) same
    (record {
      within = below;
      fits = fits;
      small = few b.rows (whole b.fields b.rows b.columns stored.lawful).small;
      under = (stored.same, stored.lawful);
      place = omega (arith, fits, rows_before-next (batches_of h) p.batch (arc_value x) at.within);
      behind = omega (arith, at.same, counted-next (book_of h) k e at.entry);
      table = λ t rows. entry-table h k e p (arc_value x) t at fits rows;
    })
  where
    few : (n : ℕ) → nat_lt most_slots n ≡ false → n ≤ most_slots
    few n small = grind (arith, nat_tests)

-- the batch that is found for an entry is such a one
pub lies : (h : Storage) → IsConsistent h → (k : ℕ) (batches : List Shared) (e : Entry) (p q : Place) (x : Shared)
    → batches ≡ h.batches.items → slice_get (book_of h) k ≡ Some (pair_of e) → passed (batches_of h) p ≡ book_rows (take k (book_of h))
    → passed (map (λ (b : Shared). arc_value b) batches) q ≡ passed (map (λ (b : Shared). arc_value b) batches) p → IsExportPlace (map (λ (b : Shared). arc_value b) batches) q
    → q.batch < length batches
    → (passed (map (λ (b : Shared). arc_value b) batches) p < length (rows_of_batches (map (λ (b : Shared). arc_value b) batches)) → HasMore (map (λ (b : Shared). arc_value b) batches) q)
    → x ≡ get_or h.batches.items q.batch x → Lies h k (pair_of e) q (arc_value x)
lies h is k batches e p q x stored entry before same place within more there =
    let all = map (λ (b : Shared). arc_value b) batches in
    let all_is : all ≡ batches_of h = ap (map (λ (b : Shared). arc_value b)) stored in
    let begun : Begins all (book_of h) k (pair_of e) q =
    record {
      entry = entry;
      within = omega (arith, within, length-map batches (λ (b : Shared). arc_value b));
      same = same ∙ ap (λ (l : List Batch). passed l p) all_is ∙ before;
      place = place;
      more = λ lt. more (omega (arith, lt, same));
    } in
    lies-there h is k (pair_of e) q x (subst (λ (l : List Batch). Begins l (book_of h) k (pair_of e) q) all_is begun) there

-- all entries have their tables
pub tables-all : (h : Storage) (k : ℕ) → length (book_of h) ≤ k → take k (tables h) ≡ tables h
tables-all h k over = take_all k (tables h) (omega (arith, over, length-book h, length-map (show h).history (λ (e : ℕ × Table). e.1)))
