-- What a table shows of itself.
use Rattle.std.proofs.Common.{◌≡◌, ◌∙◌, ℕ, zero, suc, ◌+◌, ◌<◌, ◌^◌, List, [], ◌∷◌, length, map, All, Option, Some, option_map, ap, sym, subst, arith}
use Rattle.std.specs.Prelude.{slice_get}
use Rattle.std.specs.List.{AllZip, enumerate_from}
use Rattle.std.specs.Arc.{arc_value}
use Rattle.std.specs.declared.sync.Arc.{Arc}
use Rattle.std.specs.declared.alloc.Global.{Global}
use Rattle.std.specs.declared.vec.Vec.{Vec}
use Rattle.std.proofs.lemmas.Option.{same_Some, slice_get-map}
use Rattle.arrays.specs.Prelude.{Batch, FieldShape, Seen, Table, column, kind_of_field, rows_of}
use Rattle.answers.specs.Prelude.{AreStats, ColumnStats}
use Rattle.std.proofs.lemmas.List.{get_or-map, length-map}
use Rattle.table.specs.Prelude.{IsConsistent, batches_of, book, book_of, dictionaries_of, pieces_in, rows, rows_of_batches, show}
use Rattle.compaction.specs.Statistics.{AreStatsOf}
use Rattle.table.specs.declared.storage.Storage.{Storage}
use Rattle.table.proofs.HistoryLemmas.{book-cut, length-cut, rows-cut}

-- the rows of its history are those of its batches
pub rows-shown : (h : Storage) → IsConsistent h → rows (show h).history ≡ rows_of_batches (batches_of h)
rows-shown h is = rows-cut (book_of h) (rows_of_batches (batches_of h)) is.lawful.counts

pub count-shown : (h : Storage) → IsConsistent h → h.rows ≡ length (rows (show h).history)
count-shown h is = is.rows ∙ is.lawful.counts ∙ ap (λ (t : Table). length t) (sym (rows-shown h is))

pub length-book : (h : Storage) → length (show h).history ≡ length (book_of h)
length-book h = length-cut (book_of h) (rows_of_batches (batches_of h))

pub book-shown : (h : Storage) → IsConsistent h → book (show h).history ≡ book_of h
book-shown h is = book-cut (book_of h) (rows_of_batches (batches_of h)) is.lawful.counts

-- ---- lists side by side

pub all_zip-at : {A B : Type 0} (R : A → B → Type 0) (xs : List A) (ys : List B) (k : ℕ) (x : A) (y : B) → AllZip R xs ys → slice_get xs k ≡ Some x → slice_get ys k ≡ Some y → R x y
all_zip-at R [] [] k x y all at there = absurd cc
all_zip-at R [] (b ∷ ys) k x y all at there = absurd all
all_zip-at R (a ∷ xs) [] k x y all at there = absurd all
all_zip-at R (a ∷ xs) (b ∷ ys) zero x y all at there = subst (λ c. R c y) (same_Some a x at) (subst (R a) (same_Some b y there) all.0)
all_zip-at R (a ∷ xs) (b ∷ ys) (suc k) x y all at there = all_zip-at R xs ys k x y all.1 at there

pub length-all_zip : {A B : Type 0} (R : A → B → Type 0) (xs : List A) (ys : List B) → AllZip R xs ys → length xs ≡ length ys
length-all_zip R [] [] all = Rattle.std.proofs.Common.refl
length-all_zip R [] (b ∷ ys) all = absurd all
length-all_zip R (a ∷ xs) [] all = absurd all
length-all_zip R (a ∷ xs) (b ∷ ys) all = ap suc (length-all_zip R xs ys all.1)

pub enumerated : {A : Type 0} (n : ℕ) (xs : List A) (k : ℕ) (x : A) → slice_get xs k ≡ Some x → slice_get (enumerate_from n xs) k ≡ Some (n + k, x)
enumerated n [] k x at = absurd cc
enumerated n (a ∷ xs) zero x at = ap (λ o. option_map (λ z. (n, z)) o) at ∙ ap (λ m. Some (m, x)) (omega arith)
enumerated n (a ∷ xs) (suc k) x at = enumerated (n + 1) xs k x at ∙ ap (λ m. Some (m, x)) (omega arith)

pub length-enumerated : {A : Type 0} (n : ℕ) (xs : List A) → length (enumerate_from n xs) ≡ length xs
length-enumerated n [] = Rattle.std.proofs.Common.refl
length-enumerated n (x ∷ xs) = ap suc (length-enumerated (n + 1) xs)

-- ---- one column

pub stats-at : (fields : List FieldShape) (t : Table) (stats : List ColumnStats) (k : ℕ) (f : FieldShape) (s : ColumnStats) → AreStatsOf fields t stats
    → slice_get fields k ≡ Some f → slice_get stats k ≡ Some s → AreStats s (kind_of_field f) (column t k)
stats-at fields t stats k f s are at there =
    subst (λ j. AreStats s (kind_of_field f) (column t j)) (omega arith)
    (all_zip-at (λ (e : ℕ × FieldShape) (q : ColumnStats). AreStats q (kind_of_field e.1) (column t e.0)) (enumerate_from 0 fields) stats k (0 + k, f) s are (enumerated 0 fields k f at) there)

pub length-stats : (fields : List FieldShape) (t : Table) (stats : List ColumnStats) → AreStatsOf fields t stats → length stats ≡ length fields
length-stats fields t stats are =
    sym (length-all_zip (λ (e : ℕ × FieldShape) (q : ColumnStats). AreStats q (kind_of_field e.1) (column t e.0)) (enumerate_from 0 fields) stats are) ∙ length-enumerated 0 fields

pub length-pieces : (h : Storage) → IsConsistent h → length h.batch_stats ≡ length (show h).batches
length-pieces h is =
    sym (length-map h.batch_stats (λ (s : Arc (Vec ColumnStats Global) Global). (arc_value s).items))
    ∙ sym (length-all_zip (λ (b : Batch) (s : List ColumnStats). AreStatsOf (arc_value h.schema) (rows_of b) s) (batches_of h) (pieces_in h) is.lawful.parts)
    ∙ sym (length-map (batches_of h) rows_of)

pub few-pieces : (h : Storage) → IsConsistent h → length h.batch_stats < 2 ^ 32
few-pieces h is =
    let ends = is.lawful.ends (length (batches_of h)) (omega arith) in
    omega (arith, ends.each, ends.within, is.lawful.short, length-pieces h is, length-map (batches_of h) rows_of)

pub length-dictionaries : (h : Storage) → IsConsistent h → length h.dictionaries.items ≡ length (arc_value h.schema)
unfolding dictionaries_of
length-dictionaries h is =
    sym (length-map h.dictionaries.items (option_map arc_value))
    ∙ ap (λ (l : List (Option Seen)). length l) is.lawful.texts
    ∙ length-map (enumerate_from 0 (arc_value h.schema)) _
    ∙ length-enumerated 0 (arc_value h.schema)

-- the dictionary at a place, by the rows
pub dictionary-at : (h : Storage) → IsConsistent h → (k : ℕ) (o : Option (Arc Seen Global)) → slice_get h.dictionaries.items k ≡ Some o
    → slice_get (dictionaries_of (show h).fields (rows (show h).history)) k ≡ Some (option_map arc_value o)
dictionary-at h is k o at =
    ap (λ (t : Table). slice_get (dictionaries_of (arc_value h.schema) t) k) (rows-shown h is)
    ∙ ap (λ (l : List (Option Seen)). slice_get l k) (sym is.lawful.texts)
    ∙ slice_get-map (option_map arc_value) h.dictionaries.items k
    ∙ ap (option_map (option_map arc_value)) at

-- what holds of all images
pub all-of-map : {A B : Type 0} (P : B → Type 0) (f : A → B) (xs : List A) → All P (map f xs) → All (λ x. P (f x)) xs
all-of-map P f xs all k d below = subst P (get_or-map f xs k d (f d) below) (all k (f d) (omega (arith, below, length-map xs f)))

all_zip-map : {A B C : Type 0} (R : B → C → Type 0) (f : A → B) (xs : List A) (ys : List C) → AllZip (λ x y. R (f x) y) xs ys → AllZip R (map f xs) ys
all_zip-map R f [] [] all = tt
all_zip-map R f [] (y ∷ ys) all = absurd all
all_zip-map R f (x ∷ xs) [] all = absurd all
all_zip-map R f (x ∷ xs) (y ∷ ys) all = (all.0, all_zip-map R f xs ys all.1)

-- the statistics of one batch
pub piece-at : (h : Storage) → IsConsistent h → (i : ℕ) (t : Table) (s : Arc (Vec ColumnStats Global) Global) → slice_get (show h).batches i ≡ Some t → slice_get h.batch_stats i ≡ Some s
    → AreStatsOf (arc_value h.schema) t (arc_value s).items
piece-at h is i t s at there =
    all_zip-at (AreStatsOf (arc_value h.schema)) (map rows_of (batches_of h)) (pieces_in h) i t (arc_value s).items
    (all_zip-map (AreStatsOf (arc_value h.schema)) rows_of (batches_of h) (pieces_in h) is.lawful.parts)
    at
    (slice_get-map (λ (q : Arc (Vec ColumnStats Global) Global). (arc_value q).items) h.batch_stats i ∙ ap (option_map (λ (q : Arc (Vec ColumnStats Global) Global). (arc_value q).items)) there)
