-- Groups of batches, one after the other.
use Rattle.std.proofs.Common.{◌≡◌, ◌∙◌, ◌⊎◌, inl, inr, ℕ, zero, suc, ◌+◌, ◌-◌, ◌≤◌, ◌&&◌, List, [], ◌∷◌, ◌++◌, length, map, take, drop, All, true, false, not, Option, ap, sym, subst, arith, append_assoc, length-append, length-drop}
use Rattle.std.specs.Prelude.{nat_lt}
use Rattle.std.specs.Arc.{arc_value}
use Rattle.std.specs.List.{AllZip}
use Rattle.std.proofs.lemmas.Bool.{and_parts, not-true, ltb-false}
use Rattle.std.proofs.lemmas.List.{append-nil, drop-drop, drop-map, drop_all, length-map, length-take-le, map-append, take-map, take_rest}
use Rattle.std.proofs.lemmas.List.Elements.{All-drop, All-push, All-same, All-take}
use Rattle.std.proofs.lemmas.Slice.Zip.{AllZip-long}
use Rattle.arrays.specs.Prelude.{Batch, FieldShape, Seen, Table, is_past, most_slots, rows_of}
use Rattle.arrays.proofs.BatchLemmas.{length-rows_of, whole}
use Rattle.group.proofs.ColumnsLemmas.{all_zip-push}
use Rattle.group.specs.StatsOfColumns.{AreTheirs}
use Rattle.group.specs.declared.stats.ColumnStats.{ColumnStats}
use Rattle.compaction.specs.Prelude.{AreGroups, AreOfFew, AreStatsOf, HaveStats, IsBatchOf, IsGroup, IsUnder, is_big, is_one, pieces_of, together}
use Rattle.compaction.proofs.FrontLemmas.{Shared, length-tables, tables_of}
use Rattle.compaction.proofs.JoinedLemmas.{batches-of}
use Rattle.compaction.proofs.StatisticsLemmas.{SharedStats, of-all-rows, of-columns}

-- ---- parts of lists

-- The n ones from the place on.
abbrev pub part_of : {A : Type 0} → ℕ → ℕ → List A → List A
part_of start n xs = take (start + n - start) (drop start xs)

part-is : {A : Type 0} (start n : ℕ) (xs : List A) → part_of start n xs ≡ take n (drop start xs)
part-is start n xs = let same : start + n - start ≡ n = omega arith in ap (λ k. take k (drop start xs)) same

part-map : {A B : Type 0} (f : A → B) (start n : ℕ) (xs : List A) → map f (part_of start n xs) ≡ part_of start n (map f xs)
part-map f start n xs = sym (take-map f (start + n - start) (drop start xs)) ∙ ap (take (start + n - start)) (sym (drop-map f start xs))

all_zip-take : {A B : Type 0} (R : A → B → Type 0) (n : ℕ) (xs : List A) (ys : List B) → AllZip R xs ys → AllZip R (take n xs) (take n ys)
all_zip-take R zero xs ys all = tt
all_zip-take R (suc n) [] [] all = tt
all_zip-take R (suc n) [] (y ∷ ys) all = absurd all
all_zip-take R (suc n) (x ∷ xs) [] all = absurd all
all_zip-take R (suc n) (x ∷ xs) (y ∷ ys) all = (all.0, all_zip-take R n xs ys all.1)

all_zip-drop : {A B : Type 0} (R : A → B → Type 0) (n : ℕ) (xs : List A) (ys : List B) → AllZip R xs ys → AllZip R (drop n xs) (drop n ys)
all_zip-drop R zero xs ys all = all
all_zip-drop R (suc n) [] [] all = tt
all_zip-drop R (suc n) [] (y ∷ ys) all = absurd all
all_zip-drop R (suc n) (x ∷ xs) [] all = absurd all
all_zip-drop R (suc n) (x ∷ xs) (y ∷ ys) all = all_zip-drop R n xs ys all.1

abbrev pub batches_in : List Shared → List Batch
batches_in shared = map (λ (b : Shared). arc_value b) shared

-- ---- the batches that are left

pub rest-tables : (shared : List Shared) (start : ℕ) → tables_of (take (length shared - start) (drop start shared)) ≡ drop start (tables_of shared)
rest-tables shared start =
    ap tables_of (take_rest shared start) ∙ ap (map rows_of) (sym (drop-map (λ (b : Shared). arc_value b) start shared)) ∙ sym (drop-map rows_of start (batches_in shared))

pub rest-under : (fields : List FieldShape) (words : List (Option Seen)) (shared : List Shared) (start : ℕ) → All (IsUnder fields words) (batches_in shared)
    → All (IsBatchOf fields) (batches_in (take (length shared - start) (drop start shared)))
rest-under fields words shared start under =
    batches-of fields words (batches_in (take (length shared - start) (drop start shared)))
    (All-same (IsUnder fields words) (batches_in (take (length shared - start) (drop start shared))) (drop start (batches_in shared))
    (ap batches_in (take_rest shared start) ∙ sym (drop-map (λ (b : Shared). arc_value b) start shared)) (All-drop (IsUnder fields words) start (batches_in shared) under))

-- ---- one group of them

pub group-batches : (shared : List Shared) (start n : ℕ) → batches_in (part_of start n shared) ≡ take n (drop start (batches_in shared))
group-batches shared start n = part-map (λ (b : Shared). arc_value b) start n shared ∙ part-is start n (batches_in shared)

pub group-tables : (shared : List Shared) (start n : ℕ) → tables_of (part_of start n shared) ≡ take n (drop start (tables_of shared))
group-tables shared start n =
    ap (map rows_of) (part-map (λ (b : Shared). arc_value b) start n shared) ∙ part-map rows_of start n (batches_in shared) ∙ part-is start n (tables_of shared)

pub group-under : (fields : List FieldShape) (words : List (Option Seen)) (shared : List Shared) (start n : ℕ) → All (IsUnder fields words) (batches_in shared)
    → All (IsUnder fields words) (batches_in (part_of start n shared))
group-under fields words shared start n under =
    All-same (IsUnder fields words) (batches_in (part_of start n shared)) (take n (drop start (batches_in shared))) (group-batches shared start n)
    (All-take (IsUnder fields words) n (drop start (batches_in shared)) (All-drop (IsUnder fields words) start (batches_in shared) under))

length-part : {A : Type 0} (start n : ℕ) (xs : List A) → start + n ≤ length xs → length (part_of start n xs) ≡ n
length-part start n xs within = ap (λ (l : List _). length l) (part-is start n xs) ∙ length-take-le n (drop start xs) (omega (arith, within, length-drop start xs))

pub group-within : (fields : List FieldShape) (m start n : ℕ) (shared : List Shared) → start ≤ length shared → IsGroup fields m n (tables_of (take (length shared - start) (drop start shared))) → start + n ≤ length shared
group-within fields m start n shared below group =
    omega (
      arith,
      below,
      group.within,
      ap (λ (l : List Table). length l) (rest-tables shared start),
      length-drop start (tables_of shared),
      length-tables shared,
    )

-- a group that isn't one batch fits one
one-parts : (fields : List FieldShape) (m : ℕ) (t : Table) → is_one fields m t ≡ true → (is_past (length t) ≡ false) × (is_big fields t ≡ false)
one-parts fields m t one =
    let all = and_parts (not (nat_lt m (length t))) (not (is_past (length t)) && not (is_big fields t)) one in
    let more = and_parts (not (is_past (length t))) (not (is_big fields t)) all.1 in
    (not-true (is_past (length t)) more.0, not-true (is_big fields t) more.1)

group-here : (fields : List FieldShape) (m start n : ℕ) (shared : List Shared) → IsGroup fields m n (tables_of (take (length shared - start) (drop start shared))) → IsGroup fields m n (drop start (tables_of shared))
group-here fields m start n shared group = subst (IsGroup fields m n) (rest-tables shared start) group

pub group-fits : (fields : List FieldShape) (m start n : ℕ) (shared : List Shared) → start ≤ length shared → IsGroup fields m n (tables_of (take (length shared - start) (drop start shared)))
    → (length (part_of start n shared) ≡ 1) ⊎ ((is_past (length (together (tables_of (part_of start n shared)))) ≡ false) × (is_big fields (together (tables_of (part_of start n shared))) ≡ false))
group-fits fields m start n shared below group =
    let here = group-here fields m start n shared group in
    let tables = group-tables shared start n in
    elim here.fits [
      | inl one ↦ inl (length-part start n shared (group-within fields m start n shared below group) ∙ one)
      | inr fits ↦ inr (one-parts fields m (together (tables_of (part_of start n shared))) (ap (λ (l : List Table). is_one fields m (together l)) tables ∙ fits))
    ]

pub count-pieces : (shared : List Shared) (stats : List SharedStats) → HaveStats (batches_in shared) (pieces_of stats) → length stats ≡ length shared
count-pieces shared stats have =
    sym (length-map stats (λ (s : SharedStats). (arc_value s).items))
    ∙ AllZip-long (λ (b : Batch) (s : List ColumnStats). AreTheirs b.columns s) (batches_in shared) (pieces_of stats) have
    ∙ length-map shared (λ (b : Shared). arc_value b)

-- the statistics of the group's batches
pub group-stats : (shared : List Shared) (stats : List SharedStats) (start n : ℕ) → HaveStats (batches_in shared) (pieces_of stats) → HaveStats (batches_in (part_of start n shared)) (pieces_of (part_of start n stats))
group-stats shared stats start n have =
    let R : Batch → List ColumnStats → Type 0 = λ b s. AreTheirs b.columns s in
    subst (λ l. AllZip R l (pieces_of (part_of start n stats))) (sym (part-map (λ (b : Shared). arc_value b) start n shared))
    (subst (AllZip R (part_of start n (batches_in shared))) (sym (part-map (λ (s : SharedStats). (arc_value s).items) start n stats))
    (all_zip-take R (start + n - start) (drop start (batches_in shared)) (drop start (pieces_of stats)) (all_zip-drop R start (batches_in shared) (pieces_of stats) have)))

pub group-theirs : (fields : List FieldShape) (words : List (Option Seen)) (shared : List Shared) (stats : List SharedStats) (start n : ℕ) → All (IsUnder fields words) (batches_in shared)
    → HaveStats (batches_in shared) (pieces_of stats) → AllZip (AreStatsOf fields) (tables_of (part_of start n shared)) (pieces_of (part_of start n stats))
group-theirs fields words shared stats start n under have =
    of-all-rows fields (batches_in (part_of start n shared)) (pieces_of (part_of start n stats))
    (batches-of fields words (batches_in (part_of start n shared)) (group-under fields words shared start n under)) (group-stats shared stats start n have)

one-table : (all : List Batch) (fields : List FieldShape) → length all ≡ 1 → All (IsBatchOf fields) all → length (together (map rows_of all)) ≤ most_slots
one-table [] fields one are = absurd (omega (arith, one))
one-table (b ∷ []) fields one are =
    let is : IsBatchOf fields b = are 0 b (omega arith) in
    omega (arith, length-append (rows_of b) [], length-rows_of b, ltb-false most_slots b.rows (whole b.fields b.rows b.columns is.lawful).small)
one-table (b ∷ c ∷ all) fields one are = absurd (omega (arith, one))

pub group-few : (fields : List FieldShape) (words : List (Option Seen)) (m start n : ℕ) (shared : List Shared) (stats : List SharedStats) → start ≤ length shared → All (IsUnder fields words) (batches_in shared)
    → HaveStats (batches_in shared) (pieces_of stats) → IsGroup fields m n (tables_of (take (length shared - start) (drop start shared))) → AreOfFew (pieces_of (part_of start n stats))
group-few fields words m start n shared stats below under have group = record {
  fields = fields;
  tables = tables_of (part_of start n shared);
  stats = group-theirs fields words shared stats start n under have;
  few =
      elim (group-fits fields m start n shared below group) [
        | inl one ↦ one-table (batches_in (part_of start n shared)) fields (length-map (part_of start n shared) (λ (b : Shared). arc_value b) ∙ one)
            (batches-of fields words (batches_in (part_of start n shared)) (group-under fields words shared start n under))
        | inr fits ↦ ltb-false most_slots (length (together (tables_of (part_of start n shared)))) fits.0
      ];
}

-- ---- one group more

pub tables-push : (shared : List Shared) (b : Shared) → tables_of (shared ++ b ∷ []) ≡ tables_of shared ++ rows_of (arc_value b) ∷ []
tables-push shared b = ap (map rows_of) (map-append (λ (c : Shared). arc_value c) shared (b ∷ [])) ∙ map-append rows_of (batches_in shared) (arc_value b ∷ [])

pub groups-more : (fields : List FieldShape) (m start n : ℕ) (shared old new : List Shared) (b : Shared)
    → ((rest : List Table) → AreGroups fields m (drop start (tables_of shared)) rest → AreGroups fields m (tables_of shared) (tables_of old ++ rest))
    → IsGroup fields m n (tables_of (take (length shared - start) (drop start shared))) → rows_of (arc_value b) ≡ together (tables_of (part_of start n shared)) → new ≡ old ++ b ∷ []
    → (rest : List Table) → AreGroups fields m (drop (start + n) (tables_of shared)) rest → AreGroups fields m (tables_of shared) (tables_of new ++ rest)
groups-more fields m start n shared old new b before group rows pushed rest are =
    let here = group-here fields m start n shared group in
    let all : AreGroups fields m (drop start (tables_of shared)) (rows_of (arc_value b) ∷ rest) =
    (n, (here, (rows ∙ ap together (group-tables shared start n), subst (λ l. AreGroups fields m l rest) (sym (drop-drop n start (tables_of shared))) are))) in
    subst (AreGroups fields m (tables_of shared))
    (sym (ap (λ l. tables_of l ++ rest) pushed ∙ ap (λ l. l ++ rest) (tables-push old b) ∙ append_assoc (tables_of old) (rows_of (arc_value b) ∷ []) rest))
    (before (rows_of (arc_value b) ∷ rest) all)

pub groups-end : (fields : List FieldShape) (m start : ℕ) (shared done : List Shared) → length shared ≤ start
    → ((rest : List Table) → AreGroups fields m (drop start (tables_of shared)) rest → AreGroups fields m (tables_of shared) (tables_of done ++ rest)) → AreGroups fields m (tables_of shared) (tables_of done)
groups-end fields m start shared done past before =
    subst (AreGroups fields m (tables_of shared)) (append-nil (tables_of done)) (before [] (drop_all start (tables_of shared) (omega (arith, past, length-tables shared))))

pub under-more : (fields : List FieldShape) (words : List (Option Seen)) (old new : List Shared) (b : Shared) → All (IsUnder fields words) (batches_in old) → IsUnder fields words (arc_value b)
    → new ≡ old ++ b ∷ [] → All (IsUnder fields words) (batches_in new)
under-more fields words old new b all is pushed =
    All-same (IsUnder fields words) (batches_in new) (batches_in old ++ arc_value b ∷ []) (ap batches_in pushed ∙ map-append (λ (c : Shared). arc_value c) old (b ∷ []))
    (All-push (IsUnder fields words) (batches_in old) (arc_value b) all is)

pub stats-more : (fields : List FieldShape) (words : List (Option Seen)) (shared old new : List Shared) (b : Shared) (stats done next : List SharedStats) (s : SharedStats) (start n : ℕ)
    → All (IsUnder fields words) (batches_in shared) → HaveStats (batches_in shared) (pieces_of stats) → IsUnder fields words (arc_value b) → rows_of (arc_value b) ≡ together (tables_of (part_of start n shared))
    → ((f : List FieldShape) (tables : List Table) → AllZip (AreStatsOf f) tables (pieces_of (part_of start n stats)) → AreStatsOf f (together tables) (arc_value s).items)
    → HaveStats (batches_in old) (pieces_of done) → new ≡ old ++ b ∷ [] → next ≡ done ++ s ∷ [] → HaveStats (batches_in new) (pieces_of next)
stats-more fields words shared old new b stats done next s start n under have is rows of before pushed more =
    let R : Batch → List ColumnStats → Type 0 = λ c p. AreTheirs c.columns p in
    let whole_stats = of fields (tables_of (part_of start n shared)) (group-theirs fields words shared stats start n under have) in
    let theirs = of-columns fields (arc_value b) (arc_value s).items (record { same = is.same; lawful = is.lawful }) (subst (λ (t : Table). AreStatsOf fields t (arc_value s).items) (sym rows) whole_stats) in
    subst (λ l. AllZip R l (pieces_of next)) (sym (ap batches_in pushed ∙ map-append (λ (c : Shared). arc_value c) old (b ∷ [])))
    (subst (AllZip R (batches_in old ++ arc_value b ∷ [])) (sym (ap pieces_of more ∙ map-append (λ (p : SharedStats). (arc_value p).items) done (s ∷ [])))
    (all_zip-push R (batches_in old) (pieces_of done) (arc_value b) (arc_value s).items before theirs))
