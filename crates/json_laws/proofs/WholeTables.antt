-- The batches of a file hold tables under its fields.
use Rattle.std.proofs.Common.{◌≡◌, ◌∙◌, ℕ, zero, suc, ◌+◌, ◌<◌, ◌≤◌, ◌^◌, List, [], ◌∷◌, ◌++◌, length, map, take, get_or, All, Bool, false, not, eqb, None, Some, ap, arith, refl, subst, sym}
use Rattle.std.specs.Prelude.{nat_lt}
use Rattle.std.specs.List.{AllByRecursion, list_any}
use Rattle.std.proofs.lemmas.Bool.{eqb-true}
use Rattle.std.proofs.lemmas.Bool.Decides.{nat_tests}
use Rattle.std.proofs.lemmas.List.{get_or-map, length-map, take_all, take_more}
use Rattle.std.proofs.lemmas.List.Elements.{All-append, recursion_from_All}
use Rattle.std.proofs.lemmas.Option.{slice_get-get_or}
use Rattle.arrays.specs.Prelude.{AreBatchesOf, Batch, FieldShape, IsItemOf, Item, Seen, batch_fault, is_too_big, kind_of_field, kinds_of, most_slots}
use Rattle.arrays.proofs.BatchLemmas.{whole}
use Rattle.json_base.specs.JsonTable.{Table, items_of, table_of, tables_of}
use Rattle.json_print.proofs.Batches.{lawful_kinds, neither}
use Rattle.json_laws.specs.IsFile.{AreColumns, IsBatch, IsColumn, IsShown, IsTable}

-- ---- loops

alone : {A : Type 0} (P : A → Type 0) (x : A) → P x → All P (x ∷ [])
alone P x here zero d below = here
alone P x here (suc k) d below = absurd (omega (arith, below))

-- What holds of those before one holds with it, and at the end of all.
pub one_more : {A : Type 0} (P : A → Type 0) (xs : List A) (k : ℕ) (x : A) → k < length xs → x ≡ get_or xs k x → All P (take k xs) → P x → All P (take (k + 1) xs)
one_more P xs k x below at all here =
    subst (All P) (sym (take_more xs k x below ∙ ap (λ y. take k xs ++ y ∷ []) (sym at))) (All-append P (take k xs) (x ∷ []) all (alone P x here))

pub all_reported : {A : Type 0} (P : A → Type 0) (xs : List A) (k : ℕ) → length xs ≤ k → All P (take k xs) → All P xs
all_reported P xs k past all = subst (All P) (take_all k xs past) all

-- ---- columns

pub present_by : (c : Seen) → All (IsItemOf c.kind) c.items → is_too_big c.kind c.items ≡ false → IsShown c
present_by c typed few = record { len = refl; typed = recursion_from_All (IsItemOf c.kind) c.items typed; counted = few }

abbrev is_short : ℕ → Seen → Bool
is_short rows c = not (eqb (length c.items) rows)

columns_present : (fields : List FieldShape) (rows : ℕ) (columns : List Seen) → map (λ c. c.kind) columns ≡ kinds_of fields → list_any (is_short rows) columns ≡ false
    → All IsShown columns → AreColumns fields rows (items_of columns)
columns_present [] rows [] same long present = tt
columns_present [] rows (c ∷ columns) same long present = absurd cc
columns_present (f ∷ fields) rows [] same long present = absurd cc
columns_present (f ∷ fields) rows (c ∷ columns) same long present =
    let one : c.kind ≡ kind_of_field f = cc in
    let others : map (λ (d : Seen). d.kind) columns ≡ kinds_of fields = cc in
    let lengths = neither (eqb (length c.items) rows) (list_any (is_short rows) columns) long in
    let here = present 0 c (omega arith) in (
      record {
        len = eqb-true (length c.items) rows lengths.0;
        typed = subst (λ k. AllByRecursion (IsItemOf k) c.items) one here.typed;
        counted = subst (λ k. is_too_big k c.items ≡ false) one here.counted;
      },
      columns_present fields rows columns others lengths.1 (λ i d below. present (suc i) d (omega (arith, below))),
    )

-- ---- batches

few_rows : (rows : ℕ) → nat_lt most_slots rows ≡ false → rows < 2 ^ 31
few_rows rows h = grind (arith, nat_tests)

-- A lawful batch holds a table under its own fields.
pub table_present : (b : Batch) → batch_fault b.fields b.rows b.columns ≡ None → All IsShown b.columns → IsBatch b
table_present b lawful present =
    let all = whole b.fields b.rows b.columns lawful in
    record {
      few = few_rows b.rows all.small;
      columns = columns_present b.fields b.rows b.columns (lawful_kinds b.fields b.rows b.columns lawful) all.long present;
    }

-- ---- files

-- Only the fields' kinds matter.
same_columns : (fields given : List FieldShape) → kinds_of given ≡ kinds_of fields → (rows : ℕ) (columns : List (List Item)) → AreColumns given rows columns → AreColumns fields rows columns
same_columns [] [] same rows columns h = h
same_columns [] (g ∷ given) same rows columns h = absurd cc
same_columns (f ∷ fields) [] same rows columns h = absurd cc
same_columns (f ∷ fields) (g ∷ given) same rows [] h = absurd h
same_columns (f ∷ fields) (g ∷ given) same rows (items ∷ columns) h =
    let one : kind_of_field g ≡ kind_of_field f = cc in
    let others : kinds_of given ≡ kinds_of fields = cc in
    (subst (λ k. IsColumn k rows items) one h.0, same_columns fields given others rows columns h.1)

same_table : (fields given : List FieldShape) (t : Table) → kinds_of given ≡ kinds_of fields → IsTable given t → IsTable fields t
same_table fields given t same h = record { few = h.few; columns = same_columns fields given same t.rows t.columns h.columns }

mapped : {A : Type 0} (f : A → Batch) (fields : List FieldShape) (xs : List A) → All (λ x. IsTable fields (table_of (f x))) xs → AllByRecursion (IsTable fields) (tables_of (map f xs))
mapped f fields [] all = tt
mapped f fields (x ∷ xs) all = (all 0 x (omega arith), mapped f fields xs (λ i d below. all (suc i) d (omega (arith, below))))

-- Batches of a file's kinds hold tables under the file's fields.
pub tables_present : {A : Type 0} (f : A → Batch) (fields : List FieldShape) (xs : List A) → AreBatchesOf fields (map f xs) → All (λ x. IsBatch (f x)) xs
    → AllByRecursion (IsTable fields) (tables_of (map f xs))
tables_present f fields xs same all =
    mapped f fields xs
    (λ i d below. let x = get_or xs i d in
    same_table fields (f x).fields (table_of (f x))
    (same i (f x) (slice_get-get_or (map f xs) i (f d) (subst (λ n. i < n) (sym (length-map xs f)) below) ∙ ap (λ b. Some b) (get_or-map f xs i d (f d) below))) (all i d below))
