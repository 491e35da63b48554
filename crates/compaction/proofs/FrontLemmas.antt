-- The longest fronts that pass tests.
use Rattle.std.proofs.Common.{◌≡◌, ◌∙◌, ◌⊎◌, inl, inr, ℕ, zero, suc, ◌+◌, ◌-◌, ◌≤◌, ◌<◌, ◌&&◌, ◌||◌, List, [], ◌∷◌, ◌++◌, length, take, drop, map, All, Bool, true, false, not, get_or, max, ap, sym, refl, subst, arith, length-append}
use Rattle.std.specs.Prelude.{nat_lt}
use Rattle.std.specs.Arc.{arc_value}
use Rattle.std.specs.declared.alloc.Global.{Global}
use Rattle.std.specs.declared.sync.Arc.{Arc}
use Rattle.std.specs.List.{enumerate_from, list_any}
use Rattle.std.proofs.lemmas.Bool.{and_cases, and_from, and_left, and_parts, and_right, cases_Bool, cases_lt, not-false, not-true, not_from_false, not_from_true, true≢false}
use Rattle.std.proofs.lemmas.Bool.Decides.{nat_tests}
use Rattle.std.proofs.lemmas.List.{append-nil, get_or-map, length-map, take_all, take_more}
use Rattle.std.proofs.lemmas.List.Folds.{list_any-append}
use Rattle.std.proofs.Math.Seq.{take-add}
use Rattle.std.proofs.lemmas.List.FromFn.{length-enumerate_from}
use Rattle.arrays.specs.Prelude.{Batch, FieldShape, Kind, Seen, Table, column, field, is_past, kind_of_field, most_slots, rows_of}
use Rattle.arrays.specs.Shape as shape
use Rattle.arrays.proofs.BatchLemmas.{length-rows_of, column-append}
use Rattle.compaction.specs.Prelude.{IsBatchOf, IsGroup, IsLongest, IsOfKind, fits_at, fits_in, has_few, is_big, is_one, levels, size_at, together}
use Rattle.compaction.proofs.BatchLemmas.{count-of, kind-at}
use Rattle.compaction.proofs.FitLemmas.{big-any, column-front, is_big_at, less-past, none-of}
use Rattle.compaction.proofs.GroupLemmas.{together-append, together-split}
use Rattle.compaction.proofs.SizeLemmas.{fits-at-all, size-append, size-none, too-big-at}

abbrev pub Shared : Type 0
Shared = Arc Batch Global

-- The rows of each batch.
abbrev pub tables_of : List Shared → List Table
tables_of batches = map rows_of (map (λ (b : Shared). arc_value b) batches)

pub together-more : (tables : List Table) (n : ℕ) → n < length tables → together (take (n + 1) tables) ≡ together (take n tables) ++ get_or tables n []
together-more tables n below =
    ap together (take_more tables n [] below) ∙ together-append (take n tables) (get_or tables n [] ∷ []) ∙ ap (λ (t : Table). together (take n tables) ++ t) (append-nil (get_or tables n []))

pub table-at : (batches : List Shared) (n : ℕ) (b : Shared) → n < length batches → b ≡ get_or batches n b → get_or (tables_of batches) n [] ≡ rows_of (arc_value b)
table-at batches n b below is =
    let all = map (λ (c : Shared). arc_value c) batches in
    get_or-map rows_of all n (arc_value b) [] (omega (arith, below, length-map batches (λ (c : Shared). arc_value c)))
    ∙ ap rows_of (get_or-map (λ (c : Shared). arc_value c) batches n b (arc_value b) below ∙ ap (λ (c : Shared). arc_value c) (sym is))

pub length-tables : (batches : List Shared) → length (tables_of batches) ≡ length batches
length-tables batches = length-map (map (λ (b : Shared). arc_value b) batches) rows_of ∙ length-map batches (λ (b : Shared). arc_value b)

-- the rows of one batch more
pub batch-more : (batches : List Shared) (n : ℕ) (b : Shared) → n < length batches → b ≡ get_or batches n b
    → together (take (n + 1) (tables_of batches)) ≡ together (take n (tables_of batches)) ++ rows_of (arc_value b)
batch-more batches n b below is =
    together-more (tables_of batches) n (omega (arith, below, length-tables batches))
    ∙ ap (λ (t : Table). together (take n (tables_of batches)) ++ t) (table-at batches n b below is)

-- ---- tests that a front passes too

-- What passes with more rows behind it passes without them.
abbrev pub PassesFronts : (Table → Bool) → Type 0
PassesFronts passes = (t u : Table) → passes (t ++ u) ≡ true → passes t ≡ true

fails-more : (passes : Table → Bool) → PassesFronts passes → (t u : Table) → passes t ≡ false → passes (t ++ u) ≡ false
fails-more passes fronts t u fails = elim (cases_Bool (passes (t ++ u))) [ inl holds ↦ absurd (true≢false (sym (fronts t u holds) ∙ fails)) | inr h ↦ h ]

front-of-more : (m n : ℕ) (tables : List Table) → m ≤ n → together (take n tables) ≡ together (take m tables) ++ together (take (n - m) (drop m tables))
front-of-more m n tables le =
    ap (λ k. together (take k tables)) (let same : n ≡ m + (n - m) = omega (arith, le) in same)
    ∙ ap together (take-add m (n - m) tables)
    ∙ together-append (take m tables) (take (n - m) (drop m tables))

passes-front : (passes : Table → Bool) → PassesFronts passes → (m n : ℕ) (tables : List Table) → m ≤ n → passes (together (take n tables)) ≡ true → passes (together (take m tables)) ≡ true
passes-front passes fronts m n tables le holds =
    fronts (together (take m tables)) (together (take (n - m) (drop m tables))) (ap passes (sym (front-of-more m n tables le)) ∙ holds)

fails-front : (passes : Table → Bool) → PassesFronts passes → (m n : ℕ) (tables : List Table) → m ≤ n → passes (together (take m tables)) ≡ false → passes (together (take n tables)) ≡ false
fails-front passes fronts m n tables le no_more =
    ap passes (front-of-more m n tables le) ∙ fails-more passes fronts (together (take m tables)) (together (take (n - m) (drop m tables))) no_more

-- ---- longest fronts

-- the first table with which it fails comes behind them
pub longest-stop : (passes : Table → Bool) → PassesFronts passes → (tables : List Table) (most n : ℕ) → n < most → passes (together (take n tables)) ≡ true
    → passes (together (take (n + 1) tables)) ≡ false → IsLongest passes most (max n 1) tables
longest-stop passes fronts tables most n below holds fails = record {
  some = omega arith;
  within = omega (arith, below);
  fits =
      elim (cases_lt 1 n) [
        | inl more ↦ let same : n ≡ max n 1 = omega (arith, more) in inr (ap (λ k. passes (together (take k tables))) (sym same) ∙ holds)
        | inr few ↦ inl (omega (arith, few))
      ];
  longest = λ lt. fails-front passes fronts (n + 1) (max n 1 + 1) tables (omega arith) fails;
}

-- a longest front of a longest front passes both tests
pub longest-both : (p q : Table → Bool) → PassesFronts p → (tables : List Table) (most m n : ℕ) → IsLongest p most m tables → IsLongest q m n tables → IsLongest (λ t. p t && q t) most n tables
longest-both p q fronts tables most m n first second = record {
  some = second.some;
  within = omega (arith, first.within, second.within);
  fits =
      elim second.fits [
        | inl one ↦ inl one
        | inr holds ↦ elim first.fits [
          | inl one ↦ inl (omega (arith, one, second.some, second.within))
          | inr also ↦ inr (and_from (p (together (take n tables))) (q (together (take n tables))) (passes-front p fronts n m tables second.within also) holds)
        ]
      ];
  longest =
      λ lt.
      elim (cases_lt n m) [
        | inl less ↦ and_right (p (together (take (n + 1) tables))) (q (together (take (n + 1) tables))) (second.longest less)
        | inr le ↦ (
            let same : n ≡ m = omega (arith, le, second.within) in
            and_left (p (together (take (n + 1) tables))) (q (together (take (n + 1) tables)))
            (ap (λ k. p (together (take (k + 1) tables))) same ∙ first.longest (omega (arith, lt, same))))
      ];
}

-- tests that say the same
pub longest-same : (p q : Table → Bool) → ((t : Table) → p t ≡ q t) → (tables : List Table) (most n : ℕ) → IsLongest p most n tables → IsLongest q most n tables
longest-same p q same tables most n is = record {
  some = is.some;
  within = is.within;
  fits = elim is.fits [ inl one ↦ inl one | inr holds ↦ inr (sym (same (together (take n tables))) ∙ holds) ];
  longest = λ lt. sym (same (together (take (n + 1) tables))) ∙ is.longest lt;
}

-- ---- rows

pub few-fronts : (m : ℕ) → PassesFronts (has_few m)
few-fronts m t u holds =
    let parts = and_parts (not (nat_lt m (length (t ++ u)))) (not (is_past (length (t ++ u)))) holds in
    let le : length t ≤ length (t ++ u) = omega (arith, length-append t u) in
    and_from (not (nat_lt m (length t))) (not (is_past (length t)))
    (not_from_false (nat_lt m (length t)) (less (length t) (length (t ++ u)) le (not-true (nat_lt m (length (t ++ u))) parts.0)))
    (not_from_false (is_past (length t)) (less-past (length t) (length (t ++ u)) le (not-true (is_past (length (t ++ u))) parts.1)))
  where
    less : (a b : ℕ) → a ≤ b → nat_lt m b ≡ false → nat_lt m a ≡ false
    less a b le few = grind (arith, nat_tests)

pub few-is : (m n : ℕ) → n ≤ m → n ≤ most_slots → (not (nat_lt m n) && not (is_past n)) ≡ true
few-is m n le small = grind (arith, nat_tests)

pub many-is : (m n : ℕ) → (m < n) ⊎ (most_slots < n) → (not (nat_lt m n) && not (is_past n)) ≡ false
many-is m n (inl more) = grind (arith, nat_tests)
many-is m n (inr more) = grind (arith, nat_tests)

-- ---- one level

pub level-fronts : (k : Kind) (i level : ℕ) → PassesFronts (fits_at k i level)
level-fronts k i level t u holds =
    not_from_false (is_past (size_at k level (column t i)))
    (less-past (size_at k level (column t i)) (size_at k level (column (t ++ u) i))
    (omega (arith, ap (size_at k level) (column-append t u i), size-append k level (column t i) (column u i)))
    (not-true (is_past (size_at k level (column (t ++ u) i))) holds))

-- what a column holds with one batch more
pub size-more : (k : Kind) (i level : ℕ) (batches : List Shared) (n : ℕ) (b : Shared) (c : Seen) → n < length batches → b ≡ get_or batches n b → c.items ≡ column (rows_of (arc_value b)) i
    → size_at k level (column (together (take (n + 1) (tables_of batches))) i) ≡ size_at k level (column (together (take n (tables_of batches))) i) + size_at k level c.items
size-more k i level batches n b c below is at =
    ap (λ (t : Table). size_at k level (column t i)) (batch-more batches n b below is)
    ∙ ap (size_at k level) (column-append (together (take n (tables_of batches))) (rows_of (arc_value b)) i)
    ∙ size-append k level (column (together (take n (tables_of batches))) i) (column (rows_of (arc_value b)) i)
    ∙ ap (λ l. size_at k level (column (together (take n (tables_of batches))) i) + size_at k level l) (sym at)

-- ---- all levels

-- Offsets count what the column holds at the first n levels.
abbrev pub fits_below : Kind → ℕ → ℕ → Table → Bool
fits_below k i zero t = true
fits_below k i (suc n) t = fits_below k i n t && fits_at k i n t

pub below-fronts : (k : Kind) (i n : ℕ) → PassesFronts (fits_below k i n)
below-fronts k i zero t u holds = refl
below-fronts k i (suc n) t u holds =
    let parts = and_parts (fits_below k i n (t ++ u)) (fits_at k i n (t ++ u)) holds in
    and_from (fits_below k i n t) (fits_at k i n t) (below-fronts k i n t u parts.0) (level-fronts k i n t u parts.1)

below-fits : (k : Kind) (i n : ℕ) (t : Table) → fits_below k i n t ≡ true → (level : ℕ) → level < n → is_past (size_at k level (column t i)) ≡ false
below-fits k i zero t holds level below = absurd (omega (arith, below))
below-fits k i (suc n) t holds level below =
    let parts = and_parts (fits_below k i n t) (fits_at k i n t) holds in
    elim (cases_lt level n) [
      | inl lt ↦ below-fits k i n t parts.0 level lt
      | inr le ↦ (
          let same : n ≡ level = omega (arith, le, below) in
          subst (λ j. is_past (size_at k j (column t i)) ≡ false) same (not-true (is_past (size_at k n (column t i))) parts.1))
    ]

below-fails : (k : Kind) (i n : ℕ) (t : Table) → fits_below k i n t ≡ false → fits_in k i t ≡ false
below-fails k i zero t fails = absurd (true≢false fails)
below-fails k i (suc n) t fails =
    elim (and_cases (fits_below k i n t) (fits_at k i n t) fails) [
      | inl h ↦ below-fails k i n t h
      | inr h ↦ not_from_true _ (too-big-at k n (column t i) (not-false (is_past (size_at k n (column t i))) h))
    ]

pub levels-all : (k : Kind) (i : ℕ) (t : Table) → fits_below k i (levels k) t ≡ fits_in k i t
levels-all k i t =
    elim (cases_Bool (fits_below k i (levels k) t)) [
      | inl holds ↦ holds ∙ sym (not_from_false _ (fits-at-all k (column t i) (below-fits k i (levels k) t holds)))
      | inr fails ↦ fails ∙ sym (below-fails k i (levels k) t fails)
    ]

-- ---- all columns

-- The first n columns are not too big.
abbrev pub columns_fit : List FieldShape → ℕ → Table → Bool
columns_fit fields n t = not (list_any (is_big_at t) (take n (enumerate_from 0 fields)))

columns-less : (fields : List FieldShape) (n : ℕ) (t u : Table) → list_any (is_big_at (t ++ u)) (take n (enumerate_from 0 fields)) ≡ false → list_any (is_big_at t) (take n (enumerate_from 0 fields)) ≡ false
columns-less fields n t u fits = none-of (is_big_at t) (is_big_at (t ++ u)) (column-front t u) (take n (enumerate_from 0 fields)) fits

pub columns-fronts : (fields : List FieldShape) (n : ℕ) → PassesFronts (columns_fit fields n)
columns-fronts fields n t u holds =
    not_from_false (list_any (is_big_at t) (take n (enumerate_from 0 fields))) (columns-less fields n t u (not-true (list_any (is_big_at (t ++ u)) (take n (enumerate_from 0 fields))) holds))

get_or-enumerated : {A : Type 0} (m : ℕ) (xs : List A) (n : ℕ) (d : A) → n < length xs → get_or (enumerate_from m xs) n (m + n, d) ≡ (m + n, get_or xs n d)
get_or-enumerated m [] n d below = absurd (omega (arith, below))
get_or-enumerated m (x ∷ xs) zero d below = ap (λ j. (j, x)) (omega arith)
get_or-enumerated m (x ∷ xs) (suc n) d below =
    let same : m + suc n ≡ m + 1 + n = omega arith in
    ap (λ j. get_or (enumerate_from (m + 1) xs) n (j, d)) same ∙ get_or-enumerated (m + 1) xs n d (omega (arith, below)) ∙ ap (λ j. (j, get_or xs n d)) (sym same)

pub enumerated-at : (fields : List FieldShape) (n : ℕ) (f : FieldShape) → n < length fields → get_or (enumerate_from 0 fields) n (n, f) ≡ (n, get_or fields n f)
enumerated-at fields n f below =
    let same : 0 + n ≡ n = omega arith in
    ap (λ j. get_or (enumerate_from 0 fields) n (j, f)) (sym same) ∙ get_or-enumerated 0 fields n f below ∙ ap (λ j. (j, get_or fields n f)) same

no-more : (a b : Bool) → not (a || b) ≡ (not a && not b)
no-more true b = refl
no-more false b = refl

-- one column more
pub columns-more : (fields : List FieldShape) (n : ℕ) (f : FieldShape) (t : Table) → n < length fields → (columns_fit fields n t && fits_in (kind_of_field (get_or fields n f)) n t) ≡ columns_fit fields (n + 1) t
columns-more fields n f t below =
    let es = enumerate_from 0 fields in
    let a = list_any (is_big_at t) (take n es) in
    let b = is_big_at t (n, get_or fields n f) in
    sym (no-more a b)
    ∙ ap (λ x. not (a || x)) (sym (or-false b))
    ∙ ap not (sym (list_any-append (is_big_at t) (take n es) ((n, get_or fields n f) ∷ [])))
    ∙ ap (λ e. not (list_any (is_big_at t) (take n es ++ e ∷ []))) (sym (enumerated-at fields n f below))
    ∙ ap (λ l. not (list_any (is_big_at t) l)) (sym (take_more es n (n, f) (omega (arith, below, length-enumerate_from 0 fields))))
  where
    or-false : (x : Bool) → (x || false) ≡ x
    or-false true = refl
    or-false false = refl

-- Rows that are few, whose first n columns are not too big.
abbrev pub fits_so_far : List FieldShape → ℕ → ℕ → Table → Bool
fits_so_far fields m n t = has_few m t && columns_fit fields n t

pub so-far-fronts : (fields : List FieldShape) (m n : ℕ) → PassesFronts (fits_so_far fields m n)
so-far-fronts fields m n t u holds =
    let parts = and_parts (has_few m (t ++ u)) (columns_fit fields n (t ++ u)) holds in
    and_from (has_few m t) (columns_fit fields n t) (few-fronts m t u parts.0) (columns-fronts fields n t u parts.1)

and-assoc : (a b c : Bool) → ((a && b) && c) ≡ (a && (b && c))
and-assoc true b c = refl
and-assoc false b c = refl

and-true : (a : Bool) → (a && true) ≡ a
and-true true = refl
and-true false = refl

-- no column yet
pub so-far-none : (fields : List FieldShape) (m most n : ℕ) (tables : List Table) → IsLongest (has_few m) most n tables → IsLongest (fits_so_far fields m 0) most n tables
so-far-none fields m most n tables is = longest-same (has_few m) (fits_so_far fields m 0) (λ t. sym (and-true (has_few m t))) tables most n is

-- one column more
pub so-far-more : (fields : List FieldShape) (m i most len n : ℕ) (f : FieldShape) (tables : List Table) → i < length fields → IsLongest (fits_so_far fields m i) most len tables
    → IsLongest (fits_in (kind_of_field (get_or fields i f)) i) len n tables → IsLongest (fits_so_far fields m (i + 1)) most n tables
so-far-more fields m i most len n f tables below first second =
    longest-same (λ t. fits_so_far fields m i t && fits_in (kind_of_field (get_or fields i f)) i t) (fits_so_far fields m (i + 1))
    (λ t. and-assoc (has_few m t) (columns_fit fields i t) (fits_in (kind_of_field (get_or fields i f)) i t) ∙ ap (λ b. has_few m t && b) (columns-more fields i f t below))
    tables most n
    (longest-both (fits_so_far fields m i) (fits_in (kind_of_field (get_or fields i f)) i) (so-far-fronts fields m i) tables most len n first second)

-- all columns
pub so-far-all : (fields : List FieldShape) (m i n : ℕ) (tables : List Table) → length fields ≤ i → IsLongest (fits_so_far fields m i) (length tables) n tables → IsGroup fields m n tables
so-far-all fields m i n tables over is =
    let es = enumerate_from 0 fields in
    let whole : (t : Table) → fits_so_far fields m i t ≡ is_one fields m t =
    λ t.
    ap (λ l. has_few m t && not (list_any (is_big_at t) l)) (take_all i es (omega (arith, over, length-enumerate_from 0 fields)))
    ∙ ap (λ b. has_few m t && not b) (sym (big-any fields t))
    ∙ and-assoc (not (nat_lt m (length t))) (not (is_past (length t))) (not (is_big fields t)) in
    let one = longest-same (fits_so_far fields m i) (is_one fields m) whole tables (length tables) n is in
    record { some = one.some; within = one.within; fits = one.fits; most = one.longest }

-- ---- what is at a place of batches

pub shared-at : (batches : List Shared) (n : ℕ) (b : Shared) → n < length batches → b ≡ get_or batches n b → arc_value b ≡ get_or (map (λ (c : Shared). arc_value c) batches) n (arc_value b)
shared-at batches n b below is = ap (λ (c : Shared). arc_value c) is ∙ sym (get_or-map (λ (c : Shared). arc_value c) batches n b (arc_value b) below)

-- what holds of all batches holds of one that is read
pub batch-at : (P : Batch → Type 0) (batches : List Shared) (n : ℕ) (b : Shared) → n < length batches → b ≡ get_or batches n b → All P (map (λ (c : Shared). arc_value c) batches) → P (arc_value b)
batch-at P batches n b below is all =
    subst P (sym (shared-at batches n b below is))
    (all n (arc_value b) (omega (arith, below, length-map batches (λ (c : Shared). arc_value c))))

pub tables-none : (batches : List Shared) (k : Kind) (level i : ℕ) → 0 ≡ size_at k level (column (together (take 0 (tables_of batches))) i)
tables-none batches k level i = sym (size-none k level)

-- how many rows there are with one batch more
pub rows-more : (batches : List Shared) (n : ℕ) (b : Shared) → n < length batches → b ≡ get_or batches n b
    → length (together (take (n + 1) (tables_of batches))) ≡ length (together (take n (tables_of batches))) + (arc_value b).rows
rows-more batches n b below is =
    ap (λ (t : Table). length t) (batch-more batches n b below is)
    ∙ length-append (together (take n (tables_of batches))) (rows_of (arc_value b))
    ∙ ap (λ m. length (together (take n (tables_of batches))) + m) (length-rows_of (arc_value b))

-- a column that is read is of the kind
pub kind-read : (k : Kind) (i n : ℕ) (batches : List Shared) (b : Shared) (c : Seen) → n < length batches → b ≡ get_or batches n b → c ≡ get_or (arc_value b).columns i c
    → All (IsOfKind k i) (map (λ (d : Shared). arc_value d) batches) → c.kind ≡ k
kind-read k i n batches b c below is at all = ap (λ (d : Seen). d.kind) at ∙ batch-at (IsOfKind k i) batches n b below is all c

-- the size with a column's that is read
pub size-read : (k : Kind) (i level n : ℕ) (batches : List Shared) (b : Shared) (d : Batch) (c : Seen) (size : ℕ) → n < length batches → b ≡ get_or batches n b → d ≡ arc_value b
    → c ≡ get_or d.columns i c → c.items ≡ column (rows_of d) i → All (IsOfKind k i) (map (λ (e : Shared). arc_value e) batches)
    → size ≡ size_at k level (column (together (take n (tables_of batches))) i)
    → size + size_at c.kind level c.items ≡ size_at k level (column (together (take (n + 1) (tables_of batches))) i)
size-read k i level n batches b d c size below is same at items all before =
    ap (λ l. size + size_at l level c.items) (kind-read k i n batches b c below is (at ∙ ap (λ (e : Batch). get_or e.columns i c) same) all)
    ∙ ap (λ m. m + size_at k level c.items) before
    ∙ sym (size-more k i level batches n b c below is (items ∙ ap (λ (e : Batch). column (rows_of e) i) same))

fits-small : (n : ℕ) → n ≤ most_slots → not (is_past n) ≡ true
fits-small n le = grind (arith, nat_tests)

-- a front that is as long as it can be
pub level-stop : (k : Kind) (i level n most size past : ℕ) (batches : List Shared) → n < most → size ≡ size_at k level (column (together (take n (tables_of batches))) i) → size ≤ most_slots
    → past ≡ size_at k level (column (together (take (n + 1) (tables_of batches))) i) → is_past past ≡ true → IsLongest (fits_at k i level) most (max n 1) (tables_of batches)
level-stop k i level n most size past batches below before few after full =
    longest-stop (fits_at k i level) (level-fronts k i level) (tables_of batches) most n below
    (ap (λ m. not (is_past m)) (sym before) ∙ fits-small size few)
    (not_from_true (is_past (size_at k level (column (together (take (n + 1) (tables_of batches))) i))) (ap is_past (sym after) ∙ full))

-- one level more
pub level-more : (k : Kind) (i level most len n : ℕ) (tables : List Table) → IsLongest (fits_below k i level) most len tables → IsLongest (fits_at k i level) len n tables
    → IsLongest (fits_below k i (level + 1)) most n tables
level-more k i level most len n tables first second =
    let same : suc level ≡ level + 1 = omega arith in
    subst (λ j. IsLongest (fits_below k i j) most n tables) same
    (longest-both (fits_below k i level) (fits_at k i level) (below-fronts k i level) tables most len n first second)

-- all levels
pub level-end : (k : Kind) (i level most n : ℕ) (tables : List Table) → level ≡ levels k → IsLongest (fits_below k i level) most n tables → IsLongest (fits_in k i) most n tables
level-end k i level most n tables end is =
    longest-same (fits_below k i (levels k)) (fits_in k i) (levels-all k i) tables most n (subst (λ j. IsLongest (fits_below k i j) most n tables) end is)

-- a field, whatever it is
pub any_field : FieldShape
any_field = field [] true shape.boolean

-- the column of each batch is of its field's kind
pub kinds-at : (fields : List FieldShape) (batches : List Shared) (i : ℕ) → i < length fields → All (IsBatchOf fields) (map (λ (b : Shared). arc_value b) batches)
    → All (IsOfKind (kind_of_field (get_or fields i any_field)) i) (map (λ (b : Shared). arc_value b) batches)
kinds-at fields batches i below all n d within = kind-at fields (get_or (map (λ (b : Shared). arc_value b) batches) n d) i any_field (all n d within) below

-- and each batch has it
pub wide-at : (fields : List FieldShape) (batches : List Shared) (i : ℕ) → i < length fields → All (IsBatchOf fields) (map (λ (b : Shared). arc_value b) batches)
    → All (λ (b : Batch). i < length b.columns) (map (λ (b : Shared). arc_value b) batches)
wide-at fields batches i below all n d within = omega (arith, below, count-of fields (get_or (map (λ (b : Shared). arc_value b) batches) n d) (all n d within))

-- a front has no more rows than all
pub rows-front : (n : ℕ) (tables : List Table) → length (together (take n tables)) ≤ length (together tables)
rows-front n tables = omega (arith, length-append (together (take n tables)) (together (drop n tables)), ap (λ (t : Table). length t) (together-split n tables))
