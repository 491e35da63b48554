-- The rows of a slice that are kept.
use Rattle.std.proofs.Common.{◌≡◌, ◌∙◌, ℕ, zero, suc, ◌+◌, ◌<◌, ◌≤◌, true, false, cond, List, [], ◌∷◌, ◌++◌, length, get_or, filter, map, take, is_some, Option, Some, None, Result, Ok, Err, IfOk, IfErr, refl, sym, ap, subst, arith, append_assoc, below_more, zero-add}
use Rattle.std.specs.Prelude.{All, is_none, unwrap_or}
use Rattle.std.specs.List.{range_with_len}
use Rattle.std.proofs.lemmas.List.{append-nil, length-map, take_more}
use Rattle.std.proofs.lemmas.List.Elements.{All-nil, All-cons, All-head, All-tail}
use Rattle.std.proofs.lemmas.List.FromFn.{get_or-map-range_with_len, length-map-range_with_len, length-range_with_len, map-range_with_len_more}
use Rattle.std.proofs.lemmas.List.Sums.{length-filter, count_by-le-length}
use Rattle.arrays.specs.Prelude.{Batch, FieldShape, Item, Row, Table, boolean, int, list, null, row_of, rows_of, text}
use Rattle.query.specs.Tree.{Tree}
use Rattle.evaluate.specs.Prelude.{AreFilterValues, IsFilterStop, item_in, row_in, value}
use Rattle.evaluate.specs.declared.stop.Stop.{Stop}
use Rattle.evaluate.specs.declared.stop.Stop.TheVariants.{Bad, NoMemory}
use Rattle.evaluate.specs.declared.values.Values.{Values}
use Rattle.answers.specs.Prelude.{AreVerdicts, IsBadRow, StopsAt, is_bad, is_kept, keeps, keeps_item, kept_in, rows_in, verdict, verdict_of}
use Rattle.keys.proofs.SameLemmas.{either}

-- ---- the filter

decided : (x : Item) → verdict_of (Some x) ≡ Some (keeps_item x)
decided null = refl
decided (int z) = refl
decided (boolean b) = refl
decided (text t) = refl
decided (list l) = refl

pub are_verdicts : (b : Batch) (start n : ℕ) (f : Option (Tree ℕ)) (o : Option Values) → AreFilterValues b start n f o → AreVerdicts b start n f o
are_verdicts b start n None None h = record { truths = tt; each = λ i below. refl }
are_verdicts b start n None (Some v) h = absurd h
are_verdicts b start n (Some t) None h = absurd h
are_verdicts b start n (Some t) (Some v) h = record {
  truths = (h.1, h.0.enough);
  each = λ i below. ap verdict_of (h.0.each i below) ∙ decided (item_in v i);
}

not_bad : (o : Option Item) → is_some o ≡ true → is_none (verdict_of o) ≡ false
not_bad None h = absurd cc
not_bad (Some null) h = refl
not_bad (Some (int z)) h = refl
not_bad (Some (boolean b)) h = refl
not_bad (Some (text t)) h = refl
not_bad (Some (list l)) h = refl

pub stops_at : (b : Batch) (start n : ℕ) (f : Option (Tree ℕ)) (s : Stop) → IsFilterStop b start n f s → StopsAt b start n f s
stops_at b start n None s h = absurd h
stops_at b start n (Some t) (Bad row) h = record {
  within = h.within;
  bad = ap verdict_of h.bad;
  before = λ i below. not_bad (value b.fields (row_in b start i) t) (h.before i below);
}
stops_at b start n (Some t) NoMemory h = tt

pub if_ok : {T E : Type 0} (r : Result T E) (P Q : T → Type 0) → ((x : T) → P x → Q x) → IfOk r P → IfOk r Q
if_ok (Ok x) P Q f h = f x h
if_ok (Err e) P Q f h = tt

pub if_err : {T E : Type 0} (r : Result T E) (P Q : E → Type 0) → ((e : E) → P e → Q e) → IfErr r P → IfErr r Q
if_err (Ok x) P Q f h = tt
if_err (Err e) P Q f h = f e h

-- ---- rows one after the other

all_range : (P : ℕ → Type 0) (a n : ℕ) → ((i : ℕ) → a ≤ i → i < a + n → P i) → All P (range_with_len a n)
all_range P a zero h = All-nil P
all_range P a (suc n) h = All-cons P a (range_with_len (a + 1) n) (h a (omega arith) (omega arith)) (all_range P (a + 1) n (λ i low high. h i (omega (arith, low)) (omega (arith, high))))

rows-push : (b : Batch) (start n : ℕ) → rows_in b start (n + 1) ≡ rows_in b start n ++ row_in b start n ∷ []
rows-push b start n = map-range_with_len_more (row_in b start) 0 n n (zero-add n)

pub length-rows_in : (b : Batch) (start n : ℕ) → length (rows_in b start n) ≡ n
length-rows_in b start n = length-map-range_with_len (row_in b start) 0 n

pub rows_split : (b : Batch) (start at n : ℕ) → rows_in b start (at + n) ≡ rows_in b start at ++ rows_in b (start + at) n
rows_split b start at zero =
    let e : at + 0 ≡ at = omega arith in
    ap (rows_in b start) e ∙ sym (append-nil (rows_in b start at))
rows_split b start at (suc n) =
    let e : at + suc n ≡ at + n + 1 = omega arith in
    let f : n + 1 ≡ suc n = omega arith in
    let g : start + (at + n) ≡ start + at + n = omega arith in
    ap (rows_in b start) e ∙ rows-push b start (at + n)
    ∙ ap (λ l. l ++ row_in b start (at + n) ∷ []) (rows_split b start at n)
    ∙ append_assoc (rows_in b start at) (rows_in b (start + at) n) (row_in b start (at + n) ∷ [])
    ∙ ap (λ i. rows_in b start at ++ (rows_in b (start + at) n ++ row_of b.columns i ∷ [])) g
    ∙ ap (λ l. rows_in b start at ++ l) (sym (rows-push b (start + at) n) ∙ ap (rows_in b (start + at)) f)

alike : (f g : ℕ → Row) (xs : List ℕ) → ((i : ℕ) → f i ≡ g i) → map f xs ≡ map g xs
alike f g [] same = refl
alike f g (x ∷ xs) same = ap (λ y. y ∷ map f xs) (same x) ∙ ap (λ l. g x ∷ l) (alike f g xs same)

-- ---- the rows that are kept

each_kept : (xs : List ℕ) → filter (keeps None) xs ≡ xs
each_kept [] = refl
each_kept (x ∷ xs) = ap (λ l. x ∷ l) (each_kept xs)

pub length-kept : (o : Option Values) (start n : ℕ) → o ≡ None → n ≡ length (kept_in o start n)
length-kept (Some v) start n none = absurd cc
length-kept None start n none =
    sym (length-map (filter (keeps None) (range_with_len 0 n)) (λ i. start + i) ∙ ap (λ (l : List ℕ). length l) (each_kept (range_with_len 0 n)) ∙ length-range_with_len 0 n)

-- Where there is no filter, the places count up.
pub counted_up : (start n k d : ℕ) → k < n → get_or (kept_in None start n) k d ≡ start + k
counted_up start n k d below =
    ap (λ l. get_or (map (λ i. start + i) l) k d) (each_kept (range_with_len 0 n)) ∙ get_or-map-range_with_len (λ i. start + i) 0 n k k d below (zero-add k)

module _ (b : Batch) (start : ℕ) (f : Option (Tree ℕ)) (o : Option Values) where
  abbrev Reported : ℕ → Type 0
  Reported i = verdict b.fields f (row_in b start i) ≡ Some (keeps o i)

  abbrev placed : List ℕ → Table
  placed xs = map (row_of b.columns) (map (λ i. start + i) xs)

  kept_rows : (xs : List ℕ) → All Reported xs → placed (filter (keeps o) xs) ≡ filter (is_kept b.fields f) (map (row_in b start) xs)
  kept_rows [] h = refl
  kept_rows (i ∷ xs) h =
      let rest : placed (filter (keeps o) xs) ≡ filter (is_kept b.fields f) (map (row_in b start) xs) = kept_rows xs (All-tail Reported i xs h) in
      let is : is_kept b.fields f (row_in b start i) ≡ keeps o i = ap (λ d. unwrap_or d false) (All-head Reported i xs h) in
      let row = row_in b start i in
      let kept = filter (is_kept b.fields f) (map (row_in b start) xs) in
      either (keeps o i)
      (λ yes. ap (λ k. placed (cond k (i ∷ filter (keeps o) xs) (filter (keeps o) xs))) yes ∙ ap (λ (l : Table). row ∷ l) rest
      ∙ sym (ap (λ k. cond k (row ∷ kept) kept) (is ∙ yes)))
      (λ no. ap (λ k. placed (cond k (i ∷ filter (keeps o) xs) (filter (keeps o) xs))) no ∙ rest
      ∙ sym (ap (λ k. cond k (row ∷ kept) kept) (is ∙ no)))

  pub kept_are : (n : ℕ) → AreVerdicts b start n f o → map (row_of b.columns) (kept_in o start n) ≡ filter (is_kept b.fields f) (rows_in b start n)
  kept_are n v = kept_rows (range_with_len 0 n) (all_range Reported 0 n (λ i low high. v.each i (omega (arith, high))))

-- They are rows of the batch, and no more than there are rows.
pub kept_within : (o : Option Values) (start n rows : ℕ) → start + n ≤ rows → All (λ r. r < rows) (kept_in o start n)
kept_within o start n rows within = go (range_with_len 0 n) (all_range (λ i. start + i < rows) 0 n (λ i low high. omega (arith, high, within))) where
  go : (xs : List ℕ) → All (λ i. start + i < rows) xs → All (λ r. r < rows) (map (λ i. start + i) (filter (keeps o) xs))
  go [] h = All-nil (λ r. r < rows)
  go (i ∷ xs) h =
      let rest = go xs (All-tail (λ i. start + i < rows) i xs h) in
      either (keeps o i)
      (λ yes. subst (λ k. All (λ r. r < rows) (map (λ i. start + i) (cond k (i ∷ filter (keeps o) xs) (filter (keeps o) xs)))) (sym yes)
      (All-cons (λ r. r < rows) (start + i) (map (λ i. start + i) (filter (keeps o) xs)) (All-head (λ i. start + i < rows) i xs h) rest))
      (λ no. subst (λ k. All (λ r. r < rows) (map (λ i. start + i) (cond k (i ∷ filter (keeps o) xs) (filter (keeps o) xs)))) (sym no) rest)

pub kept_few : (fields : List FieldShape) (f : Option (Tree ℕ)) (rows more : Table) (total : ℕ) → length rows + length more ≤ total
    → length (filter (is_kept fields f) rows) + length (filter (is_kept fields f) more) ≤ total
kept_few fields f rows more total h = omega (arith, h, few rows, few more) where
  few : (xs : Table) → length (filter (is_kept fields f) xs) ≤ length xs
  few xs = omega (arith, length-filter (is_kept fields f) xs, count_by-le-length (is_kept fields f) xs)

-- ---- a whole batch

pub length-rows : (b : Batch) → length (rows_of b) ≡ b.rows
length-rows b = length-map-range_with_len (row_of b.columns) 0 b.rows

pub rows_more : (b : Batch) (i : ℕ) → i < b.rows → take (i + 1) (rows_of b) ≡ take i (rows_of b) ++ row_of b.columns i ∷ []
rows_more b i below =
    take_more (rows_of b) i [] (omega (arith, below, length-rows b))
    ∙ ap (λ r. take i (rows_of b) ++ r ∷ []) (get_or-map-range_with_len (row_of b.columns) 0 b.rows i i [] below (zero-add i))

-- ---- slice by slice

-- The first n of the rows from the start on are sound.
abbrev pub AreSoundTo : Batch → Option (Tree ℕ) → ℕ → ℕ → Type 0
AreSoundTo b f start n = (i : ℕ) → i < n → is_bad b.fields f (row_in b start i) ≡ false

at_offset : (b : Batch) (f : Option (Tree ℕ)) (start at j : ℕ) → is_bad b.fields f (row_in b (start + at) j) ≡ false → is_bad b.fields f (row_in b start (at + j)) ≡ false
at_offset b f start at j h =
    let g : start + (at + j) ≡ start + at + j = omega arith in
    ap (λ k. is_bad b.fields f (row_of b.columns k)) g ∙ h

pub sound_more : (b : Batch) (f : Option (Tree ℕ)) (start at n : ℕ) → AreSoundTo b f start at → ((i : ℕ) → i < n → is_bad b.fields f (row_in b (start + at) i) ≡ false) → AreSoundTo b f start (at + n)
sound_more b f start at zero before more = λ i below. before i (omega (arith, below))
sound_more b f start at (suc n) before more = λ i below.
    below_more (λ k. is_bad b.fields f (row_in b start k) ≡ false) (at + n)
    (sound_more b f start at n before (λ j under. more j (omega (arith, under))))
    (at_offset b f start at n (more n (omega arith)))
    i (omega (arith, below))

pub bad_row : (b : Batch) (f : Option (Tree ℕ)) (start at n len row : ℕ) → AreSoundTo b f start at → at + n ≤ len → IsBadRow b (start + at) n f row → IsBadRow b start len f (at + row)
bad_row b f start at n len row before within bad =
    let g : start + (at + row) ≡ start + at + row = omega arith in
    record {
      within = omega (arith, bad.within, within);
      bad = ap (λ k. verdict b.fields f (row_of b.columns k)) g ∙ bad.bad;
      before = sound_more b f start at row before bad.before;
    }
