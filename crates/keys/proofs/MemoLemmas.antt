-- What is remembered of keys stays true while keys come.
use Rattle.std.proofs.Common.{◌≡◌, ◌∙◌, ℕ, zero, suc, ◌<◌, true, false, List, [], ◌∷◌, ◌++◌, ◌+◌, ◌-◌, take, length, map, get_or, replicate, Option, Some, None, Result, Ok, Err, IfOk, ℤ, pos, negsuc, refl, sym, ap, subst, arith}
use Rattle.std.specs.Prelude.{All, OnOk, slice_get, slice_index_or, slice_set}
use Rattle.std.proofs.lemmas.List.{get_or-map, length-map, map-append, take_more, get_or-set_same, get_or-set_other, length-set}
use Rattle.std.proofs.lemmas.List.Elements.{All-get_or}
use Rattle.std.proofs.lemmas.Bool.Decides.{nat_tests}
use Rattle.std.proofs.lemmas.List.Sums.{fold_push}
use Rattle.std.proofs.Math.Dec.{eqb}
use Rattle.std.proofs.lemmas.Bool.{eqb-true, eqb-false}
use Rattle.std.proofs.lemmas.Map.Keys.{any_passes_from_place}
use Rattle.std.proofs.lemmas.Option.{slice_get_within}
use Rattle.indexmap.specs.IndexSet.{insert_key}
use Rattle.arrays.specs.Prelude.{Batch, Item, Seen, codes_of, dictionary_of, encoded, int, is_code, item_of, looked_up, natural, null, row_of}
use Rattle.arrays.specs.Kind as kind
use Rattle.keys.specs.Prelude.{AreIds, AreKeys, IsInterned, IsRemembered, Knows, KnowsEntries, KnowsItems, Remembers, key_of, keys_at, same_key, with_keys}
use Rattle.keys.specs.declared.memo.Memo.{Memo}
use Rattle.keys.proofs.KeyLemmas.{Keys, inserted, is_among, ids-push, slice_get-append}
use Rattle.keys.proofs.SameLemmas.{either, same_key-Decides}

-- ---- one key

kept : (keys : Keys) (k x : List Item) (n : ℕ) → slice_get keys n ≡ Some x → slice_get (insert_key same_key keys k) n ≡ Some x
kept keys k x n at =
    either (is_among keys k)
    (λ there. ap (λ (l : Keys). slice_get l n) (inserted keys k true there) ∙ at)
    (λ absent. ap (λ (l : Keys). slice_get l n) (inserted keys k false absent) ∙ slice_get-append keys (k ∷ []) n (slice_get_within keys n x at) ∙ at)

pub remembered-kept : (keys : Keys) (k x : List Item) (o : Option ℕ) → IsRemembered keys x o → IsRemembered (insert_key same_key keys k) x o
remembered-kept keys k x None h = tt
remembered-kept keys k x (Some n) h = kept keys k x n h

remembered-more : (keys more : Keys) (x : List Item) (o : Option ℕ) → IsRemembered keys x o → IsRemembered (with_keys keys more) x o
remembered-more keys [] x o h = h
remembered-more keys (k ∷ more) x o h = remembered-more (insert_key same_key keys k) more x o (remembered-kept keys k x o h)

-- A key that is there isn't put there again.
pub there_already : (keys : Keys) (n : ℕ) (k : List Item) → slice_get keys n ≡ Some k → insert_key same_key keys k ≡ keys
there_already keys n k at = inserted keys k true (any_passes_from_place (same_key k) keys n k at ((same_key-Decides k k).1 refl))

-- ---- all that is remembered

pub items-kept : (keys : Keys) (k : List Item) (items : List Item) (known : List (Option ℕ)) → KnowsItems keys items known → KnowsItems (insert_key same_key keys k) items known
items-kept keys k items known h = record {
  room = h.room;
  each = λ c. remembered-kept keys k (slice_index_or items c null ∷ []) (slice_index_or known c None) (h.each c);
}

pub remembers-kept : (keys : Keys) (k : List Item) (m : Memo) → Remembers keys m → Remembers (insert_key same_key keys k) m
remembers-kept keys k m h = record {
  null = remembered-kept keys k (null ∷ []) m.null h.null;
}

pub remembers-more : (keys more : Keys) (m : Memo) → Remembers keys m → Remembers (with_keys keys more) m
remembers-more keys more m h = record {
  null = remembered-more keys more (null ∷ []) m.null h.null;
}

-- What is known of the entries of a batch is known of those of its one column for keys.
pub entries_there : (keys : Keys) (b : Batch) (by : List ℕ) (view : Seen) (m : Memo) → KnowsEntries keys b by m → length by ≡ 1
    → slice_get b.columns (get_or by 0 0) ≡ Some view → view.kind ≡ kind.dict → Knows keys view.entries.items m
entries_there keys b [] view m h one at dict = absurd (omega (arith, one))
entries_there keys b (p ∷ []) view m h one at dict = h.each p view refl at dict
entries_there keys b (p ∷ q ∷ by) view m h one at dict = absurd (omega (arith, one))

-- ---- something more is remembered

pub items-set : (keys : Keys) (items : List Item) (known : List (Option ℕ)) (c : ℕ) (o : Option ℕ) → KnowsItems keys items known → c < length known
    → IsRemembered keys (slice_index_or items c null ∷ []) o → KnowsItems keys items (slice_set known c o)
items-set keys items known c o h within is = record {
  room = h.room ∙ sym (length-set known c o);
  each = λ d. either (eqb d c)
      (λ same.
      let e : d ≡ c = eqb-true d c same in
      subst (λ x. IsRemembered keys (slice_index_or items x null ∷ []) (slice_index_or (slice_set known c o) x None)) (sym e)
      (subst (IsRemembered keys (slice_index_or items c null ∷ [])) (sym (get_or-set_same known c o None within)) is))
      (λ other.
      subst (IsRemembered keys (slice_index_or items d null ∷ [])) (sym (get_or-set_other known c d o None (eqb-false d c other))) (h.each d));
}

-- ---- one key for all rows

pub alike : (keys : Keys) (k : List Item) (n : ℕ) → slice_get keys n ≡ Some k → (count : ℕ) → with_keys keys (replicate count k) ≡ keys
alike keys k n at zero = refl
alike keys k n at (suc count) = ap (λ (l : Keys). with_keys l (replicate count k)) (there_already keys n k at) ∙ alike keys k n at count

pub ids-alike : (keys : Keys) (k : List Item) (n : ℕ) → slice_get keys n ≡ Some k → (count : ℕ) → AreIds keys (replicate count k) (replicate count n)
ids-alike keys k n at zero = refl
ids-alike keys k n at (suc count) =
    let a : AreIds keys (replicate count k) (replicate count n) = ids-alike keys k n at count in
    cc (a, at)

-- ---- the id of one row's key

pub recalled : (keys : Keys) (key : List Item) (o : Option ℕ) (n : ℕ) → o ≡ Some n → IsRemembered keys key o → IsInterned keys keys key n × IsRemembered keys key o
recalled keys key o n is h =
    let at = subst (IsRemembered keys key) is h in (record { keys_are = sym (there_already keys n key at); there = at }, h)

-- The memo with another id for null.
abbrev pub with_null : Memo → Option ℕ → Memo
with_null m now = record m { null = now }

pub step_null : {E : Type 0} (r : Result ℕ E) (keys new : Keys) (m : Memo) (now : Option ℕ) (key : List Item) → key ≡ null ∷ [] → Remembers keys m
    → (IsRemembered keys key m.null → IfOk r (λ x. IsInterned keys new key x × IsRemembered new key now)) → IfOk r (λ x. IsInterned keys new key x × Remembers new (with_null m now))
step_null r keys new m now key is h f = go r (f (subst (λ k. IsRemembered keys k m.null) (sym is) h.null)) where
  go : {E : Type 0} (r : Result ℕ E) → IfOk r (λ x. IsInterned keys new key x × IsRemembered new key now) → IfOk r (λ x. IsInterned keys new key x × Remembers new (with_null m now))
  go (Ok x) k = (
    k.0,
    record {
      null = subst (λ k. IsRemembered new k now) is k.1;
    },
  )
  go (Err e) k = tt

-- The same, where something is remembered of a dictionary's entries too.
pub step_no_entry : {E : Type 0} (r : Result ℕ E) (keys new : Keys) (m : Memo) (now : Option ℕ) (key items : List Item) → key ≡ null ∷ [] → Remembers keys m
    → Knows keys items m → (IsRemembered keys key m.null → IfOk r (λ x. IsInterned keys new key x × IsRemembered new key now))
    → IfOk r (λ x. IsInterned keys new key x × Remembers new (with_null m now) × Knows new items (with_null m now))
step_no_entry r keys new m now key items is h knows f = go r (step_null r keys new m now key is h f) where
  go : {E : Type 0} (r : Result ℕ E) → IfOk r (λ x. IsInterned keys new key x × Remembers new (with_null m now))
      → IfOk r (λ x. IsInterned keys new key x × Remembers new (with_null m now) × Knows new items (with_null m now))
  go (Ok x) k = (
    k.0,
    k.1,
    subst (λ (l : Keys). KnowsItems l items m.entries.items) (sym k.0.keys_are) (items-kept keys key items m.entries.items knows),
  )
  go (Err e) k = tt

-- A memo that differs from another in the id of one entry alone.
pub record IsSet (m n : Memo) (place : ℕ) (now : Option ℕ) : Type 0 where
  pub null : n.null ≡ m.null
  pub entries : n.entries.items ≡ slice_set m.entries.items place now

set_known : (keys new : Keys) (m n : Memo) (key items : List Item) (place : ℕ) (now : Option ℕ) → IsSet m n place now → key ≡ slice_index_or items place null ∷ []
    → Knows keys items m → place < length m.entries.items → new ≡ insert_key same_key keys key → IsRemembered new key now → Knows new items n
set_known keys new m n key items place now set is knows within more known =
    let kept = subst (λ (l : Keys). KnowsItems l items m.entries.items) (sym more) (items-kept keys key items m.entries.items knows) in
    subst (KnowsItems new items) (sym set.entries) (items-set new items m.entries.items place now kept within (subst (λ k. IsRemembered new k now) is known))

pub step_entry : {E : Type 0} (r : Result ℕ E) (keys new : Keys) (m n : Memo) (key items : List Item) (place : ℕ) (old now : Option ℕ) → key ≡ slice_index_or items place null ∷ []
    → Remembers keys m → Knows keys items m → place < length m.entries.items → old ≡ slice_index_or m.entries.items place None
    → IsSet m n place now → (IsRemembered keys key old → IfOk r (λ x. IsInterned keys new key x × IsRemembered new key now))
    → IfOk r (λ x. IsInterned keys new key x × Remembers new n × Knows new items n)
step_entry r keys new m n key items place old now is h knows within at set f =
    go r (f (subst (λ k. IsRemembered keys k old) (sym is) (subst (IsRemembered keys (slice_index_or items place null ∷ [])) (sym at) (knows.each place)))) where
      go : {E : Type 0} (r : Result ℕ E) → IfOk r (λ x. IsInterned keys new key x × IsRemembered new key now)
          → IfOk r (λ x. IsInterned keys new key x × Remembers new n × Knows new items n)
      go (Ok x) k =
          let known = set_known keys new m n key items place now set is knows within k.0.keys_are k.1 in
          let kept = subst (λ (l : Keys). Remembers l m) (sym k.0.keys_are) (remembers-kept keys key m h) in (
            k.0,
            record {
              null = subst (IsRemembered new (null ∷ [])) (sym set.null) kept.null;
            },
            known,
          )
      go (Err e) k = tt

-- The id of a key of which nothing is remembered.
pub step_other : {E : Type 0} (r : Result ℕ E) (keys new : Keys) (m : Memo) (key : List Item) → Remembers keys m → OnOk r (new ≡ insert_key same_key keys key)
    → IfOk r (λ n. slice_get new n ≡ Some key) → IfOk r (λ n. IsInterned keys new key n × Remembers new m)
step_other (Ok n) keys new m key h more at = (record { keys_are = more; there = at }, subst (λ (l : Keys). Remembers l m) (sym more) (remembers-kept keys key m h))
step_other (Err e) keys new m key h more at = tt

-- ---- one key after the other

pushed_key : (initial keys new front more : Keys) (key : List Item) (ids : List ℕ) (n : ℕ) → more ≡ front ++ key ∷ []
    → keys ≡ with_keys initial front → AreIds keys front ids → IsInterned keys new key n
    → (new ≡ with_keys initial more) × AreIds new more (ids ++ n ∷ [])
pushed_key initial keys new front more key ids n longer are at step = (
  step.keys_are ∙ ap (λ l. insert_key same_key l key) are
      ∙ sym (ap (λ l. with_keys initial l) longer ∙ fold_push (insert_key same_key) initial front key),
  subst (λ l. AreIds new l (ids ++ n ∷ [])) (sym longer) (ids-push keys new front key ids n step.keys_are at step.there),
)

pub next_id : (by : List ℕ) (columns : List Seen) (rows : List ℕ) (i : ℕ) (initial keys new : Keys) (ids : List ℕ) (n : ℕ) → i < length rows
    → keys ≡ with_keys initial (keys_at by columns (take i rows)) → AreIds keys (keys_at by columns (take i rows)) ids
    → IsInterned keys new (key_of by (row_of columns (get_or rows i 0))) n
    → (new ≡ with_keys initial (keys_at by columns (take (i + 1) rows))) × AreIds new (keys_at by columns (take (i + 1) rows)) (ids ++ n ∷ [])
next_id by columns rows i initial keys new ids n below are at step =
    let row = get_or rows i 0 in
    pushed_key initial keys new (keys_at by columns (take i rows)) (keys_at by columns (take (i + 1) rows)) (key_of by (row_of columns row)) ids n
    (ap (keys_at by columns) (take_more rows i 0 below) ∙ map-append (λ r. key_of by (row_of columns r)) (take i rows) (row ∷ []))
    are at step

pub next_key : (wanted : Keys) (i : ℕ) (initial keys new : Keys) (ids : List ℕ) (n : ℕ) → i < length wanted
    → keys ≡ with_keys initial (take i wanted) → AreIds keys (take i wanted) ids → IsInterned keys new (slice_index_or wanted i []) n
    → (new ≡ with_keys initial (take (i + 1) wanted)) × AreIds new (take (i + 1) wanted) (ids ++ n ∷ [])
next_key wanted i initial keys new ids n below are at step =
    pushed_key initial keys new (take i wanted) (take (i + 1) wanted) (slice_index_or wanted i []) ids n (take_more wanted i [] below) are at step

module _ (view : Seen) (codes : List Item) (code : Option ℤ) (row : ℕ) (is : view ≡ encoded (codes_of view) (dictionary_of view)) (of : codes ≡ view.codes)
    (item : slice_index_or codes row null ≡ item_of code) where
  items_are : view.items ≡ map (looked_up view.entries.items) view.codes
  items_are = ap (λ (s : Seen). s.items) is

  here : slice_index_or view.codes row null ≡ item_of code
  here = sym (ap (λ l. slice_index_or l row null) of) ∙ item

  there : row < length view.items → row < length view.codes
  there below = omega (arith, below, ap length items_are, length-map view.codes (looked_up view.entries.items))

  pub coded_row : (b : Batch) (by : List ℕ) → AreKeys view.items b by → row < b.rows → key_of by (row_of b.columns row) ≡ looked_up view.entries.items (item_of code) ∷ []
  coded_row b by keys below =
      let inside : row < length view.items = omega (arith, below, keys.len) in
      keys.each row below
      ∙ ap (λ x. x ∷ []) (ap (λ l. slice_index_or l row null) items_are
      ∙ get_or-map (looked_up view.entries.items) view.codes row null null (there inside) ∙ ap (looked_up view.entries.items) here)

  pub coded_within : (n : ℕ) → row < length view.items → All (λ c. is_code (length view.entries.items) c ≡ true) view.codes → length view.entries.items ≡ n
      → is_code n (item_of code) ≡ true
  coded_within n below all room =
      subst (λ m. is_code m (item_of code) ≡ true) room
      (subst (λ x. is_code (length view.entries.items) x ≡ true) here (All-get_or (λ c. is_code (length view.entries.items) c ≡ true) view.codes row null (there below) all))

pub numbered_row : (view : Seen) (items : List Item) (number : Option ℤ) (row : ℕ) (b : Batch) (by : List ℕ) → items ≡ view.items → slice_index_or items row null ≡ item_of number
    → AreKeys view.items b by → row < b.rows → key_of by (row_of b.columns row) ≡ item_of number ∷ []
numbered_row view items number row b by of item keys below =
    keys.each row below ∙ ap (λ x. x ∷ []) (sym (ap (λ l. slice_index_or l row null) of) ∙ item)

-- ---- no columns for keys

no_keys : (columns : List Seen) (rows : List ℕ) → keys_at [] columns rows ≡ replicate (length rows) []
no_keys columns [] = refl
no_keys columns (r ∷ rows) = ap (λ (l : Keys). [] ∷ l) (no_keys columns rows)

pub one_key : (keys new : Keys) (by : List ℕ) (columns : List Seen) (rows : List ℕ) (n row : ℕ) → by ≡ [] → 0 < length rows
    → new ≡ insert_key same_key keys (key_of by (row_of columns row)) → slice_get new n ≡ Some (key_of by (row_of columns row))
    → (new ≡ with_keys keys (keys_at by columns rows)) × AreIds new (keys_at by columns rows) (replicate (length rows) n)
one_key keys new (c ∷ by) columns rows n row none some is at = absurd cc
one_key keys new [] columns [] n row none some is at = absurd (omega (arith, some))
one_key keys new [] columns (r ∷ rows) n row none some is at = (
  sym (alike new [] n at (length rows)) ∙ ap (λ (l : Keys). with_keys l (replicate (length rows) [])) is
      ∙ ap (with_keys (insert_key same_key keys [])) (sym (no_keys columns rows)),
  subst (λ (l : Keys). AreIds new l (replicate (suc (length rows)) n)) (sym (no_keys columns (r ∷ rows))) (ids-alike new [] n at (suc (length rows))),
)

pub resized : {A : Type 0} (xs : List A) (m k : ℕ) (n : A) → xs ≡ [] → k ≡ 0 → take m xs ++ replicate (m - k) n ≡ replicate m n
resized (x ∷ xs) m k n none zeros = absurd cc
resized {A} [] m k n none zeros =
    let e : m - k ≡ m = omega (arith, zeros) in
    ap (λ (l : List A). l ++ replicate (m - k) n) (nothing m) ∙ ap (λ j. replicate j n) e where
      nothing : (m : ℕ) → take {A = A} m [] ≡ []
      nothing zero = refl
      nothing (suc m) = refl

-- ---- codes

pub code_below : (n : ℕ) (z : ℤ) → is_code n (int z) ≡ true → natural z < n
code_below n (pos m) h = grind (arith, nat_tests, h)
code_below n (negsuc m) h = cc
