-- The groups of rows and of rows behind them are those of both, put together.
use Rattle.std.proofs.Common.{◌≡◌, ◌∙◌, ℕ, true, false, ◌||◌, cond, List, [], ◌∷◌, ◌++◌, length, map, Some, refl, sym, ap, subst}
use Rattle.std.specs.Prelude.{slice_get, slice_index_or}
use Rattle.std.specs.List.{AllByRecursion, IsDistinct}
use Rattle.std.proofs.Math.Bool.{or-true}
use Rattle.std.proofs.lemmas.List.{append-nil, get_or-map}
use Rattle.std.proofs.lemmas.List.Elements.{filter-append}
use Rattle.std.proofs.lemmas.List.Folds.{list_any-append}
use Rattle.std.proofs.lemmas.List.Sums.{fold-append}
use Rattle.std.proofs.lemmas.Map.Keys.{IsDistinct-head, IsDistinct-tail}
use Rattle.std.proofs.lemmas.Option.{get_or_from_slice_get, slice_get_within}
use Rattle.indexmap.specs.IndexSet.{insert_key}
use Rattle.arrays.specs.Prelude.{Item, Row, Table}
use Rattle.query.specs.declared.expr.Agg.{Agg}
use Rattle.tallies.specs.Prelude.{ColumnShape, column_of, padded, put_all, spread_all}
use Rattle.answers.specs.Prelude.{IsGrouped, key_tables, keys_of, rows_of_key}
use Rattle.keys.specs.Prelude.{AreIds, key_of, same_key, with_keys}
use Rattle.answers.proofs.CountLemmas.{sole_key}
use Rattle.keys.proofs.KeyLemmas.{Keys, distinct-more, grown, inserted, is_among}
use Rattle.answers.proofs.GroupLemmas.{keys-more, none_yet, set_mapped, tables-padded}
use Rattle.keys.proofs.SameLemmas.{either, same_key-Decides, same_key_equiv}

-- ---- keys

among-kept : (keys more : Keys) (x : List Item) → is_among keys x ≡ true → is_among (with_keys keys more) x ≡ true
among-kept keys more x here =
    let g = grown keys more in
    ap (λ (l : Keys). is_among l x) g.is ∙ list_any-append (same_key x) keys g.extra ∙ ap (λ b. b || is_among g.extra x) here

among-inserted : (keys : Keys) (x : List Item) → is_among (insert_key same_key keys x) x ≡ true
among-inserted keys x =
    either (is_among keys x)
    (λ there. ap (λ (l : Keys). is_among l x) (inserted keys x true there) ∙ there)
    (λ absent. ap (λ (l : Keys). is_among l x) (inserted keys x false absent) ∙ list_any-append (same_key x) keys (x ∷ [])
    ∙ ap (λ b. is_among keys x || (b || false)) (same_key_equiv.refl x) ∙ or-true (is_among keys x))

among-more : (keys more : Keys) (x : List Item) → is_among more x ≡ true → is_among (with_keys keys more) x ≡ true
among-more keys [] x here = absurd cc
among-more keys (k ∷ more) x here =
    either (same_key x k)
    (λ is. among-kept (insert_key same_key keys k) more x
    (ap (is_among (insert_key same_key keys k)) ((same_key-Decides x k).0 is) ∙ among-inserted keys k))
    (λ other. among-more (insert_key same_key keys k) more x (sym (ap (λ b. b || is_among more x) other) ∙ here))

with-inserted : (keys more : Keys) (x : List Item) → with_keys keys (insert_key same_key more x) ≡ insert_key same_key (with_keys keys more) x
with-inserted keys more x =
    either (is_among more x)
    (λ there. ap (with_keys keys) (inserted more x true there) ∙ sym (inserted (with_keys keys more) x true (among-more keys more x there)))
    (λ absent. ap (with_keys keys) (inserted more x false absent) ∙ fold-append (insert_key same_key) keys more (x ∷ []))

with-with : (keys more ks : Keys) → with_keys keys (with_keys more ks) ≡ with_keys (with_keys keys more) ks
with-with keys more [] = refl
with-with keys more (k ∷ ks) = with-with keys (insert_key same_key more k) ks ∙ ap (λ (l : Keys). with_keys l ks) (with-inserted keys more k)

first-with : (by : List ℕ) (rows : Table) → with_keys (keys_of by rows) (keys_of by []) ≡ keys_of by rows
first-with (c ∷ by) rows = refl
first-with [] rows = ap (λ (l : Keys). with_keys l ([] ∷ [])) (sole_key rows) ∙ sym (sole_key rows)

pub keys-merged : (by : List ℕ) (rows more : Table) → keys_of by (rows ++ more) ≡ with_keys (keys_of by rows) (keys_of by more)
keys-merged by rows more =
    keys-more by rows more
    ∙ ap (λ (l : Keys). with_keys l (map (key_of by) more)) (sym (first-with by rows))
    ∙ sym (with-with (keys_of by rows) (keys_of by []) (map (key_of by) more))
    ∙ ap (with_keys (keys_of by rows)) (sym (keys-more by [] more))

-- ---- the rows of each key

mapped-same : (f g : List Item → Table) (ks : Keys) → ((k : List Item) → f k ≡ g k) → map f ks ≡ map g ks
mapped-same f g [] same = refl
mapped-same f g (k ∷ ks) same = ap (λ (t : Table). t ∷ map f ks) (same k) ∙ ap (λ (l : List Table). g k ∷ l) (mapped-same f g ks same)

pub not_among : (k : List Item) (ks : Keys) → AllByRecursion (λ y. same_key k y ≡ false) ks → is_among ks k ≡ false
not_among k [] h = refl
not_among k (y ∷ ks) h = ap (λ b. b || is_among ks k) h.0 ∙ not_among k ks h.1

-- What stands for a key, and behind it what stands for it among other keys.
abbrev joined : (List Item → Table) → (List Item → Table) → Keys → List Item → Table
joined g f ks x = f x ++ cond (is_among ks x) (g x) []

joined_first : (g f : List Item → Table) (k : List Item) (ks : Keys) (x : List Item) → is_among ks k ≡ false
    → joined g (λ y. f y ++ cond (same_key y k) (g y) []) ks x ≡ joined g f (k ∷ ks) x
joined_first g f k ks x once =
    either (same_key x k)
    (λ is.
    let out : is_among ks x ≡ false = ap (is_among ks) ((same_key-Decides x k).0 is) ∙ once in
    ap (λ b. (f x ++ cond b (g x) []) ++ cond (is_among ks x) (g x) []) is
    ∙ ap (λ b. (f x ++ g x) ++ cond b (g x) []) out
    ∙ append-nil (f x ++ g x)
    ∙ sym (ap (λ b. f x ++ cond (b || is_among ks x) (g x) []) is))
    (λ other.
    ap (λ b. (f x ++ cond b (g x) []) ++ cond (is_among ks x) (g x) []) other
    ∙ ap (λ (t : Table). t ++ cond (is_among ks x) (g x) []) (append-nil (f x))
    ∙ sym (ap (λ b. f x ++ cond (b || is_among ks x) (g x) []) other))

spread_mapped : (g f : List Item → Table) (new ks : Keys) (numbers : List ℕ) → IsDistinct same_key new → IsDistinct same_key ks → AreIds new ks numbers
    → spread_all numbers (map g ks) (map f new) ≡ map (joined g f ks) new
spread_mapped g f new [] [] apart once h = mapped-same f (joined g f []) new (λ x. sym (append-nil (f x)))
spread_mapped g f new [] (n ∷ numbers) apart once h = absurd cc
spread_mapped g f new (k ∷ ks) [] apart once h = absurd cc
spread_mapped g f new (k ∷ ks) (n ∷ numbers) apart once h =
    let head : slice_get new n ≡ Some k = cc in
    let tail : AreIds new ks numbers = cc in
    let next : List Item → Table = λ y. f y ++ cond (same_key y k) (g y) [] in
    let at : slice_index_or (map f new) n [] ≡ f k =
    get_or-map f new n k [] (slice_get_within new n k head) ∙ ap f (get_or_from_slice_get new n k k head) in
    let put : put_all n (g k) (map f new) ≡ map next new =
    set_mapped same_key same_key-Decides f next (slice_index_or (map f new) n [] ++ g k) k
    (λ x is. ap (λ b. f x ++ cond b (g x) []) is ∙ append-nil (f x))
    (ap (λ b. f k ++ cond b (g k) []) (same_key_equiv.refl k) ∙ ap (λ (t : Table). t ++ g k) (sym at))
    new n apart head in
    ap (spread_all numbers (map g ks)) put
    ∙ spread_mapped g next new ks numbers apart (IsDistinct-tail same_key k ks once) tail
    ∙ mapped-same (joined g next ks) (joined g f (k ∷ ks)) new (λ x. joined_first g f k ks x (not_among k ks (IsDistinct-head same_key k ks once)))

pub tables-merged : (by : List ℕ) (rows more : Table) (new ks : Keys) (numbers : List ℕ) → IsDistinct same_key new → IsDistinct same_key ks → ks ≡ keys_of by more
    → AreIds new ks numbers → spread_all numbers (key_tables by more ks) (key_tables by rows new) ≡ key_tables by (rows ++ more) new
tables-merged by rows more new ks numbers apart once are h =
    spread_mapped (rows_of_key by more) (rows_of_key by rows) new ks numbers apart once h
    ∙ mapped-same (joined (rows_of_key by more) (rows_of_key by rows) ks) (rows_of_key by (rows ++ more)) new (λ x.
    either (is_among ks x)
    (λ there. ap (λ b. rows_of_key by rows x ++ cond b (rows_of_key by more x) []) there)
    (λ absent.
    let none : rows_of_key by more x ≡ [] = none_yet by more x (ap (λ (l : Keys). is_among l x) (sym are) ∙ absent) in
    ap (λ b. rows_of_key by rows x ++ cond b (rows_of_key by more x) []) absent ∙ ap (λ (t : Table). rows_of_key by rows x ++ t) (sym none))
    ∙ sym (filter-append (λ (r : Row). same_key x (key_of by r)) rows more))

module _ (by : List ℕ) (aggs : List (Agg ℕ)) (rows more : Table) (keys ks new : Keys) (columns others : List ColumnShape) (numbers : List ℕ)
    (a : IsGrouped by aggs rows keys columns) (b : IsGrouped by aggs more ks others) (is : new ≡ with_keys keys ks) (at : AreIds new ks numbers) where
  new_apart : IsDistinct same_key new
  new_apart = subst (IsDistinct same_key) (sym is) (distinct-more keys ks a.apart)

  pub spread_tables : spread_all numbers (key_tables by more ks) (padded (length new) [] (key_tables by rows keys)) ≡ key_tables by (rows ++ more) new
  spread_tables =
      ap (spread_all numbers (key_tables by more ks))
      (ap (λ (l : Keys). padded (length l) [] (key_tables by rows keys)) is ∙ tables-padded by rows keys ks a.keys_are ∙ ap (key_tables by rows) (sym is))
      ∙ tables-merged by rows more new ks numbers new_apart b.apart b.keys_are at

  -- The groups of the rows, and those of the rows behind them whose keys have these numbers, are together the groups of all.
  pub groups-merged : (changed : List ColumnShape) → changed ≡ map (column_of (spread_all numbers (key_tables by more ks) (padded (length new) [] (key_tables by rows keys)))) aggs
      → IsGrouped by aggs (rows ++ more) new changed
  groups-merged changed changes = record {
    keys_are = is ∙ ap (λ (l : Keys). with_keys l ks) a.keys_are ∙ ap (with_keys (keys_of by rows)) b.keys_are ∙ sym (keys-merged by rows more);
    apart = new_apart;
    columns_are = changes ∙ ap (λ (l : List Table). map (column_of l) aggs) spread_tables;
  }
