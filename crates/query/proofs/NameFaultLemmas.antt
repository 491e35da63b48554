-- Faults of names, and the names that have them.
use Rattle.std.proofs.Common.{◌≡◌, ◌≢◌, ◌∙◌, ◌⊎◌, ◌++◌, ◌+◌, ◌<◌, ℕ, suc, Bool, true, false, not, cond, length, nat_lt, List, [], ◌∷◌, map, Option, Some, None, Result, Ok, Err, inl, inr, ap, sym, subst, refl, count_by, arith, lt-ltb}
use Rattle.std.specs.Prelude.{◌==◌, slice_get, unwrap_or}
use Rattle.std.specs.List.{list_any, position_or_len}
use Rattle.std.specs.Option.{ok_or}
use Rattle.std.proofs.lemmas.Bool.Decides.{nat_tests}
use Rattle.std.proofs.lemmas.List.Folds.{list_any-append}
use Rattle.std.proofs.lemmas.List.Sums.{sum_by-cons}
use Rattle.std.proofs.lemmas.Option.{slice_get_cases}
use Rattle.std.proofs.lemmas.Bool.{or_left, or_right}
use Rattle.types.specs.Prelude.{FieldShape, first}
use Rattle.query.specs.declared.expr.Agg.{Agg}
use Rattle.query.specs.declared.expr.Agg.TheVariants.{Rows, Count, Sum, Least, Greatest}
use Rattle.query.specs.declared.fault.QueryFault.{QueryFault}
use Rattle.query.specs.declared.fault.QueryFault.TheVariants.{AmbiguousColumn, NoColumn, TooDeep, WrongKind}
use Rattle.query.specs.declared.sort.Sort.{Sort}
use Rattle.query.specs.Prelude.{QueryShape, Tree, Trees, agg_columns, agg_fault, all_checked, and_then, checked, column, columns, columns_in, columns_of, columns_of_aggs, fault_unless, filter_columns, filter_fault, has_name, int, is_int, is_plain, is_too_deep, is_truth, key_fault, none, one, op, place_of, query_fault, renamed_query, resolved, sort_at, sort_named, sort_of_field, sort_of_operator, text, unless_fault}

and_then-err : {A B : Type 0} (r : Result A QueryFault) (k : A → Result B QueryFault) (e : QueryFault) → and_then r k ≡ Err e → (r ≡ Err e) ⊎ ((x : A) × (r ≡ Ok x) × (k x ≡ Err e))
and_then-err (Ok x) k e h = inr (x, refl, h)
and_then-err (Err f) k e h = inl cc

ok_or-err : (o : Option Sort) (e : QueryFault) → ok_or o WrongKind ≡ Err e → e ≡ WrongKind
ok_or-err None e h = cc
ok_or-err (Some s) e h = absurd cc

wrong : (right : Bool) (e : QueryFault) → cond right None (Some WrongKind) ≡ Some e → e ≡ WrongKind
wrong true e h = absurd cc
wrong false e h = cc

first-some : (o : Option QueryFault) (rest : List (Option QueryFault)) (e : QueryFault) → first (o ∷ rest) ≡ Some e → (o ≡ Some e) ⊎ (first rest ≡ Some e)
first-some None rest e h = inr h
first-some (Some x) rest e h = inl h

-- ---- a fault that no operator and no part of the query has is that of a column

module _ {C : Type 0} (sort_in : C → Result Sort QueryFault) (test : C → Bool) (e : QueryFault) (other : e ≢ WrongKind) (passes : (c : C) → sort_in c ≡ Err e → test c ≡ true) where
  at_left : (xs ys : List C) → list_any test xs ≡ true → list_any test (xs ++ ys) ≡ true
  at_left xs ys h = list_any-append test xs ys ∙ or_left (list_any test xs) (list_any test ys) h

  at_right : (xs ys : List C) → list_any test ys ≡ true → list_any test (xs ++ ys) ≡ true
  at_right xs ys h = list_any-append test xs ys ∙ or_right (list_any test xs) (list_any test ys) h

  single : (c : C) → sort_in c ≡ Err e → list_any test (c ∷ []) ≡ true
  single c h = or_left (test c) false (passes c h)

  last : (s : Sort) (r : Result (List Sort) QueryFault) → and_then r (λ us. Ok (s ∷ us)) ≡ Err e → r ≡ Err e
  last s (Ok us) h = absurd cc
  last s (Err f) h = cc

  mutual
    checked-fault : (t : Tree C) → checked sort_in t ≡ Err e → list_any test (columns_in t) ≡ true
    checked-fault (column c) h = single c h
    checked-fault (int z) h = absurd cc
    checked-fault (text b) h = absurd cc
    checked-fault (op o ts) h =
        let k : List Sort → Result Sort QueryFault = λ sorts. ok_or (sort_of_operator o sorts) WrongKind in
        elim (and_then-err (all_checked sort_in ts) k e h) [ inl d ↦ all_checked-fault ts d | inr d ↦ absurd (other (ok_or-err (sort_of_operator o d.0) e d.2)) ]

    all_checked-fault : (ts : Trees C) → all_checked sort_in ts ≡ Err e → list_any test (columns_of ts) ≡ true
    all_checked-fault none h = absurd cc
    all_checked-fault (one t ts) h =
        let rest : Sort → Result (List Sort) QueryFault = λ s. and_then (all_checked sort_in ts) (λ us. Ok (s ∷ us)) in
        elim (and_then-err (checked sort_in t) rest e h) [
          | inl d ↦ at_left (columns_in t) (columns_of ts) (checked-fault t d)
          | inr d ↦ at_right (columns_in t) (columns_of ts) (all_checked-fault ts (last d.0 (all_checked sort_in ts) d.2))
        ]

  unless-err : (right : Sort → Bool) (r : Result Sort QueryFault) → fault_unless right r ≡ Some e → r ≡ Err e
  unless-err right (Ok s) h = absurd (other (wrong (right s) e h))
  unless-err right (Err f) h = cc

  filter-fault : (filter : Option (Tree C)) → filter_fault sort_in filter ≡ Some e → list_any test (filter_columns filter) ≡ true
  filter-fault None h = absurd cc
  filter-fault (Some t) h = checked-fault t (unless-err is_truth (checked sort_in t) h)

  keys-fault : (by : List C) → first (map (key_fault sort_in) by) ≡ Some e → list_any test by ≡ true
  keys-fault [] h = absurd cc
  keys-fault (c ∷ by) h =
      elim (first-some (key_fault sort_in c) (map (key_fault sort_in) by) e h) [
        | inl d ↦ or_left (test c) (list_any test by) (passes c (unless-err is_plain (sort_in c) d))
        | inr d ↦ or_right (test c) (list_any test by) (keys-fault by d)
      ]

  agg-fault : (agg : Agg C) → agg_fault sort_in agg ≡ Some e → list_any test (agg_columns agg) ≡ true
  agg-fault Rows h = absurd cc
  agg-fault (Count c) h = single c (unless-err (λ s. true) (sort_in c) h)
  agg-fault (Sum c) h = single c (unless-err is_int (sort_in c) h)
  agg-fault (Least c) h = single c (unless-err is_plain (sort_in c) h)
  agg-fault (Greatest c) h = single c (unless-err is_plain (sort_in c) h)

  aggs-fault : (aggs : List (Agg C)) → first (map (agg_fault sort_in) aggs) ≡ Some e → list_any test (columns_of_aggs aggs) ≡ true
  aggs-fault [] h = absurd cc
  aggs-fault (a ∷ aggs) h =
      elim (first-some (agg_fault sort_in a) (map (agg_fault sort_in) aggs) e h) [
        | inl d ↦ at_left (agg_columns a) (columns_of_aggs aggs) (agg-fault a d)
        | inr d ↦ at_right (agg_columns a) (columns_of_aggs aggs) (aggs-fault aggs d)
      ]

  only : (o : Option QueryFault) → first (o ∷ []) ≡ Some e → o ≡ Some e
  only None h = absurd cc
  only (Some x) h = h

  pub query-fault : (q : QueryShape C) → query_fault sort_in q ≡ Some e → list_any test (columns q) ≡ true
  query-fault q h =
      let keys = first (map (key_fault sort_in) q.by) in
      let aggs = first (map (agg_fault sort_in) q.aggs) in
      let tail = q.by ++ columns_of_aggs q.aggs in
      elim (first-some (filter_fault sort_in q.filter) (keys ∷ aggs ∷ []) e h) [
        | inl d ↦ at_left (filter_columns q.filter) tail (filter-fault q.filter d)
        | inr d ↦ at_right (filter_columns q.filter) tail
            (elim (first-some keys (aggs ∷ []) e d) [
              | inl f ↦ at_left q.by (columns_of_aggs q.aggs) (keys-fault q.by f)
              | inr f ↦ at_right q.by (columns_of_aggs q.aggs) (aggs-fault q.aggs (only aggs f))
            ])
      ]

-- ---- names

resolved-fault : (deep : Bool) (fault : Option QueryFault) (q : QueryShape ℕ) (e : QueryFault) → e ≢ TooDeep → cond deep (Err TooDeep) (unless_fault fault q) ≡ Err e → fault ≡ Some e
resolved-fault true fault q e other h = absurd (other cc)
resolved-fault false (Some f) q e other h = cc
resolved-fault false None q e other h = absurd cc

never-ambiguous : (o : Option FieldShape) → sort_of_field o ≢ Err AmbiguousColumn
never-ambiguous (Some f) h = cc
never-ambiguous None h = cc

several : (a b : Bool) (n : ℕ) (r : Result Sort QueryFault) → r ≢ Err AmbiguousColumn → (n == 0) ≡ a → (n == 1) ≡ b → cond a (Err NoColumn) (cond b r (Err AmbiguousColumn)) ≡ Err AmbiguousColumn → nat_lt 1 n ≡ true
several true b n r never i j h = absurd cc
several false true n r never i j h = absurd (never h)
several false false n r never i j h = grind (arith, nat_tests)

named-ambiguous : (fields : List FieldShape) (name : List ℕ) → sort_named fields name ≡ Err AmbiguousColumn → nat_lt 1 (count_by (has_name name) fields) ≡ true
named-ambiguous fields name h = several _ _ (count_by (has_name name) fields) (sort_at fields (place_of fields name)) (never-ambiguous (slice_get fields (place_of fields name))) refl refl h

pub names-ambiguous : (fields : List FieldShape) (q : QueryShape (List ℕ)) → resolved fields q ≡ Err AmbiguousColumn → list_any (λ name. nat_lt 1 (count_by (has_name name) fields)) (columns q) ≡ true
names-ambiguous fields q h =
    query-fault (sort_named fields) (λ name. nat_lt 1 (count_by (has_name name) fields)) AmbiguousColumn (λ is. cc) (named-ambiguous fields) q
    (resolved-fault (is_too_deep q.filter) (query_fault (sort_named fields) q) (renamed_query (place_of fields) q) AmbiguousColumn (λ is. cc) h)

-- where some field passes, the first that does is there
prefix-step : (b : Bool) (n m len : ℕ) → 0 < cond b 1 0 + n → (0 < n → m < len) → cond (not b) (1 + m) 0 < suc len
prefix-step true n m len h f = omega arith
prefix-step false n m len h f = omega (arith, f (omega arith))

prefix-within : {A : Type 0} (p : A → Bool) (xs : List A) → 0 < count_by p xs → position_or_len p xs < length xs
prefix-within p [] h = absurd (omega arith)
prefix-within p (x ∷ xs) h = prefix-step (p x) (count_by p xs) (position_or_len p xs) (length xs) (subst (λ n. 0 < n) (sum_by-cons (λ y. cond (p y) 1 0) x xs) h) (prefix-within p xs)

some-field : (o : Option FieldShape) → o ≢ None → sort_of_field o ≢ Err NoColumn
some-field (Some f) h i = cc
some-field None h i = h refl

there : (fields : List FieldShape) (i : ℕ) → i < length fields → slice_get fields i ≢ None
there fields i h is =
    elim (slice_get_cases fields i).1 [ inl d ↦ absurd (some-none d.0 (sym d.2 ∙ is)) | inr d ↦ omega arith ]
  where
    some-none : (f : FieldShape) → Some f ≢ None
    some-none f e = cc

named-there : (fields : List FieldShape) (name : List ℕ) → 0 < count_by (has_name name) fields → sort_at fields (place_of fields name) ≢ Err NoColumn
named-there fields name h =
    let within = prefix-within (has_name name) fields h in
    let n = position_or_len (has_name name) fields in
    let at : place_of fields name ≡ n = ap (λ b. unwrap_or (cond b (Some n) None) (length fields)) (lt-ltb _ _ within) in
    subst (λ i. sort_at fields i ≢ Err NoColumn) (sym at) (some-field (slice_get fields n) (there fields n within))

no_field : (a b : Bool) (n : ℕ) (r : Result Sort QueryFault) → (0 < n → r ≢ Err NoColumn) → (n == 0) ≡ a → (n == 1) ≡ b → cond a (Err NoColumn) (cond b r (Err AmbiguousColumn)) ≡ Err NoColumn → (n == 0) ≡ true
no_field true b n r found i j h = i
no_field false true n r found i j h = absurd (found (grind (arith, nat_tests)) h)
no_field false false n r found i j h = absurd cc

named-missing : (fields : List FieldShape) (name : List ℕ) → sort_named fields name ≡ Err NoColumn → (count_by (has_name name) fields == 0) ≡ true
named-missing fields name h = no_field _ _ (count_by (has_name name) fields) (sort_at fields (place_of fields name)) (named-there fields name) refl refl h

pub names-missing : (fields : List FieldShape) (q : QueryShape (List ℕ)) → resolved fields q ≡ Err NoColumn → list_any (λ name. count_by (has_name name) fields == 0) (columns q) ≡ true
names-missing fields q h =
    query-fault (sort_named fields) (λ name. count_by (has_name name) fields == 0) NoColumn (λ is. cc) (named-missing fields) q
    (resolved-fault (is_too_deep q.filter) (query_fault (sort_named fields) q) (renamed_query (place_of fields) q) NoColumn (λ is. cc) h)
