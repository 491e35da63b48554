-- The columns that a query names.
use Rattle.std.proofs.Common.{◌≡◌, ◌∙◌, ◌&&◌, ◌++◌, ℕ, Bool, true, false, not, cond, length, nat_lt, List, [], ◌∷◌, map, Option, Some, None, Result, Ok, Err, ap, sym, refl, count_by, arith}
use Rattle.std.specs.Prelude.{◌==◌, is_none, option_map, slice_get}
use Rattle.std.specs.List.{list_all}
use Rattle.std.specs.Option.{ok_or}
use Rattle.std.proofs.lemmas.List.Folds.{list_all-append}
use Rattle.std.proofs.lemmas.Option.{slice_get_within}
use Rattle.std.proofs.lemmas.Bool.Decides.{nat_tests}
use Rattle.std.proofs.lemmas.Bool.{and_from}
use Rattle.types.specs.Prelude.{FieldShape, first}
use Rattle.types.proofs.FirstLemmas.{first-none}
use Rattle.query.specs.declared.expr.Agg.{Agg}
use Rattle.query.specs.declared.expr.Agg.TheVariants.{Rows, Count, Sum, Least, Greatest}
use Rattle.query.specs.declared.fault.QueryFault.{QueryFault}
use Rattle.query.specs.declared.fault.QueryFault.TheVariants.{AmbiguousColumn, NoColumn, TooDeep, WrongKind}
use Rattle.query.specs.declared.sort.Sort.{Sort}
use Rattle.query.specs.Prelude.{QueryShape, Tree, Trees, agg_columns, agg_fault, all_checked, all_renamed, and_then, checked, column, columns, columns_in, columns_of, columns_of_aggs, fault_unless, filter_columns, filter_fault, fits, has_name, int, is_int, is_plain, is_too_deep, is_truth, key_fault, none, one, op, place_of, query_fault, renamed, renamed_agg, renamed_query, resolved, sort_at, sort_named, sort_of_field, sort_of_operator, text, unless_fault}
use Rattle.query.proofs.FitLemmas.{and_then-ok}

-- ---- where no fault stands, each column has a sort

module _ {C : Type 0} (sort_in : C → Result Sort QueryFault) (test : C → Bool) (passes : (c : C) (s : Sort) → sort_in c ≡ Ok s → test c ≡ true) where
  pub joined : (xs ys : List C) → list_all test xs ≡ true → list_all test ys ≡ true → list_all test (xs ++ ys) ≡ true
  joined xs ys h k = list_all-append test xs ys ∙ and_from (list_all test xs) (list_all test ys) h k

  single : (c : C) (s : Sort) → sort_in c ≡ Ok s → list_all test (c ∷ []) ≡ true
  single c s h = and_from (test c) true (passes c s h) refl

  mutual
    checked-columns : (t : Tree C) (s : Sort) → checked sort_in t ≡ Ok s → list_all test (columns_in t) ≡ true
    checked-columns (column c) s h = single c s h
    checked-columns (int z) s h = refl
    checked-columns (text b) s h = refl
    checked-columns (op o ts) s h =
        let k : List Sort → Result Sort QueryFault = λ sorts. ok_or (sort_of_operator o sorts) WrongKind in
        let d = and_then-ok (all_checked sort_in ts) k s h in
        all_checked-columns ts d.0 d.1

    all_checked-columns : (ts : Trees C) (ss : List Sort) → all_checked sort_in ts ≡ Ok ss → list_all test (columns_of ts) ≡ true
    all_checked-columns none ss h = refl
    all_checked-columns (one t ts) ss h =
        let rest : Sort → Result (List Sort) QueryFault = λ s. and_then (all_checked sort_in ts) (λ us. Ok (s ∷ us)) in
        let d = and_then-ok (checked sort_in t) rest ss h in
        let last : List Sort → Result (List Sort) QueryFault = λ us. Ok (d.0 ∷ us) in
        let e = and_then-ok (all_checked sort_in ts) last ss d.2 in
        joined (columns_in t) (columns_of ts) (checked-columns t d.0 d.1) (all_checked-columns ts e.0 e.1)

  unless-ok : (right : Sort → Bool) (r : Result Sort QueryFault) → fault_unless right r ≡ None → (s : Sort) × (r ≡ Ok s)
  unless-ok right (Ok s) h = (s, refl)
  unless-ok right (Err e) h = absurd cc

  filter-columns : (filter : Option (Tree C)) → filter_fault sort_in filter ≡ None → list_all test (filter_columns filter) ≡ true
  filter-columns None h = refl
  filter-columns (Some t) h = let d = unless-ok is_truth (checked sort_in t) h in checked-columns t d.0 d.1

  keys-columns : (by : List C) → first (map (key_fault sort_in) by) ≡ None → list_all test by ≡ true
  keys-columns [] h = refl
  keys-columns (c ∷ by) h =
      let d = first-none (key_fault sort_in c) (map (key_fault sort_in) by) h in
      let e = unless-ok is_plain (sort_in c) d.0 in
      and_from (test c) (list_all test by) (passes c e.0 e.1) (keys-columns by d.1)

  column-ok : (right : Sort → Bool) (c : C) → fault_unless right (sort_in c) ≡ None → list_all test (c ∷ []) ≡ true
  column-ok right c h = let e = unless-ok right (sort_in c) h in single c e.0 e.1

  agg-columns : (agg : Agg C) → agg_fault sort_in agg ≡ None → list_all test (agg_columns agg) ≡ true
  agg-columns Rows h = refl
  agg-columns (Count c) h = column-ok (λ s. true) c h
  agg-columns (Sum c) h = column-ok is_int c h
  agg-columns (Least c) h = column-ok is_plain c h
  agg-columns (Greatest c) h = column-ok is_plain c h

  aggs-columns : (aggs : List (Agg C)) → first (map (agg_fault sort_in) aggs) ≡ None → list_all test (columns_of_aggs aggs) ≡ true
  aggs-columns [] h = refl
  aggs-columns (a ∷ aggs) h =
      let d = first-none (agg_fault sort_in a) (map (agg_fault sort_in) aggs) h in
      joined (agg_columns a) (columns_of_aggs aggs) (agg-columns a d.0) (aggs-columns aggs d.1)

  pub query-columns : (q : QueryShape C) → query_fault sort_in q ≡ None → list_all test (columns q) ≡ true
  query-columns q h =
      let d = first-none (filter_fault sort_in q.filter) (first (map (key_fault sort_in) q.by) ∷ first (map (agg_fault sort_in) q.aggs) ∷ []) h in
      let e = first-none (first (map (key_fault sort_in) q.by)) (first (map (agg_fault sort_in) q.aggs) ∷ []) d.1 in
      let f = first-none (first (map (agg_fault sort_in) q.aggs)) [] e.1 in
      joined (filter_columns q.filter) (q.by ++ columns_of_aggs q.aggs) (filter-columns q.filter d.0)
      (joined q.by (columns_of_aggs q.aggs) (keys-columns q.by e.0) (aggs-columns q.aggs f.0))

-- ---- positions

field-there : (o : Option FieldShape) (s : Sort) → sort_of_field o ≡ Ok s → (f : FieldShape) × (o ≡ Some f)
field-there (Some f) s h = (f, refl)
field-there None s h = absurd cc

place-within : (fields : List FieldShape) (place : ℕ) (s : Sort) → sort_at fields place ≡ Ok s → nat_lt place (length fields) ≡ true
place-within fields place s h =
    let d = field-there (slice_get fields place) s h in
    let within = slice_get_within fields place d.0 d.1 in
    grind (arith, nat_tests)

fits-faultless : (deep : Bool) (fault : Option QueryFault) → (not deep && is_none fault) ≡ true → fault ≡ None
fits-faultless true fault h = absurd cc
fits-faultless false None h = refl
fits-faultless false (Some e) h = absurd cc

pub positions-within : (fields : List FieldShape) (q : QueryShape ℕ) → fits fields q ≡ true → list_all (λ place. nat_lt place (length fields)) (columns q) ≡ true
positions-within fields q h =
    query-columns (sort_at fields) (λ place. nat_lt place (length fields)) (place-within fields) q
    (fits-faultless (is_too_deep q.filter) (query_fault (sort_at fields) q) h)

-- ---- names

once-only : (is_none is_one : Bool) (r : Result Sort QueryFault) (s : Sort) → cond is_none (Err NoColumn) (cond is_one r (Err AmbiguousColumn)) ≡ Ok s → is_one ≡ true
once-only true is_one r s h = absurd cc
once-only false true r s h = refl
once-only false false r s h = absurd cc

named-once : (fields : List FieldShape) (name : List ℕ) (s : Sort) → sort_named fields name ≡ Ok s → (count_by (has_name name) fields == 1) ≡ true
named-once fields name s h = once-only _ _ _ s h

resolved-faultless : (deep : Bool) (fault : Option QueryFault) (q r : QueryShape ℕ) → cond deep (Err TooDeep) (unless_fault fault q) ≡ Ok r → (fault ≡ None) × (q ≡ r)
resolved-faultless true fault q r h = absurd cc
resolved-faultless false (Some e) q r h = absurd cc
resolved-faultless false None q r h = (refl, cc)

pub names-once : (fields : List FieldShape) (q : QueryShape (List ℕ)) (r : QueryShape ℕ) → resolved fields q ≡ Ok r → list_all (λ name. count_by (has_name name) fields == 1) (columns q) ≡ true
names-once fields q r h =
    query-columns (sort_named fields) (λ name. count_by (has_name name) fields == 1) (named-once fields) q
    (resolved-faultless (is_too_deep q.filter) (query_fault (sort_named fields) q) (renamed_query (place_of fields) q) r h).0

map-append : {B D : Type 0} (f : B → D) (xs ys : List B) → map f (xs ++ ys) ≡ map f xs ++ map f ys
map-append f [] ys = refl
map-append f (x ∷ xs) ys = ap (λ zs. f x ∷ zs) (map-append f xs ys)

mutual
  columns_in-renamed : {B D : Type 0} (f : B → D) (t : Tree B) → columns_in (renamed f t) ≡ map f (columns_in t)
  columns_in-renamed f (column c) = refl
  columns_in-renamed f (int z) = refl
  columns_in-renamed f (text s) = refl
  columns_in-renamed f (op o ts) = columns_of-renamed f ts

  columns_of-renamed : {B D : Type 0} (f : B → D) (ts : Trees B) → columns_of (all_renamed f ts) ≡ map f (columns_of ts)
  columns_of-renamed f none = refl
  columns_of-renamed f (one t ts) =
      ap (λ xs. xs ++ columns_of (all_renamed f ts)) (columns_in-renamed f t)
      ∙ ap (λ ys. map f (columns_in t) ++ ys) (columns_of-renamed f ts)
      ∙ sym (map-append f (columns_in t) (columns_of ts))

filter_columns-renamed : {B D : Type 0} (f : B → D) (filter : Option (Tree B)) → filter_columns (option_map (renamed f) filter) ≡ map f (filter_columns filter)
filter_columns-renamed f None = refl
filter_columns-renamed f (Some t) = columns_in-renamed f t

agg_columns-renamed : {B D : Type 0} (f : B → D) (agg : Agg B) → agg_columns (renamed_agg f agg) ≡ map f (agg_columns agg)
agg_columns-renamed f Rows = refl
agg_columns-renamed f (Count c) = refl
agg_columns-renamed f (Sum c) = refl
agg_columns-renamed f (Least c) = refl
agg_columns-renamed f (Greatest c) = refl

columns_of_aggs-renamed : {B D : Type 0} (f : B → D) (aggs : List (Agg B)) → columns_of_aggs (map (renamed_agg f) aggs) ≡ map f (columns_of_aggs aggs)
columns_of_aggs-renamed f [] = refl
columns_of_aggs-renamed f (a ∷ aggs) =
    ap (λ xs. xs ++ columns_of_aggs (map (renamed_agg f) aggs)) (agg_columns-renamed f a)
    ∙ ap (λ ys. map f (agg_columns a) ++ ys) (columns_of_aggs-renamed f aggs)
    ∙ sym (map-append f (agg_columns a) (columns_of_aggs aggs))

columns-renamed : {B D : Type 0} (f : B → D) (q : QueryShape B) → columns (renamed_query f q) ≡ map f (columns q)
columns-renamed f q =
    ap (λ xs. xs ++ (map f q.by ++ columns_of_aggs (map (renamed_agg f) q.aggs))) (filter_columns-renamed f q.filter)
    ∙ ap (λ ys. map f (filter_columns q.filter) ++ (map f q.by ++ ys)) (columns_of_aggs-renamed f q.aggs)
    ∙ ap (λ ys. map f (filter_columns q.filter) ++ ys) (sym (map-append f q.by (columns_of_aggs q.aggs)))
    ∙ sym (map-append f (filter_columns q.filter) (q.by ++ columns_of_aggs q.aggs))

pub names-placed : (fields : List FieldShape) (q : QueryShape (List ℕ)) (r : QueryShape ℕ) → resolved fields q ≡ Ok r → columns r ≡ map (place_of fields) (columns q)
names-placed fields q r h =
    let d = resolved-faultless (is_too_deep q.filter) (query_fault (sort_named fields) q) (renamed_query (place_of fields) q) r h in
    ap columns (sym d.1) ∙ columns-renamed (place_of fields) q
