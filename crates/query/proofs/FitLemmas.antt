-- What has no fault by name has none by position.
use Rattle.std.proofs.Common.{◌≡◌, ◌∙◌, ◌&&◌, ℕ, Bool, true, false, not, cond, nat_lt, List, [], ◌∷◌, map, Option, Some, None, Result, Ok, Err, ap, refl}
use Rattle.std.specs.Prelude.{is_none, option_map}
use Rattle.std.specs.Option.{ok_or}
use Rattle.types.specs.Prelude.{FieldShape, first}
use Rattle.types.proofs.FirstLemmas.{first-none}
use Rattle.query.specs.declared.expr.Agg.{Agg}
use Rattle.query.specs.declared.expr.Agg.TheVariants.{Rows, Count, Sum, Least, Greatest}
use Rattle.query.specs.declared.fault.QueryFault.{QueryFault}
use Rattle.query.specs.declared.fault.QueryFault.TheVariants.{WrongKind}
use Rattle.query.specs.declared.sort.Sort.{Sort}
use Rattle.query.specs.Prelude.{QueryShape, Tree, Trees, agg_fault, all_checked, and_then, checked, column, fault_unless, filter_fault, fits, int, is_int, is_plain, is_too_deep, is_truth, key_fault, none, one, op, place_of, query_fault, renamed, renamed_agg, renamed_query, sort_at, sort_named, sort_of_operator, text}
use Rattle.query.proofs.ResolveLemmas.{checked-renamed, depth-renamed, renamed-renamed}

-- ---- a query under other names

filter_fault-renamed : {C D : Type 0} (sort_in : D → Result Sort QueryFault) (f : C → D) (filter : Option (Tree C))
    → filter_fault sort_in (option_map (renamed f) filter) ≡ filter_fault (λ c. sort_in (f c)) filter
filter_fault-renamed sort_in f None = refl
filter_fault-renamed sort_in f (Some t) = ap (fault_unless is_truth) (checked-renamed sort_in f t)

keys-renamed : {C D : Type 0} (sort_in : D → Result Sort QueryFault) (f : C → D) (by : List C)
    → map (key_fault sort_in) (map f by) ≡ map (key_fault (λ c. sort_in (f c))) by
keys-renamed sort_in f [] = refl
keys-renamed sort_in f (c ∷ by) = ap (λ os. key_fault sort_in (f c) ∷ os) (keys-renamed sort_in f by)

agg_fault-renamed : {C D : Type 0} (sort_in : D → Result Sort QueryFault) (f : C → D) (agg : Agg C)
    → agg_fault sort_in (renamed_agg f agg) ≡ agg_fault (λ c. sort_in (f c)) agg
agg_fault-renamed sort_in f Rows = refl
agg_fault-renamed sort_in f (Count c) = refl
agg_fault-renamed sort_in f (Sum c) = refl
agg_fault-renamed sort_in f (Least c) = refl
agg_fault-renamed sort_in f (Greatest c) = refl

aggs-renamed : {C D : Type 0} (sort_in : D → Result Sort QueryFault) (f : C → D) (aggs : List (Agg C))
    → map (agg_fault sort_in) (map (renamed_agg f) aggs) ≡ map (agg_fault (λ c. sort_in (f c))) aggs
aggs-renamed sort_in f [] = refl
aggs-renamed sort_in f (a ∷ aggs) =
    ap (λ o. o ∷ map (agg_fault sort_in) (map (renamed_agg f) aggs)) (agg_fault-renamed sort_in f a)
    ∙ ap (λ os. agg_fault (λ c. sort_in (f c)) a ∷ os) (aggs-renamed sort_in f aggs)

pub query_fault-renamed : {C D : Type 0} (sort_in : D → Result Sort QueryFault) (f : C → D) (q : QueryShape C)
    → query_fault sort_in (renamed_query f q) ≡ query_fault (λ c. sort_in (f c)) q
query_fault-renamed sort_in f q =
    ap (λ o. first (o ∷ first (map (key_fault sort_in) (map f q.by)) ∷ first (map (agg_fault sort_in) (map (renamed_agg f) q.aggs)) ∷ [])) (filter_fault-renamed sort_in f q.filter)
    ∙ ap (λ os. first (filter_fault (λ c. sort_in (f c)) q.filter ∷ first os ∷ first (map (agg_fault sort_in) (map (renamed_agg f) q.aggs)) ∷ [])) (keys-renamed sort_in f q.by)
    ∙ ap (λ os. first (filter_fault (λ c. sort_in (f c)) q.filter ∷ first (map (key_fault (λ c. sort_in (f c))) q.by) ∷ first os ∷ [])) (aggs-renamed sort_in f q.aggs)

pub is_too_deep-renamed : {C D : Type 0} (f : C → D) (filter : Option (Tree C)) → is_too_deep (option_map (renamed f) filter) ≡ is_too_deep filter
is_too_deep-renamed f None = refl
is_too_deep-renamed f (Some t) = ap (nat_lt 32) (depth-renamed f t)

-- ---- no fault by one reading of the columns, none by another

pub and_then-ok : {A B : Type 0} (r : Result A QueryFault) (k : A → Result B QueryFault) (y : B) → and_then r k ≡ Ok y → (x : A) × (r ≡ Ok x) × (k x ≡ Ok y)
and_then-ok (Ok x) k y h = (x, refl, h)
and_then-ok (Err e) k y h = absurd cc

module _ {C : Type 0} (by_name by_place : C → Result Sort QueryFault) (same : (c : C) (s : Sort) → by_name c ≡ Ok s → by_place c ≡ Ok s) where
  mutual
    checked-same : (t : Tree C) (s : Sort) → checked by_name t ≡ Ok s → checked by_place t ≡ Ok s
    checked-same (column c) s h = same c s h
    checked-same (int z) s h = h
    checked-same (text b) s h = h
    checked-same (op o ts) s h =
        let k : List Sort → Result Sort QueryFault = λ sorts. ok_or (sort_of_operator o sorts) WrongKind in
        let d = and_then-ok (all_checked by_name ts) k s h in
        ap (λ r. and_then r k) (all_checked-same ts d.0 d.1) ∙ d.2

    all_checked-same : (ts : Trees C) (ss : List Sort) → all_checked by_name ts ≡ Ok ss → all_checked by_place ts ≡ Ok ss
    all_checked-same none ss h = h
    all_checked-same (one t ts) ss h =
        let rest : Sort → Result (List Sort) QueryFault = λ s. and_then (all_checked by_name ts) (λ us. Ok (s ∷ us)) in
        let d = and_then-ok (checked by_name t) rest ss h in
        let last : List Sort → Result (List Sort) QueryFault = λ us. Ok (d.0 ∷ us) in
        let e = and_then-ok (all_checked by_name ts) last ss d.2 in
        ap (λ r. and_then r (λ s. and_then (all_checked by_place ts) (λ us. Ok (s ∷ us)))) (checked-same t d.0 d.1)
        ∙ ap (λ r. and_then r last) (all_checked-same ts e.0 e.1)
        ∙ e.2

  unless-same : (test : Sort → Bool) (r u : Result Sort QueryFault) → ((s : Sort) → r ≡ Ok s → u ≡ Ok s) → fault_unless test r ≡ None → fault_unless test u ≡ None
  unless-same test (Ok s) u f h = ap (fault_unless test) (f s refl) ∙ h
  unless-same test (Err e) u f h = absurd cc

  filter-same : (filter : Option (Tree C)) → filter_fault by_name filter ≡ None → filter_fault by_place filter ≡ None
  filter-same None h = refl
  filter-same (Some t) h = unless-same is_truth (checked by_name t) (checked by_place t) (checked-same t) h

  agg-same : (agg : Agg C) → agg_fault by_name agg ≡ None → agg_fault by_place agg ≡ None
  agg-same Rows h = refl
  agg-same (Count c) h = unless-same (λ s. true) (by_name c) (by_place c) (same c) h
  agg-same (Sum c) h = unless-same is_int (by_name c) (by_place c) (same c) h
  agg-same (Least c) h = unless-same is_plain (by_name c) (by_place c) (same c) h
  agg-same (Greatest c) h = unless-same is_plain (by_name c) (by_place c) (same c) h

  keys-same : (by : List C) → first (map (key_fault by_name) by) ≡ None → first (map (key_fault by_place) by) ≡ None
  keys-same [] h = refl
  keys-same (c ∷ by) h =
      let d = first-none (key_fault by_name c) (map (key_fault by_name) by) h in
      ap (λ o. first (o ∷ map (key_fault by_place) by)) (unless-same is_plain (by_name c) (by_place c) (same c) d.0) ∙ keys-same by d.1

  aggs-same : (aggs : List (Agg C)) → first (map (agg_fault by_name) aggs) ≡ None → first (map (agg_fault by_place) aggs) ≡ None
  aggs-same [] h = refl
  aggs-same (a ∷ aggs) h =
      let d = first-none (agg_fault by_name a) (map (agg_fault by_name) aggs) h in
      ap (λ o. first (o ∷ map (agg_fault by_place) aggs)) (agg-same a d.0) ∙ aggs-same aggs d.1

  query-same : (q : QueryShape C) → query_fault by_name q ≡ None → query_fault by_place q ≡ None
  query-same q h =
      let d = first-none (filter_fault by_name q.filter) (first (map (key_fault by_name) q.by) ∷ first (map (agg_fault by_name) q.aggs) ∷ []) h in
      let e = first-none (first (map (key_fault by_name) q.by)) (first (map (agg_fault by_name) q.aggs) ∷ []) d.1 in
      let f = first-none (first (map (agg_fault by_name) q.aggs)) [] e.1 in
      ap (λ o. first (o ∷ first (map (key_fault by_place) q.by) ∷ first (map (agg_fault by_place) q.aggs) ∷ [])) (filter-same q.filter d.0)
      ∙ ap (λ o. first (o ∷ first (map (agg_fault by_place) q.aggs) ∷ [])) (keys-same q.by e.0)
      ∙ ap (λ o. first (o ∷ [])) (aggs-same q.aggs f.0)

-- ---- names and their positions

by_count : (is_none is_one : Bool) (r : Result Sort QueryFault) (e f : QueryFault) (s : Sort) → cond is_none (Err e) (cond is_one r (Err f)) ≡ Ok s → r ≡ Ok s
by_count true is_one r e f s h = absurd cc
by_count false true r e f s h = h
by_count false false r e f s h = absurd cc

named-placed : (fields : List FieldShape) (name : List ℕ) (s : Sort) → sort_named fields name ≡ Ok s → sort_at fields (place_of fields name) ≡ Ok s
named-placed fields name s h = by_count _ _ _ _ _ s h

-- a query without a fault by name fits by position
pub fits-renamed : (fields : List FieldShape) (q : QueryShape (List ℕ)) → is_too_deep q.filter ≡ false → query_fault (sort_named fields) q ≡ None
    → fits fields (renamed_query (place_of fields) q) ≡ true
fits-renamed fields q shallow h =
    ap (λ b. not b && is_none (query_fault (sort_at fields) (renamed_query (place_of fields) q))) (is_too_deep-renamed (place_of fields) q.filter ∙ shallow)
    ∙ ap is_none (query_fault-renamed (sort_at fields) (place_of fields) q ∙ query-same (sort_named fields) (λ name. sort_at fields (place_of fields name)) (named-placed fields) q h)

-- ---- a query as it is written

keys-twice : {B C D : Type 0} (g : C → D) (f : B → C) (xs : List B) → map g (map f xs) ≡ map (λ c. g (f c)) xs
keys-twice g f [] = refl
keys-twice g f (x ∷ xs) = ap (λ ys. g (f x) ∷ ys) (keys-twice g f xs)

agg-twice : {B C D : Type 0} (g : C → D) (f : B → C) (a : Agg B) → renamed_agg g (renamed_agg f a) ≡ renamed_agg (λ c. g (f c)) a
agg-twice g f Rows = refl
agg-twice g f (Count c) = refl
agg-twice g f (Sum c) = refl
agg-twice g f (Least c) = refl
agg-twice g f (Greatest c) = refl

aggs-twice : {B C D : Type 0} (g : C → D) (f : B → C) (xs : List (Agg B)) → map (renamed_agg g) (map (renamed_agg f) xs) ≡ map (renamed_agg (λ c. g (f c))) xs
aggs-twice g f [] = refl
aggs-twice g f (x ∷ xs) = ap (λ y. y ∷ map (renamed_agg g) (map (renamed_agg f) xs)) (agg-twice g f x) ∙ ap (λ ys. renamed_agg (λ c. g (f c)) x ∷ ys) (aggs-twice g f xs)

filter-twice : {B C D : Type 0} (g : C → D) (f : B → C) (filter : Option (Tree B)) → option_map (renamed g) (option_map (renamed f) filter) ≡ option_map (renamed (λ c. g (f c))) filter
filter-twice g f None = refl
filter-twice g f (Some t) = ap Some (renamed-renamed g f t)

pub query-twice : {B C D : Type 0} (g : C → D) (f : B → C) (q : QueryShape B) → renamed_query g (renamed_query f q) ≡ renamed_query (λ c. g (f c)) q
query-twice {B} {C} {D} g f q =
    ap (λ (t : Option (Tree D)). record { filter = t; by = map g (map f q.by); aggs = map (renamed_agg g) (map (renamed_agg f) q.aggs) }) (filter-twice g f q.filter)
    ∙ ap (λ (ks : List D). record { filter = option_map (renamed (λ c. g (f c))) q.filter; by = ks; aggs = map (renamed_agg g) (map (renamed_agg f) q.aggs) }) (keys-twice g f q.by)
    ∙ ap (λ (reported : List (Agg D)). record { filter = option_map (renamed (λ c. g (f c))) q.filter; by = map (λ c. g (f c)) q.by; aggs = reported }) (aggs-twice g f q.aggs)
