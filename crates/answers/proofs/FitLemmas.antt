-- What a query that fits has.
use Rattle.std.proofs.Common.{◌≡◌, true, not, List, [], ◌∷◌, map, is_none, Option, Some, None, refl}
use Rattle.std.specs.Prelude.{All, ℕ}
use Rattle.std.proofs.lemmas.List.Elements.{All-nil, All-cons}
use Rattle.arrays.proofs.FirstLemmas.{first-none}
use Rattle.arrays.specs.Prelude.{FieldShape, first}
use Rattle.query.specs.Prelude.{QueryShape, agg_fault, filter_fault, fits, is_too_deep, key_fault, query_fault, sort_at}
use Rattle.query.specs.declared.fault.QueryFault.{QueryFault}
use Rattle.keys.proofs.SameLemmas.{both_true}

all_none : {X : Type 0} (f : X → Option QueryFault) (xs : List X) → first (map f xs) ≡ None → All (λ x. f x ≡ None) xs
all_none f [] h = All-nil (λ x. f x ≡ None)
all_none f (x ∷ xs) h =
    let p = first-none (f x) (map f xs) h in
    All-cons (λ x. f x ≡ None) x xs p.0 (all_none f xs p.1)

nothing : (o : Option QueryFault) → is_none o ≡ true → o ≡ None
nothing None h = refl
nothing (Some e) h = absurd cc

-- Its filter is a truth value, its keys are plain, and its aggregates are over columns of the kinds that they take.
pub record Fits (fields : List FieldShape) (q : QueryShape ℕ) : Type 0 where
  pub filter : filter_fault (sort_at fields) q.filter ≡ None
  pub by : All (λ c. key_fault (sort_at fields) c ≡ None) q.by
  pub aggs : All (λ a. agg_fault (sort_at fields) a ≡ None) q.aggs

pub what_fits : (fields : List FieldShape) (q : QueryShape ℕ) → fits fields q ≡ true → Fits fields q
what_fits fields q h =
    let none = nothing (query_fault (sort_at fields) q) (both_true (not (is_too_deep q.filter)) (is_none (query_fault (sort_at fields) q)) h).1 in
    let p = first-none (filter_fault (sort_at fields) q.filter) _ none in
    let r = first-none (first (map (key_fault (sort_at fields)) q.by)) _ p.1 in
    let s = first-none (first (map (agg_fault (sort_at fields)) q.aggs)) _ r.1 in
    record { filter = p.0; by = all_none (key_fault (sort_at fields)) q.by r.0; aggs = all_none (agg_fault (sort_at fields)) q.aggs s.0 }
