-- What a query as it is written becomes.
use Rattle.std.proofs.Common.{◌≡◌, ◌∙◌, ℕ, String, Global, true, false, cond, List, Option, None, Result, Ok, Err, string_bytes, option_map, subst, ap, sym, refl}
use Rattle.std.specs.Result.{IfErr, IsErrAnd, IsOk}
use Rattle.types.specs.Shape.{FieldShape}
use Rattle.query.specs.declared.fault.QueryFault.{QueryFault}
use Rattle.query.specs.declared.fault.QueryFault.TheVariants.{TooDeep}
use Rattle.query.specs.declared.expr.Agg.{Agg}
use Rattle.query.specs.declared.queries.QueryText.{QueryText}
use Rattle.query.specs.Prelude.{QueryShape, fits, is_too_deep, place_of, query_fault, renamed_query, resolved, sort_named, tree_of, unless_fault, written}
use Rattle.query.proofs.FitLemmas.{fits-renamed, is_too_deep-renamed, query_fault-renamed, query-twice}

-- the fault of the parts is that of the whole
pub fault-written : (fields : List FieldShape) (text : QueryText) (by : List (String Global)) (aggs : List (Agg (String Global))) (fault : Option QueryFault)
    → fault ≡ query_fault (λ name. sort_named fields (string_bytes name)) (record { filter = option_map tree_of text.filter; by = by; aggs = aggs })
    → by ≡ text.by.items → aggs ≡ text.aggs.items
    → fault ≡ query_fault (λ name. sort_named fields (string_bytes name)) (written text)
fault-written fields text by aggs fault is same_by same_aggs =
    is
    ∙ ap (λ (names : List (String Global)). query_fault (λ name. sort_named fields (string_bytes name)) (record { filter = option_map tree_of text.filter; by = names; aggs = aggs })) same_by
    ∙ ap (λ (reported : List (Agg (String Global))). query_fault (λ name. sort_named fields (string_bytes name)) (record { filter = option_map tree_of text.filter; by = text.by.items; aggs = reported })) same_aggs

-- too deep
pub resolved-deep : (fields : List FieldShape) (q : QueryShape (String Global)) → is_too_deep q.filter ≡ true → resolved fields (renamed_query string_bytes q) ≡ Err TooDeep
resolved-deep fields q deep =
    let names = renamed_query string_bytes q in
    ap (λ b. cond b (Err TooDeep) (unless_fault (query_fault (sort_named fields) names) (renamed_query (place_of fields) names))) (is_too_deep-renamed string_bytes q.filter ∙ deep)

-- not too deep
pub resolved-shallow : (fields : List FieldShape) (q : QueryShape (String Global)) (fault : Option QueryFault) → is_too_deep q.filter ≡ false
    → fault ≡ query_fault (λ name. sort_named fields (string_bytes name)) q
    → resolved fields (renamed_query string_bytes q) ≡ unless_fault fault (renamed_query (λ name. place_of fields (string_bytes name)) q)
resolved-shallow fields q fault shallow is =
    let names = renamed_query string_bytes q in
    ap (λ b. cond b (Err TooDeep) (unless_fault (query_fault (sort_named fields) names) (renamed_query (place_of fields) names))) (is_too_deep-renamed string_bytes q.filter ∙ shallow)
    ∙ ap (λ o. unless_fault o (renamed_query (place_of fields) names)) (query_fault-renamed (sort_named fields) string_bytes q ∙ sym is)
    ∙ ap (unless_fault fault) (query-twice (place_of fields) string_bytes q)

-- what is left where no fault stands fits
pub fits-placed : (fields : List FieldShape) (q : QueryShape (String Global)) → is_too_deep q.filter ≡ false
    → None ≡ query_fault (λ name. sort_named fields (string_bytes name)) q
    → fits fields (renamed_query (λ name. place_of fields (string_bytes name)) q) ≡ true
fits-placed fields q shallow is =
    let names = renamed_query string_bytes q in
    ap (fits fields) (sym (query-twice (place_of fields) string_bytes q))
    ∙ fits-renamed fields names (is_too_deep-renamed string_bytes q.filter ∙ shallow) (query_fault-renamed (sort_named fields) string_bytes q ∙ sym is)

-- an error that is handed on
pub handed_on : {A E : Type 0} (r : Result A E) (fault : E) (P : E → Type 0) → IsErrAnd r (λ e. e ≡ fault) → P fault → IfErr r P
handed_on (Ok x) fault P h p = tt
handed_on (Err e) fault P h p = subst P (sym h) p

-- a query
pub IsOk-query : (r : Result (QueryShape ℕ) QueryFault) (q : QueryShape ℕ) → r ≡ Ok q → IsOk r
IsOk-query (Ok x) q h = refl
IsOk-query (Err e) q h = absurd cc
