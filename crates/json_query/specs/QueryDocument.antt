-- The query that a text asks. (JSON: RFC 8259)
use Rattle.std.specs.Prelude.{◌≡◌, ℕ, List, [], ◌∷◌, codes, if◌then◌else◌, nat_le, Option, Some, None, Ok, is_some}
use Rattle.std.specs.Map.{lookup}
use Rattle.std.specs.Str.{bytes_eq, is_utf8}
use Rattle.query.specs.declared.expr.Agg.{Agg}
use Rattle.query.specs.declared.expr.Agg.TheVariants.{Rows, Count, Sum, Least, Greatest}
use Rattle.query.specs.Prelude.{QueryShape, Tree}
use Rattle.json_base.specs.Prelude.{Data, Items, as_null, as_str, items_len, member_of, no_items, read}
use Rattle.json_base.specs.declared.path.Member.{Member}
use Rattle.json_base.specs.declared.path.Member.TheVariants as member
use Rattle.json_base.specs.declared.path.Step.TheVariants as step
use Rattle.json_base.specs.declared.fault.JsonFaultKind.TheVariants.{NotJson, WrongMember}
use Rattle.json_query.specs.Reading.{JsonReading, wanted, chain, mapped, both, under, tested, if_object, text_in, array_in, items, each_item}
use Rattle.json_query.specs.QueryExpr.{expr}

-- ---- the parts of a query

-- The aggregates over a column, by their names.
abbrev pub column_aggs : List (List ℕ × (List ℕ → Agg (List ℕ)))
column_aggs = (codes "count", Count) ∷ (codes "sum", Sum) ∷ (codes "least", Least) ∷ (codes "greatest", Greatest) ∷ []

-- The aggregate of the name, over the column of the object; the number of rows is over none.
abbrev pub agg_named : Data → List ℕ → JsonReading (Agg (List ℕ))
agg_named d name =
    if bytes_eq name (codes "rows") then Ok Rows
    else chain (wanted WrongMember (step.Member member.Agg ∷ []) (lookup (bytes_eq name) column_aggs)) (λ over. mapped over (text_in member.Column d))

abbrev pub agg : Data → JsonReading (Agg (List ℕ))
agg d = if_object d (chain (text_in member.Agg d) (agg_named d))

-- Every row is requested where the filter is absent or null.
abbrev pub filter_of : Option Data → JsonReading (Option (Tree (List ℕ)))
filter_of None = Ok None
filter_of (Some d) = if is_some (as_null d) then Ok None else mapped Some (expr d)

unfoldable pub filter : Data → JsonReading (Option (Tree (List ℕ)))
filter d = under (step.Member member.Filter) (filter_of (member_of member.Filter d))

-- The items of an array that may be absent: then there are none.
unfoldable pub list_in : Member → Data → JsonReading Items
list_in m d = if is_some (member_of m d) then array_in m d else Ok no_items

-- At most four columns make a key.
unfoldable pub key_names : Items → JsonReading (List (List ℕ))
key_names ds = tested (nat_le (items_len ds) 4) (each_item (λ d. wanted WrongMember [] (as_str d)) ds)

unfoldable pub by : Data → JsonReading (List (List ℕ))
by d = items member.By (list_in member.By d) key_names

unfoldable pub aggs : Data → JsonReading (List (Agg (List ℕ)))
aggs d = items member.Aggs (list_in member.Aggs d) (each_item agg)

-- ---- queries

abbrev pub shape : Option (Tree (List ℕ)) → List (List ℕ) × List (Agg (List ℕ)) → QueryShape (List ℕ)
shape filter groups = record { filter = filter; by = groups.0; aggs = groups.1 }

abbrev pub query_of : Data → JsonReading (QueryShape (List ℕ))
query_of d = if_object d (both shape (filter d) (both (λ by aggs. (by, aggs)) (by d) (aggs d)))

-- The bytes are UTF-8, and JSON that is nested at most 127 deep.
abbrev pub document_of : List ℕ → JsonReading Data
document_of bytes = wanted NotJson [] (if is_utf8 bytes then read bytes else None)

unfoldable pub query_text : List ℕ → JsonReading (QueryShape (List ℕ))
query_text bytes = chain (document_of bytes) query_of

-- The bytes are the text of the query.
pub record ReadsQueryText (bytes : List ℕ) (q : QueryShape (List ℕ)) : Type 0 where
  pub reads : query_text bytes ≡ Ok q
