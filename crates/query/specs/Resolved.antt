-- What a query's text asks of the fields of a schema: the query by positions, or the first of its faults.
use Rattle.std.specs.Prelude.{ℕ, List, map, string_bytes, if◌then◌else◌, Option, Some, None, option_map, Result, Ok, Err}
use Rattle.std.specs.declared.string.String.{String}
use Rattle.std.specs.declared.alloc.Global.{Global}
use Rattle.types.specs.Shape.{FieldShape}
use Rattle.query.specs.declared.expr.Agg.{Agg}
use Rattle.query.specs.declared.expr.Agg.TheVariants.{Rows, Count, Sum, Least, Greatest}
use Rattle.query.specs.declared.fault.QueryFault.{QueryFault}
use Rattle.query.specs.declared.fault.QueryFault.TheVariants.{TooDeep}
use Rattle.query.specs.declared.queries.QueryText.{QueryText}
use Rattle.query.specs.QueryShape.{QueryShape}
use Rattle.query.specs.CalledColumns.{place_of, sort_named}
use Rattle.query.specs.FirstFault.{is_too_deep, query_fault}
use Rattle.query.specs.Tree.{Tree, column, int, text, op, Trees, none, one, tree_of}

-- ---- the same query, its columns called by other names

abbrev mutual
  pub renamed : {C D : Type 0} → (C → D) → Tree C → Tree D
  renamed f (column c) = column (f c)
  renamed f (int z) = int z
  renamed f (text s) = text s
  renamed f (op o ts) = op o (all_renamed f ts)

  pub all_renamed : {C D : Type 0} → (C → D) → Trees C → Trees D
  all_renamed f none = none
  all_renamed f (one t ts) = one (renamed f t) (all_renamed f ts)

abbrev pub renamed_agg : {C D : Type 0} → (C → D) → Agg C → Agg D
renamed_agg f Rows = Rows
renamed_agg f (Count c) = Count (f c)
renamed_agg f (Sum c) = Sum (f c)
renamed_agg f (Least c) = Least (f c)
renamed_agg f (Greatest c) = Greatest (f c)

abbrev pub renamed_query : {C D : Type 0} → (C → D) → QueryShape C → QueryShape D
renamed_query f q = record { filter = option_map (renamed f) q.filter; by = map f q.by; aggs = map (renamed_agg f) q.aggs }

-- ---- queries by name

-- A query as it is written.
abbrev pub written : QueryText → QueryShape (String Global)
written q = record { filter = option_map tree_of q.filter; by = q.by.items; aggs = q.aggs.items }

-- The same, its names as bytes.
abbrev pub named : QueryText → QueryShape (List ℕ)
named q = renamed_query string_bytes (written q)

-- The position that the name of a column becomes.
abbrev pub place_in : List FieldShape → String Global → ℕ
place_in fields name = place_of fields (string_bytes name)

-- Where no fault stands, the first of all coming first, each name is replaced by its column's position.
abbrev pub unless_fault : Option QueryFault → QueryShape ℕ → Result (QueryShape ℕ) QueryFault
unless_fault None q = Ok q
unless_fault (Some fault) q = Err fault

abbrev pub resolved : List FieldShape → QueryShape (List ℕ) → Result (QueryShape ℕ) QueryFault
resolved fields q =
    if is_too_deep q.filter then Err TooDeep
    else unless_fault (query_fault (sort_named fields) q) (renamed_query (place_of fields) q)
