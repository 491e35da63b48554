-- The first fault of a query: of its filter, then its keys, then its aggregates.
use Rattle.std.specs.Prelude.{◌&&◌, not, nat_lt, ℕ, Bool, true, false, List, [], ◌∷◌, map, if◌then◌else◌, Option, Some, None, is_none, Result, Ok, Err}
use Rattle.types.specs.Prelude.{FieldShape, first}
use Rattle.query.specs.declared.expr.Agg.{Agg}
use Rattle.query.specs.declared.expr.Agg.TheVariants.{Rows, Count, Sum, Least, Greatest}
use Rattle.query.specs.declared.fault.QueryFault.{QueryFault}
use Rattle.query.specs.declared.fault.QueryFault.TheVariants.{WrongKind}
use Rattle.query.specs.declared.sort.Sort.{Sort}
use Rattle.query.specs.QueryShape.{QueryShape}
use Rattle.query.specs.Checked.{checked}
use Rattle.query.specs.CalledColumns.{sort_at}
use Rattle.query.specs.Sorts.{is_int, is_plain, is_truth}
use Rattle.query.specs.Tree.{Tree, depth}

abbrev pub fault_unless : (Sort → Bool) → Result Sort QueryFault → Option QueryFault
fault_unless test (Ok s) = if test s then None else Some WrongKind
fault_unless test (Err fault) = Some fault

-- A filter is a truth value.
abbrev pub filter_fault : {C : Type 0} → (C → Result Sort QueryFault) → Option (Tree C) → Option QueryFault
filter_fault sort_in None = None
filter_fault sort_in (Some t) = fault_unless is_truth (checked sort_in t)

-- A key is of an integer type, a truth value or a text.
abbrev pub key_fault : {C : Type 0} → (C → Result Sort QueryFault) → C → Option QueryFault
key_fault sort_in c = fault_unless is_plain (sort_in c)

-- Items of any column are counted; a sum is of integers, what is least and greatest of what a key may be.
abbrev pub agg_fault : {C : Type 0} → (C → Result Sort QueryFault) → Agg C → Option QueryFault
agg_fault sort_in Rows = None
agg_fault sort_in (Count c) = fault_unless (λ s. true) (sort_in c)
agg_fault sort_in (Sum c) = fault_unless is_int (sort_in c)
agg_fault sort_in (Least c) = fault_unless is_plain (sort_in c)
agg_fault sort_in (Greatest c) = fault_unless is_plain (sort_in c)

-- What calls a column gives its sort, or the fault.
abbrev pub query_fault : {C : Type 0} → (C → Result Sort QueryFault) → QueryShape C → Option QueryFault
query_fault sort_in q = first (
    filter_fault sort_in q.filter
    ∷ first (map (key_fault sort_in) q.by)
    ∷ first (map (agg_fault sort_in) q.aggs)
    ∷ [])

-- ---- depth

-- More than 32 nodes on the longest path of the filter.
abbrev pub is_too_deep : {C : Type 0} → Option (Tree C) → Bool
is_too_deep None = false
is_too_deep (Some t) = nat_lt 32 (depth t)

-- ---- queries over the fields of a schema

-- No fault stands, neither of columns nor of kinds nor of depth.
abbrev pub fits : List FieldShape → QueryShape ℕ → Bool
fits fields q = not (is_too_deep q.filter) && is_none (query_fault (sort_at fields) q)
