-- Queries as plain values, whose columns are called by anything.
use Rattle.std.specs.Prelude.{ℕ, List, Option, option_map}
use Rattle.query.specs.declared.expr.Agg.{Agg}
use Rattle.query.specs.declared.queries.Query.{Query}
use Rattle.query.specs.Tree.{Tree, tree_of}

pub record QueryShape (C : Type 0) : Type 0 where
  -- Which rows: those where it is true; every row, where there is none.
  pub filter : Option (Tree C)
  -- The columns whose items are the key of a group.
  pub by : List C
  -- The aggregates of each group.
  pub aggs : List (Agg C)

abbrev pub query_shape : Query → QueryShape ℕ
query_shape q = record { filter = option_map tree_of q.filter; by = q.by.items; aggs = q.aggs.items }
