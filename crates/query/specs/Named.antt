-- The columns that a query names, in the order of the walk.
use Rattle.std.specs.Prelude.{List, [], ◌∷◌, ◌++◌, Option, Some, None}
use Rattle.query.specs.declared.expr.Agg.{Agg}
use Rattle.query.specs.declared.expr.Agg.TheVariants.{Rows, Count, Sum, Least, Greatest}
use Rattle.query.specs.QueryShape.{QueryShape}
use Rattle.query.specs.Tree.{Tree, column, int, text, op, Trees, none, one}

abbrev mutual
  pub columns_in : {C : Type 0} → Tree C → List C
  columns_in (column c) = c ∷ []
  columns_in (int z) = []
  columns_in (text s) = []
  columns_in (op o ts) = columns_of ts

  pub columns_of : {C : Type 0} → Trees C → List C
  columns_of none = []
  columns_of (one t ts) = columns_in t ++ columns_of ts

abbrev pub filter_columns : {C : Type 0} → Option (Tree C) → List C
filter_columns None = []
filter_columns (Some t) = columns_in t

abbrev pub agg_columns : {C : Type 0} → Agg C → List C
agg_columns Rows = []
agg_columns (Count c) = c ∷ []
agg_columns (Sum c) = c ∷ []
agg_columns (Least c) = c ∷ []
agg_columns (Greatest c) = c ∷ []

abbrev pub columns_of_aggs : {C : Type 0} → List (Agg C) → List C
columns_of_aggs [] = []
columns_of_aggs (a ∷ aggs) = agg_columns a ++ columns_of_aggs aggs

abbrev pub columns : {C : Type 0} → QueryShape C → List C
columns q = filter_columns q.filter ++ (q.by ++ columns_of_aggs q.aggs)
