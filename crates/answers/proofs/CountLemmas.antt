-- The one group of a query that only counts rows.
use Rattle.std.proofs.Common.{◌≡◌, ◌∙◌, ℕ, ◌+◌, List, [], Option, Some, None, get_or, ◌∷◌, ◌++◌, filter, length, length-append, map, replicate, refl, sym, ap, subst}
use Rattle.std.specs.Prelude.{slice_set}
use Rattle.std.proofs.lemmas.List.{length-map}
use Rattle.arrays.specs.Prelude.{FieldShape, Table}
use Rattle.query.specs.Tree.{Tree}
use Rattle.query.specs.declared.expr.Agg.{Agg}
use Rattle.query.specs.declared.expr.Agg.TheVariants.{Rows}
use Rattle.tallies.specs.Prelude.{ColumnShape, column_of, counted, item_for, rows_column, show_column}
use Rattle.answers.specs.Prelude.{IsGrouped, is_kept, key_tables, keys_of, rows_of_key}
use Rattle.keys.specs.Keys.{key_of, with_keys}
use Rattle.tallies.specs.declared.column.TallyColumn.{TallyColumn}
use Rattle.keys.proofs.KeyLemmas.{Keys}
use Rattle.answers.proofs.GroupLemmas.{keys-more}
use Rattle.keys.proofs.MemoLemmas.{alike}

no_parts : (rows : Table) → map (key_of []) rows ≡ replicate (length rows) []
no_parts [] = refl
no_parts (r ∷ rows) = ap (λ (l : Keys). [] ∷ l) (no_parts rows)

pub sole_key : (rows : Table) → keys_of [] rows ≡ [] ∷ []
sole_key rows = keys-more [] [] rows ∙ ap (with_keys ([] ∷ [])) (no_parts rows) ∙ alike ([] ∷ []) [] 0 refl (length rows)

all_rows : (rows : Table) → rows_of_key [] rows [] ≡ rows
all_rows [] = refl
all_rows (r ∷ rows) = ap (λ (l : Table). r ∷ l) (all_rows rows)

counts : (rows : Table) → map (column_of (key_tables [] rows ([] ∷ []))) (Rows ∷ []) ≡ rows_column (length rows) ∷ []
counts rows =
    ap (λ (t : Table). column_of (t ∷ []) Rows ∷ []) (all_rows rows)
    ∙ ap (λ n. rows_column n ∷ []) (length-map rows (item_for Rows))

pub rows_alone : (rows : Table) (keys : Keys) (columns : List ColumnShape) → IsGrouped [] (Rows ∷ []) rows keys columns → columns ≡ rows_column (length rows) ∷ []
rows_alone rows keys columns h =
    h.columns_are ∙ ap (λ (l : Keys). map (column_of (key_tables [] rows l)) (Rows ∷ [])) (h.keys_are ∙ sole_key rows) ∙ counts rows

pub rows_more : (rows more : Table) (keys : Keys) (columns changed : List ColumnShape) → IsGrouped [] (Rows ∷ []) rows keys columns
    → changed ≡ rows_column (length rows + length more) ∷ [] → IsGrouped [] (Rows ∷ []) (rows ++ more) keys changed
rows_more rows more keys columns changed h is =
    let one : keys ≡ [] ∷ [] = h.keys_are ∙ sole_key rows in
    record {
      keys_are = one ∙ sym (sole_key (rows ++ more));
      apart = h.apart;
      columns_are = is ∙ ap (λ n. rows_column n ∷ []) (sym (length-append rows more)) ∙ sym (counts (rows ++ more))
          ∙ ap (λ (l : Keys). map (column_of (key_tables [] (rows ++ more) l)) (Rows ∷ [])) (sym one);
    }

-- ---- the column of such a query

module _ (by : List ℕ) (aggs : List (Agg ℕ)) (none : by ≡ []) (alone : aggs ≡ Rows ∷ []) (rows : Table) (keys : Keys) where
  as_counted : (columns : List ColumnShape) → IsGrouped by aggs rows keys columns → IsGrouped [] (Rows ∷ []) rows keys columns
  as_counted columns h =
      subst (λ a. IsGrouped [] a rows keys columns) alone (subst (λ b. IsGrouped b aggs rows keys columns) none h)

  pub one_column : (cs : List TallyColumn) (c : TallyColumn) → IsGrouped by aggs rows keys (map show_column cs) → c ≡ get_or cs 0 c → show_column c ≡ rows_column (length rows)
  one_column [] c h is =
      let e : [] ≡ rows_column (length rows) ∷ [] = rows_alone rows keys [] (as_counted [] h) in
      absurd cc
  one_column (x ∷ cs) c h is =
      let e : show_column x ∷ map show_column cs ≡ rows_column (length rows) ∷ [] = rows_alone rows keys (map show_column (x ∷ cs)) (as_counted (map show_column (x ∷ cs)) h) in
      let head : show_column x ≡ rows_column (length rows) = cc in
      ap show_column is ∙ head

  pub one_counted : (more : Table) (cs : List TallyColumn) (new : TallyColumn) → IsGrouped by aggs rows keys (map show_column cs)
      → show_column new ≡ rows_column (length rows + length more) → IsGrouped by aggs (rows ++ more) keys (map show_column (slice_set cs 0 new))
  one_counted more [] new h counted =
      let e : [] ≡ rows_column (length rows) ∷ [] = rows_alone rows keys [] (as_counted [] h) in
      absurd cc
  one_counted more (x ∷ cs) new h counted =
      let e : show_column x ∷ map show_column cs ≡ rows_column (length rows) ∷ [] = rows_alone rows keys (map show_column (x ∷ cs)) (as_counted (map show_column (x ∷ cs)) h) in
      let rest : map show_column cs ≡ [] = cc in
      let is : show_column new ∷ map show_column cs ≡ rows_column (length rows + length more) ∷ [] = cc (counted, rest) in
      let g = rows_more rows more keys (map show_column (x ∷ cs)) (show_column new ∷ map show_column cs) (as_counted (map show_column (x ∷ cs)) h) is in
      subst (λ b. IsGrouped b aggs (rows ++ more) keys (show_column new ∷ map show_column cs)) (sym none)
      (subst (λ a. IsGrouped [] a (rows ++ more) keys (show_column new ∷ map show_column cs)) (sym alone) g)

-- ---- no filter

pub all_kept : (fields : List FieldShape) (f : Option (Tree ℕ)) (rows : Table) → f ≡ None → filter (is_kept fields f) rows ≡ rows
all_kept fields (Some t) rows none = absurd cc
all_kept fields None [] none = refl
all_kept fields None (r ∷ rows) none = ap (λ (l : Table). r ∷ l) (all_kept fields None rows none)
