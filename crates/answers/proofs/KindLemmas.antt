-- Items of the kinds of their columns.
use Rattle.std.proofs.Common.{◌≡◌, ◌∙◌, ℕ, ◌+◌, ◌<◌, List, [], ◌∷◌, length, map, take, get_or, All, false, inl, inr, sym, ap, subst, arith, zero-add}
use Rattle.std.specs.Prelude.{◌⊎◌, None, slice_index_or}
use Rattle.std.proofs.lemmas.List.Elements.{All-append, All-cons, All-from_get_or, All-get_or, All-head, All-nil, All-tail, All-weaker}
use Rattle.std.proofs.lemmas.List.FromFn.{get_or-map-range_with_len}
use Rattle.arrays.specs.Prelude.{Batch, FieldShape, IsItemOf, Kind, Row, Seen, Table, is_list, kind_of_field, null, row_of, rows_of}
use Rattle.arrays.specs.Kind as kind
use Rattle.query.specs.Prelude.{agg_fault, is_plain, sort_at}
use Rattle.query.specs.declared.expr.Agg.{Agg}
use Rattle.query.specs.declared.expr.Agg.TheVariants.{Least, Greatest}
use Rattle.answers.specs.Answers.{all_rows}
use Rattle.tallies.specs.Prelude.{AreComparable, IsComparable, item_for}
use Rattle.evaluate.specs.Rows.{kind_at, HasColumn}
use Rattle.answers.proofs.AnsweringLemmas.{rows_next}
use Rattle.evaluate.proofs.RowLemmas.{plain_is_no_list, sort_passes}
use Rattle.answers.proofs.RunLemmas.{length-rows}

-- The item of a row in a column is null or of this kind, which isn't one of lists.
abbrev pub IsOneOf : ℕ → Kind → Row → Type 0
IsOneOf c k row = (is_list k ≡ false) × IsItemOf k (slice_index_or row c null)

-- The rows of a batch have at the column's place what the column's items are.
pub items_in : (b : Batch) (c : ℕ) (v : Seen) → HasColumn b c v → v.kind ≡ kind_at b.fields c → is_list v.kind ≡ false → All (IsItemOf v.kind) v.items
    → All (IsOneOf c (kind_at b.fields c)) (rows_of b)
items_in b c v column is plain all =
    subst (λ k. All (IsOneOf c k) (rows_of b)) is
    (All-from_get_or (IsOneOf c v.kind) (rows_of b) [] (λ i below.
    let here : i < b.rows = omega (arith, below, length-rows b) in
    let row : get_or (rows_of b) i [] ≡ row_of b.columns i = get_or-map-range_with_len (row_of b.columns) 0 b.rows i i [] here (zero-add i) in
    subst (IsOneOf c v.kind) (sym row)
    (plain, subst (IsItemOf v.kind) (column.item i here) (All-get_or (IsItemOf v.kind) v.items i null (omega (arith, here, column.len)) all))))

-- A column of which the least or the greatest is sought.
pub seen_by : (b : Batch) (a : Agg ℕ) (c : ℕ) (v : Seen) → (a ≡ Least c) ⊎ (a ≡ Greatest c) → agg_fault (sort_at b.fields) a ≡ None
    → HasColumn b c v → v.kind ≡ kind_at b.fields c → All (IsItemOf v.kind) v.items
    → All (λ (row : Row). IsComparable (kind_at b.fields) a (item_for a row)) (rows_of b)
seen_by b a c v (inl is) fits column kind all =
    let plain = sort_passes is_plain _ _ (ap (agg_fault (sort_at b.fields)) (sym is) ∙ fits) column.sort in
    subst (λ (x : Agg ℕ). All (λ (row : Row). IsComparable (kind_at b.fields) x (item_for x row)) (rows_of b)) (sym is)
    (items_in b c v column kind (plain_is_no_list v.kind plain) all)
seen_by b a c v (inr is) fits column kind all =
    let plain = sort_passes is_plain _ _ (ap (agg_fault (sort_at b.fields)) (sym is) ∙ fits) column.sort in
    subst (λ (x : Agg ℕ). All (λ (row : Row). IsComparable (kind_at b.fields) x (item_for x row)) (rows_of b)) (sym is)
    (items_in b c v column kind (plain_is_no_list v.kind plain) all)

-- What holds of each aggregate in each row holds in each row of each aggregate.
pub all_turned : (P : Agg ℕ → Row → Type 0) (aggs : List (Agg ℕ)) (rows : Table) → All (λ a. All (P a) rows) aggs → All (λ row. All (λ a. P a row) aggs) rows
all_turned P aggs [] h = All-nil (λ row. All (λ a. P a row) aggs)
all_turned P aggs (r ∷ rows) h =
    All-cons (λ row. All (λ a. P a row) aggs) r rows
    (All-weaker (λ a. All (P a) (r ∷ rows)) (λ a. P a r) (λ a here. All-head (P a) r rows here) aggs h)
    (all_turned P aggs rows (All-weaker (λ a. All (P a) (r ∷ rows)) (λ a. All (P a) rows) (λ a here. All-tail (P a) r rows here) aggs h))

-- Those of the next batch, whose kinds are the same.
pub comparable_next : (bs : List Batch) (i : ℕ) (b : Batch) (below : i < length bs) (is : b ≡ get_or bs i b) (fields : List FieldShape) (aggs : List (Agg ℕ))
    → map kind_of_field b.fields ≡ map kind_of_field fields → All (AreComparable (kind_at fields) aggs) (all_rows (take i bs))
    → All (AreComparable (kind_at b.fields) aggs) (rows_of b) → All (AreComparable (kind_at fields) aggs) (all_rows (take (i + 1) bs))
comparable_next bs i b below is fields aggs same front here =
    subst (All (AreComparable (kind_at fields) aggs)) (sym (rows_next bs i b below is))
    (All-append (AreComparable (kind_at fields) aggs) (all_rows (take i bs)) (rows_of b) front
    (subst (λ (kinds : List Kind). All (AreComparable (λ c. slice_index_or kinds c kind.boolean) aggs) (rows_of b)) same here))
