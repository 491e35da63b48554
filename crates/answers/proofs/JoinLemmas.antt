-- The groups of rows, to which those of the rows behind are added.
use Rattle.std.proofs.Common.{◌≡◌, ◌∙◌, ℕ, ◌<◌, List, [], ◌∷◌, ◌++◌, length, map, get_or, refl, sym, ap, subst, arith}
use Rattle.std.specs.Prelude.{All}
use Rattle.std.proofs.lemmas.List.{get_or-map, length-map}
use Rattle.std.proofs.lemmas.List.Elements.{All-cons, All-filter, All-head, All-map, All-nil, All-tail, All-weaker}
use Rattle.arrays.specs.Prelude.{Kind, Row, Table}
use Rattle.query.specs.declared.expr.Agg.{Agg}
use Rattle.query.specs.declared.expr.Agg.TheVariants as agg
use Rattle.tallies.specs.Prelude.{AreAlike, AreComparable, ColumnShape, IsComparable, column_of, item_for, items_for, show_column}
use Rattle.keys.specs.Prelude.{key_of, same_key}
use Rattle.answers.specs.Prelude.{HasGroups, key_tables, keys_of, rows_of_key}
use Rattle.query.specs.declared.queries.Query.{Query}
use Rattle.answers.specs.declared.grouping.Grouping.{Grouping}
use Rattle.tallies.specs.declared.column.TallyColumn.{TallyColumn}
use Rattle.keys.proofs.KeyLemmas.{Keys}

-- ---- what the aggregates look at

abbrev Alike : (ℕ → Kind) → Agg ℕ → Table → Type 0
Alike kinds a t = All (IsComparable kinds a) (items_for a t)

pub keys_alike : (kinds : ℕ → Kind) (a : Agg ℕ) (by : List ℕ) (rows : Table) (keys : Keys) → All (λ row. IsComparable kinds a (item_for a row)) rows → AreAlike kinds (key_tables by rows keys) a
keys_alike kinds a by rows [] h = All-nil (Alike kinds a)
keys_alike kinds a by rows (k ∷ keys) h =
    All-cons (Alike kinds a) (rows_of_key by rows k) (key_tables by rows keys)
    (All-map (IsComparable kinds a) (item_for a) (rows_of_key by rows k)
    (All-filter (λ (r : Row). same_key k (key_of by r)) (λ (row : Row). IsComparable kinds a (item_for a row)) rows h))
    (keys_alike kinds a by rows keys h)

pub aggs_alike : (kinds : ℕ → Kind) (aggs : List (Agg ℕ)) (by : List ℕ) (rows : Table) (keys : Keys) → All (AreComparable kinds aggs) rows → All (AreAlike kinds (key_tables by rows keys)) aggs
aggs_alike kinds [] by rows keys h = All-nil (AreAlike kinds (key_tables by rows keys))
aggs_alike kinds (a ∷ aggs) by rows keys h =
    let P : Agg ℕ → Row → Type 0 = λ b row. IsComparable kinds b (item_for b row) in
    All-cons (AreAlike kinds (key_tables by rows keys)) a aggs
    (keys_alike kinds a by rows keys (All-weaker (AreComparable kinds (a ∷ aggs)) (P a) (λ row all. All-head (λ b. P b row) a aggs all) rows h))
    (aggs_alike kinds aggs by rows keys (All-weaker (AreComparable kinds (a ∷ aggs)) (AreComparable kinds aggs) (λ row all. All-tail (λ b. P b row) a aggs all) rows h))

-- ---- the groups of both

no_rows : (by : List ℕ) (rows : Table) (keys : Keys) → keys ≡ keys_of by rows → length keys ≡ 0 → rows ≡ []
no_rows [] rows keys are none = absurd (omega (arith, none, ap (λ (l : Keys). length l) are))
no_rows (c ∷ by) [] keys are none = refl
no_rows (c ∷ by) (r ∷ rows) keys are none = absurd (omega (arith, none, ap (λ (l : Keys). length l) are))

-- Where there are no groups yet there are no rows.
pub merged_into_none : (q : Query) (rows more : Table) (g other : Grouping) → length g.keys ≡ 0 → HasGroups q rows g → HasGroups q more other → HasGroups q (rows ++ more) other
merged_into_none q rows more g other none h k =
    subst (λ (t : Table). HasGroups q (t ++ more) other) (sym (no_rows q.by.items rows g.keys h.0.keys_are none)) k

-- ---- columns

pub same_aggs_twice : (tables others : List Table) (aggs : List (Agg ℕ)) (cs ds : List TallyColumn) → map show_column cs ≡ map (column_of tables) aggs → map show_column ds ≡ map (column_of others) aggs
    → map (λ c. (show_column c).agg) ds ≡ map (λ c. (show_column c).agg) cs
same_aggs_twice tables others aggs cs ds h g = cells_reported others aggs ds g ∙ sym (cells_reported tables aggs cs h) where
  cells_reported : (tables : List Table) (aggs : List (Agg ℕ)) (cs : List TallyColumn) → map show_column cs ≡ map (column_of tables) aggs → map (λ c. (show_column c).agg) cs ≡ aggs
  cells_reported tables [] [] h = refl
  cells_reported tables (a ∷ aggs) [] h = absurd cc
  cells_reported tables [] (c ∷ cs) h = absurd cc
  cells_reported tables (a ∷ aggs) (c ∷ cs) h =
      let head : show_column c ≡ column_of tables a = cc in
      let tail : map show_column cs ≡ map (column_of tables) aggs = cc in
      let first : (show_column c).agg ≡ a = ap (λ (s : ColumnShape). s.agg) head in
      ap (λ x. x ∷ map (λ c. (show_column c).agg) cs) first ∙ ap (λ l. a ∷ l) (cells_reported tables aggs cs tail)

pub agg_there : (cs ds : List TallyColumn) (i : ℕ) (c d : TallyColumn) → map (λ x. (show_column x).agg) ds ≡ map (λ x. (show_column x).agg) cs → i < length cs
    → (show_column (get_or ds i d)).agg ≡ (show_column (get_or cs i c)).agg
agg_there cs ds i c d same below =
    let f : TallyColumn → Agg ℕ = λ x. (show_column x).agg in
    sym (get_or-map f ds i d agg.Rows (omega (arith, below, length-map cs f, length-map ds f, ap (λ (l : List (Agg ℕ)). length l) same)))
    ∙ ap (λ (l : List (Agg ℕ)). get_or l i agg.Rows) same
    ∙ get_or-map f cs i c agg.Rows below
