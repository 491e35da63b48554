-- What shards answered, and what is answered of all their rows.
use Rattle.std.proofs.Common.{◌≡◌, ◌∙◌, ℕ, ◌+◌, ◌≤◌, Bool, false, not, cond, ltb, List, [], ◌∷◌, ◌++◌, length, map, Option, Some, None, refl, sym, ap, subst, arith, append_assoc}
use Rattle.std.specs.Prelude.{All, Ok, Err, filter, flat_map, position}
use Rattle.std.specs.List.{AllZip, position_or_len, range_with_len}
use Rattle.std.proofs.lemmas.Bool.{ltb-false}
use Rattle.std.proofs.lemmas.List.{append-nil}
use Rattle.std.proofs.lemmas.List.Concat.{flat_map-append}
use Rattle.std.proofs.lemmas.List.Elements.{All-append, All-cons, All-nil, filter-append}
use Rattle.std.proofs.lemmas.List.FromFn.{length-range_with_len}
use Rattle.arrays.specs.Prelude.{FieldShape, Item, Kind, Row, Table}
use Rattle.group.specs.Summary.{AreStats}
use Rattle.group.specs.declared.stats.ColumnStats.{ColumnStats}
use Rattle.query.specs.QueryShape.{QueryShape}
use Rattle.query.specs.declared.expr.Agg.{Agg}
use Rattle.query.specs.declared.expr.Agg.TheVariants.{Rows, Count, Sum, Least, Greatest}
use Rattle.answers.specs.Prelude.{AreAnswers, AreJoinedInTurn, AreMergeable, GroupShape, again, all_again, grouped, groups, is_bad, is_kept, merging, row_of_group, rows_of_answers, rows_of_shards, unless_bad}
use Rattle.answers.proofs.CountLemmas.{all_kept}
use Rattle.keys.proofs.SameLemmas.{either}
use Rattle.answers.proofs.PieceLemmas.{found_behind, found_in_front}
use Rattle.answers.proofs.AnsweringLemmas.{nowhere}
use Rattle.answers.proofs.MergingGroupLemmas.{grouped_again}
use Rattle.answers.proofs.MergingKeyLemmas.{part}

-- ---- rows where the filter is not bad

module _ (p : Row → Bool) where
  none_passes : (rows : Table) → length rows ≤ position_or_len p rows → All (λ r. p r ≡ false) rows
  none_passes [] h = All-nil (λ r. p r ≡ false)
  none_passes (r ∷ rows) h =
      either (p r)
      (λ yes. absurd (omega (arith, h, ap (λ b. cond (not b) (1 + position_or_len p rows) 0) yes)))
      (λ no. All-cons (λ r. p r ≡ false) r rows no (none_passes rows (omega (arith, h, ap (λ b. cond (not b) (1 + position_or_len p rows) 0) no))))

  nowhere_passes : (rows : Table) → position p rows ≡ None → All (λ r. p r ≡ false) rows
  nowhere_passes rows h =
      let n = position_or_len p rows in
      none_passes rows
      (either (ltb n (length rows))
      (λ yes.
      let e = sym h ∙ ap (λ b. cond b (Some n) None) yes in
      absurd cc)
      (λ no. ltb-false n (length rows) no))

module _ (fields : List FieldShape) (q : QueryShape ℕ) where
  abbrev bad : Row → Bool
  bad = is_bad fields q.filter

  abbrev kept : Table → Table
  kept rows = filter (is_kept fields q.filter) rows

  no_bad : (o : Option ℕ) (gs hs : List GroupShape) → unless_bad o gs ≡ Ok hs → (o ≡ None) × (gs ≡ hs)
  no_bad None gs hs h =
      let same : gs ≡ hs = cc in
      (refl, same)
  no_bad (Some n) gs hs h = absurd cc

  first_bad : (o : Option ℕ) (gs : List GroupShape) (n : ℕ) → unless_bad o gs ≡ Err n → o ≡ Some n
  first_bad None gs n h = absurd cc
  first_bad (Some m) gs n h =
      let same : m ≡ n = cc in
      ap Some same

  -- What is answered of rows of which none is bad.
  of_good : (rows : Table) → All (λ r. bad r ≡ false) rows → groups fields q rows ≡ Ok (grouped q.by q.aggs (kept rows))
  of_good rows good = ap (λ o. unless_bad o (grouped q.by q.aggs (kept rows))) (nowhere bad rows good)

  good_rows : (shards : List Table) (answers : List (List GroupShape)) → AreAnswers fields q shards answers → All (λ r. bad r ≡ false) (rows_of_shards shards)
  good_rows [] answers h = All-nil (λ r. bad r ≡ false)
  good_rows (rows ∷ shards) [] h = absurd h
  good_rows (rows ∷ shards) (gs ∷ answers) h =
      All-append (λ r. bad r ≡ false) rows (rows_of_shards shards)
      (nowhere_passes bad rows (no_bad (position bad rows) (grouped q.by q.aggs (kept rows)) gs h.0).0) (good_rows shards answers h.1)

  answers_are : (shards : List Table) (answers : List (List GroupShape)) → AreAnswers fields q shards answers → rows_of_answers answers ≡ flat_map (part q.by q.aggs) (map kept shards)
  answers_are [] [] h = refl
  answers_are [] (gs ∷ answers) h = absurd h
  answers_are (rows ∷ shards) [] h = absurd h
  answers_are (rows ∷ shards) (gs ∷ answers) h =
      (λ j. map row_of_group (sym (no_bad (position bad rows) (grouped q.by q.aggs (kept rows)) gs h.0).1 j) ++ answers_are shards answers h.1 j)

  kept_rows : (shards : List Table) → kept (rows_of_shards shards) ≡ rows_of_shards (map kept shards)
  kept_rows [] = refl
  kept_rows (rows ∷ shards) = filter-append (is_kept fields q.filter) rows (rows_of_shards shards) ∙ ap (λ (t : Table). kept rows ++ t) (kept_rows shards)

  of_merging : (others : List FieldShape) (rows : Table) → groups others (merging q) rows ≡ Ok (grouped (range_with_len 0 (length q.by)) (all_again (length q.by) q.aggs) rows)
  of_merging others rows =
      let again : Table → List GroupShape = grouped (range_with_len 0 (length q.by)) (all_again (length q.by) q.aggs) in
      ap (λ o. unless_bad o (again (filter (is_kept others None) rows))) (nowhere (is_bad others None) rows (λ i d below. refl))
      ∙ ap (λ t. Ok (again t)) (all_kept others None rows refl)

  pub merged : (others : List FieldShape) (kinds : ℕ → Kind) (shards : List Table) (answers : List (List GroupShape)) → 1 ≤ length shards
      → All (AreMergeable kinds q.aggs) (kept (rows_of_shards shards)) → AreAnswers fields q shards answers
      → groups others (merging q) (rows_of_answers answers) ≡ groups fields q (rows_of_shards shards)
  merged others kinds [] answers some h are = absurd (omega (arith, some))
  merged others kinds (rows ∷ shards) answers some h are =
      of_merging others (rows_of_answers answers)
      ∙ ap (λ t. Ok (grouped (range_with_len 0 (length q.by)) (all_again (length q.by) q.aggs) t)) (answers_are (rows ∷ shards) answers are)
      ∙ ap Ok (grouped_again q.by q.aggs kinds (kept rows) (map kept shards) (subst (All (AreMergeable kinds q.aggs)) (kept_rows (rows ∷ shards)) h))
      ∙ ap (λ t. Ok (grouped q.by q.aggs t)) (sym (kept_rows (rows ∷ shards)))
      ∙ sym (of_good (rows_of_shards (rows ∷ shards)) (good_rows (rows ∷ shards) answers are))

  -- ---- a bad row

  pub refused : (front rest : List Table) (answers : List (List GroupShape)) (rows : Table) (n : ℕ) → AreAnswers fields q front answers → groups fields q rows ≡ Err n
      → groups fields q (rows_of_shards (front ++ rows ∷ rest)) ≡ Err (length (rows_of_shards front) + n)
  refused front rest answers rows n h is =
      let all = rows_of_shards (front ++ rows ∷ rest) in
      let behind = rows ++ rows_of_shards rest in
      let here = first_bad (position bad rows) (grouped q.by q.aggs (kept rows)) n is in
      ap (λ o. unless_bad o (grouped q.by q.aggs (kept all)))
      (ap (position bad) (flat_map-append (λ t. t) front (rows ∷ rest))
      ∙ found_behind bad (rows_of_shards front) behind n (good_rows front answers h) (found_in_front bad rows (rows_of_shards rest) n here))

-- ---- merging what was merged

again_again : (c d : ℕ) (a : Agg ℕ) → again c (again d a) ≡ again c a
again_again c d Rows = refl
again_again c d (Count e) = refl
again_again c d (Sum e) = refl
again_again c d (Least e) = refl
again_again c d (Greatest e) = refl

all_again_again : (c d : ℕ) (aggs : List (Agg ℕ)) → all_again c (all_again d aggs) ≡ all_again c aggs
all_again_again c d [] = refl
all_again_again c d (a ∷ aggs) = (λ j. again_again c d a j ∷ all_again_again (c + 1) (d + 1) aggs j)

abbrev make : ℕ → List (Agg ℕ) → QueryShape ℕ
make n aggs = record { filter = None; by = range_with_len 0 n; aggs = aggs }

pub merged_twice : (q : QueryShape ℕ) → merging (merging q) ≡ merging q
merged_twice q =
    ap (λ n. make n (all_again n (all_again (length q.by) q.aggs))) (length-range_with_len 0 (length q.by))
    ∙ ap (make (length q.by)) (all_again_again (length q.by) (length q.by) q.aggs)

-- ---- statistics

pub stats_in_turn : (k : Kind) (column : List Item) (parts : List (List Item)) (first all : ColumnStats) (stats : List ColumnStats) → AreStats first k column
    → AllZip (λ items s. AreStats s k items) parts stats → AreJoinedInTurn first stats all → AreStats all k (column ++ flat_map (λ items. items) parts)
stats_in_turn k column [] first all [] h each is = subst (λ l. AreStats all k l) (sym (append-nil column)) (subst (λ s. AreStats s k column) is h)
stats_in_turn k column [] first all (s ∷ stats) h each is = absurd each
stats_in_turn k column (items ∷ parts) first all [] h each is = absurd each
stats_in_turn k column (items ∷ parts) first all (s ∷ stats) h each is =
    subst (λ l. AreStats all k l) (append_assoc column items (flat_map (λ items. items) parts))
    (stats_in_turn k (column ++ items) parts is.0 all stats (is.1 k column items h each.0) each.1 is.2)
