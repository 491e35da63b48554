-- The tallies of groups, to which those of the rows behind are added.
use Rattle.std.proofs.Common.{◌≡◌, ◌∙◌, ℕ, zero, suc, ◌+◌, ◌<◌, ◌≤◌, ◌^◌, false, cond, List, [], ◌∷◌, ◌++◌, length, map, take, drop, replicate, ◌-◌, get_or, Option, Some, None, option_map, Result, Ok, Err, OnOk, refl, sym, ap, subst, arith, length-append}
use Rattle.std.specs.Prelude.{All, slice_index_or, slice_set}
use Rattle.std.proofs.lemmas.List.{get_or-map, get_or-set_same, length-map, length-replicate, length-set, length-take, map-append, take-map, take_more}
use Rattle.std.proofs.lemmas.List.Elements.{All-append, All-get_or, All-head, All-map, All-nil, All-replicate, All-set, All-tail, All-weaker}
use Rattle.arrays.specs.Prelude.{Item, Kind, Table, is_null, null}
use Rattle.group.specs.Prelude.{better, item_of_scalar, scalar_item}
use Rattle.group.specs.declared.stats.Scalar.{Scalar}
use Rattle.group.specs.declared.stats.Scalar.TheVariants as scalar
use Rattle.evaluate.specs.Prelude.{Agg}
use Rattle.evaluate.specs.Aggs as agg
use Rattle.tallies.specs.Prelude.{AreAlike, AreFew, ColumnShape, IsComparable, TallyShape, agg_at, bettered, column_merged, column_of, counted, further, is_further, item_for, items_for, merge_all, merged, padded, put_all, show_item, spread_all, tally_of, with_item}
use Rattle.tallies.specs.declared.end.End.{End}
use Rattle.tallies.specs.declared.end.End.TheVariants.{Least, Greatest}
use Rattle.tallies.proofs.ColumnLemmas.{refilled, shape}
use Rattle.tallies.proofs.TallyLemmas.{tally-merged, counts_few, item_first, not_better, some_cond}
use Rattle.tallies.proofs.SpreadLemmas.{set_shown}

-- ---- one cell

pub merged_end : (end : End) (c : ℕ) (s t : TallyShape) → merged (agg_at end c) s t ≡ bettered (better (further end) s.best t.best)
merged_end Least c s t = refl
merged_end Greatest c s t = refl

no_null : (s : Scalar) → is_null (scalar_item s) ≡ false
no_null (scalar.Int z) = refl
no_null (scalar.Bool b) = refl
no_null (scalar.Text t) = refl

pub with_better : (end : End) (best : Option Item) (s : Option Scalar) → with_item end best (item_of_scalar s) ≡ better (further end) best (option_map scalar_item s)
with_better end None None = refl
with_better end (Some x) None = ap (λ b. cond b (Some null) (Some x)) (not_better end (Some x) null refl)
with_better end None (Some s) = item_first end (scalar_item s) (no_null s)
with_better end (Some x) (Some s) = some_cond (is_further end x (scalar_item s)) (scalar_item s) x

-- ---- one cell more

merge_all-push : (a : Agg ℕ) (ns : List ℕ) (more tallies : List TallyShape) (n : ℕ) (t : TallyShape) → length ns ≡ length more
    → merge_all a (ns ++ n ∷ []) (more ++ t ∷ []) tallies ≡ slice_set (merge_all a ns more tallies) n (merged a (slice_index_or (merge_all a ns more tallies) n (counted 0)) t)
merge_all-push a [] [] tallies n t h = refl
merge_all-push a [] (x ∷ more) tallies n t h = absurd (omega (arith, h))
merge_all-push a (m ∷ ns) [] tallies n t h = absurd (omega (arith, h))
merge_all-push a (m ∷ ns) (x ∷ more) tallies n t h = merge_all-push a ns more (slice_set tallies m (merged a (slice_index_or tallies m (counted 0)) x)) n t (omega (arith, h))

module _ {C : Type 0} (show : C → TallyShape) (a : Agg ℕ) (old cells others : List C) (numbers : List ℕ) (i n : ℕ) (cell other : C)
    (below : i < length numbers) (lengths : length numbers ≡ length others) (at : n ≡ get_or numbers i 0) (is : other ≡ get_or others i other)
    (h : map show cells ≡ merge_all a (take i numbers) (map show (take i others)) (map show old)) (inside : n < length cells) (here : cell ≡ get_or cells n cell) where
  abbrev front : List TallyShape
  front = merge_all a (take i numbers) (map show (take i others)) (map show old)

  cell_shown : show cell ≡ slice_index_or front n (counted 0)
  cell_shown = ap show here ∙ sym (get_or-map show cells n cell (counted 0) inside) ∙ ap (λ l. get_or l n (counted 0)) h

  -- The next cell is added to that of its group.
  pub merge_next : (next : List C) (new : C) → show new ≡ merged a (show cell) (show other) → next ≡ slice_set cells n new
      → map show next ≡ merge_all a (take (i + 1) numbers) (map show (take (i + 1) others)) (map show old)
  merge_next next new both writes =
      let more : merge_all a (take (i + 1) numbers) (map show (take (i + 1) others)) (map show old) ≡ slice_set front n (merged a (slice_index_or front n (counted 0)) (show other)) =
      ap (λ l. merge_all a l (map show (take (i + 1) others)) (map show old)) (take_more numbers i 0 below ∙ ap (λ m. take i numbers ++ m ∷ []) (sym at))
      ∙ ap (λ l. merge_all a (take i numbers ++ n ∷ []) (map show l) (map show old)) (take_more others i other (omega (arith, below, lengths)) ∙ ap (λ y. take i others ++ y ∷ []) (sym is))
      ∙ ap (λ l. merge_all a (take i numbers ++ n ∷ []) l (map show old)) (map-append show (take i others) (other ∷ []))
      ∙ merge_all-push a (take i numbers) (map show (take i others)) (map show old) n (show other)
      (omega (arith, length-take i numbers, length-take i others, length-map (take i others) show, lengths)) in
      ap (map show) writes ∙ set_shown show cells n new
      ∙ ap (λ t. slice_set (map show cells) n t) (both ∙ ap (λ x. merged a x (show other)) cell_shown)
      ∙ ap (λ l. slice_set l n (merged a (slice_index_or front n (counted 0)) (show other))) h
      ∙ sym more

  -- None counts more than it does at the end.
  pub merge_few : All (λ m. m < length old) numbers → AreFew (merge_all a numbers (map show others) (map show old)) → (merged a (show cell) (show other)).count ≤ 2 ^ 40
  merge_few all few =
      subst (λ (x : TallyShape). (merged a x (show other)).count ≤ 2 ^ 40) (sym cell_shown)
      (subst (λ l. (merged a (slice_index_or (merge_all a (take i numbers) l (map show old)) n (counted 0)) (show other)).count ≤ 2 ^ 40) (take-map show i others)
      (subst (λ m. (merged a (slice_index_or (merge_all a (take i numbers) (take i (map show others)) (map show old)) m (counted 0)) (show other)).count ≤ 2 ^ 40) (sym at)
      (few_at a i numbers (map show others) (map show old) (show other) below (omega (arith, below, lengths, length-map others show))
      (subst (λ k. All (λ m. m < k) numbers) (sym (length-map old show)) all) few
      (ap show is ∙ sym (get_or-map show others i other (show other) (omega (arith, below, lengths))))))) where
        grows : (a : Agg ℕ) → Type 0
        grows a = (s t : TallyShape) → s.count ≤ (merged a s t).count

        set_up : (tallies : List TallyShape) (n m : ℕ) (x : TallyShape) → (slice_index_or tallies n (counted 0)).count ≤ x.count
            → (slice_index_or tallies m (counted 0)).count ≤ (slice_index_or (slice_set tallies n x) m (counted 0)).count
        set_up [] n m x h = omega arith
        set_up (y ∷ tallies) zero zero x h = h
        set_up (y ∷ tallies) zero (suc m) x h = omega arith
        set_up (y ∷ tallies) (suc n) zero x h = omega arith
        set_up (y ∷ tallies) (suc n) (suc m) x h = set_up tallies n m x h

        kept_few : (a : Agg ℕ) → grows a → (ns : List ℕ) (more tallies : List TallyShape) (m : ℕ) → m < length tallies → AreFew (merge_all a ns more tallies)
            → (slice_index_or tallies m (counted 0)).count ≤ 2 ^ 40
        kept_few a up [] more tallies m below few = All-get_or (λ (t : TallyShape). t.count ≤ 2 ^ 40) tallies m (counted 0) below few
        kept_few a up (n ∷ ns) [] tallies m below few = All-get_or (λ (t : TallyShape). t.count ≤ 2 ^ 40) tallies m (counted 0) below few
        kept_few a up (n ∷ ns) (t ∷ more) tallies m below few =
            let s = slice_index_or tallies n (counted 0) in
            let next = slice_set tallies n (merged a s t) in
            omega (
              arith,
              kept_few a up ns more next m (omega (arith, below, length-set tallies n (merged a s t))) few,
              set_up tallies n m (merged a s t) (up s t),
            )

        first_few : (a : Agg ℕ) → grows a → (n : ℕ) (ns : List ℕ) (t : TallyShape) (more tallies : List TallyShape) → n < length tallies → AreFew (merge_all a (n ∷ ns) (t ∷ more) tallies)
            → (merged a (slice_index_or tallies n (counted 0)) t).count ≤ 2 ^ 40
        first_few a up n ns t more tallies below few =
            let x = merged a (slice_index_or tallies n (counted 0)) t in
            subst (λ (s : TallyShape). s.count ≤ 2 ^ 40) (get_or-set_same tallies n x (counted 0) below)
            (kept_few a up ns more (slice_set tallies n x) n (omega (arith, below, length-set tallies n x)) few)

        here_few : (a : Agg ℕ) (n : ℕ) (ns : List ℕ) (t : TallyShape) (more tallies : List TallyShape) → n < length tallies → AreFew (merge_all a (n ∷ ns) (t ∷ more) tallies)
            → (merged a (slice_index_or tallies n (counted 0)) t).count ≤ 2 ^ 40
        here_few agg.Rows n ns t more tallies below few = first_few agg.Rows (λ s t. omega arith) n ns t more tallies below few
        here_few (agg.Count c) n ns t more tallies below few = first_few (agg.Count c) (λ s t. omega arith) n ns t more tallies below few
        here_few (agg.Sum c) n ns t more tallies below few = first_few (agg.Sum c) (λ s t. omega arith) n ns t more tallies below few
        here_few (agg.Least c) n ns t more tallies below few = omega arith
        here_few (agg.Greatest c) n ns t more tallies below few = omega arith

        few_at : (a : Agg ℕ) (i : ℕ) (ns : List ℕ) (more tallies : List TallyShape) (t : TallyShape) → i < length ns → i < length more → All (λ m. m < length tallies) ns
            → AreFew (merge_all a ns more tallies) → t ≡ get_or more i t → (merged a (slice_index_or (merge_all a (take i ns) (take i more) tallies) (get_or ns i 0) (counted 0)) t).count ≤ 2 ^ 40
        few_at a i [] more tallies t below within all few is = absurd (omega (arith, below))
        few_at a i (n ∷ ns) [] tallies t below within all few is = absurd (omega (arith, within))
        few_at a zero (n ∷ ns) (x ∷ more) tallies t below within all few is =
            subst (λ (y : TallyShape). (merged a (slice_index_or tallies n (counted 0)) y).count ≤ 2 ^ 40) (sym is)
            (here_few a n ns x more tallies (All-head (λ m. m < length tallies) n ns all) few)
        few_at a (suc i) (n ∷ ns) (x ∷ more) tallies t below within all few is =
            let y = merged a (slice_index_or tallies n (counted 0)) x in
            few_at a i ns more (slice_set tallies n y) t (omega (arith, below)) (omega (arith, within))
            (subst (λ k. All (λ m. m < k) ns) (sym (length-set tallies n y)) (All-tail (λ m. m < length tallies) n ns all)) few is

-- ---- another aggregate that is reported alike

pub merge_alike : (a b : Agg ℕ) → ((s t : TallyShape) → merged a s t ≡ merged b s t) → (ns : List ℕ) (more tallies : List TallyShape) → merge_all a ns more tallies ≡ merge_all b ns more tallies
merge_alike a b same [] more tallies = refl
merge_alike a b same (n ∷ ns) [] tallies = refl
merge_alike a b same (n ∷ ns) (t ∷ more) tallies =
    ap (λ x. merge_all a ns more (slice_set tallies n x)) (same (slice_index_or tallies n (counted 0)) t)
    ∙ merge_alike a b same ns more (slice_set tallies n (merged b (slice_index_or tallies n (counted 0)) t))

pub merged_at : (end : End) (c : ℕ) (s t : TallyShape) → merged (agg_at end 0) s t ≡ merged (agg_at end c) s t
merged_at Least c s t = refl
merged_at Greatest c s t = refl

-- ---- the tables of groups

abbrev tally_over : Agg ℕ → Table → TallyShape
tally_over a rows = tally_of a (items_for a rows)

module _ (kinds : ℕ → Kind) (a : Agg ℕ) where
  abbrev Alike : Table → Type 0
  Alike t = All (IsComparable kinds a) (items_for a t)

  both_alike : (t u : Table) → Alike t → Alike u → Alike (t ++ u)
  both_alike t u h g =
      subst (All (IsComparable kinds a)) (sym (map-append (item_for a) t u)) (All-append (IsComparable kinds a) (items_for a t) (items_for a u) h g)

  both_reported : (t u : Table) → Alike t → Alike u → tally_over a (t ++ u) ≡ merged a (tally_over a t) (tally_over a u)
  both_reported t u h g = ap (tally_of a) (map-append (item_for a) t u) ∙ tally-merged kinds a (items_for a t) (items_for a u) h g

  pub tables_reported : (ns : List ℕ) (more tables : List Table) → AreAlike kinds tables a → AreAlike kinds more a → All (λ n. n < length tables) ns
      → merge_all a ns (map (tally_over a) more) (map (tally_over a) tables) ≡ map (tally_over a) (spread_all ns more tables)
  tables_reported [] more tables h g all = refl
  tables_reported (n ∷ ns) [] tables h g all = refl
  tables_reported (n ∷ ns) (u ∷ more) tables h g all =
      let below : n < length tables = All-head (λ m. m < length tables) n ns all in
      let t : Table = slice_index_or tables n [] in
      let alike_t : Alike t = All-get_or Alike tables n [] below h in
      let alike_u : Alike u = All-head Alike u more g in
      let put : slice_set (map (tally_over a) tables) n (merged a (slice_index_or (map (tally_over a) tables) n (counted 0)) (tally_over a u)) ≡ map (tally_over a) (put_all n u tables) =
      ap (λ x. slice_set (map (tally_over a) tables) n (merged a x (tally_over a u))) (get_or-map (tally_over a) tables n [] (counted 0) below)
      ∙ ap (slice_set (map (tally_over a) tables) n) (sym (both_reported t u alike_t alike_u))
      ∙ sym (set_shown (tally_over a) tables n (t ++ u)) in
      ap (λ l. merge_all a ns (map (tally_over a) more) l) put
      ∙ tables_reported ns more (put_all n u tables) (All-set Alike tables n (t ++ u) (both_alike t u alike_t alike_u) h) (All-tail Alike u more g)
      (subst (λ k. All (λ m. m < k) ns) (sym (length-set tables n (t ++ u))) (All-tail (λ m. m < length tables) n ns all))

  pub tables_few : (tables : List Table) → All (λ t. length t ≤ 2 ^ 40) tables → AreFew (map (tally_over a) tables)
  tables_few tables h =
      All-map (λ (t : TallyShape). t.count ≤ 2 ^ 40) (tally_over a) tables
      (All-weaker (λ (t : Table). length t ≤ 2 ^ 40) (λ (t : Table). (tally_over a t).count ≤ 2 ^ 40) (λ t few. omega (arith, few, counts_few (items_for a t) a, length-map t (item_for a))) tables h)

-- ---- columns

module _ {C : Type 0} (show : C → TallyShape) (b a : Agg ℕ) (same : (s t : TallyShape) → merged b s t ≡ merged a s t) (s : ColumnShape) (old : List C) (is : s ≡ shape a (map show old))
    (lent : List C) (numbers : List ℕ) (more : List TallyShape) (lends : lent ≡ old) where
  whole_merged : merge_all b numbers more (map show lent) ≡ (column_merged numbers more s).tallies
  whole_merged =
      ap (λ l. merge_all b numbers more (map show l)) lends ∙ merge_alike b a same numbers more (map show old)
      ∙ sym (ap (λ (t : ColumnShape). (column_merged numbers more t).tallies) is)

  pub cells_few : AreFew (column_merged numbers more s).tallies → AreFew (merge_all b numbers more (map show lent))
  cells_few few = subst AreFew (sym whole_merged) few

  pub cells_merged : (n : ℕ) (new : List C) → n ≡ length old → length new ≡ length lent → map show new ≡ merge_all b numbers more (map show lent)
      → shape a (map show (take n (new ++ drop (length new) old))) ≡ column_merged numbers more s
  cells_merged n new len count merges =
      ap (λ l. shape a (map show l)) (refilled n old new len (count ∙ ap length lends))
      ∙ ap (shape a) (merges ∙ whole_merged)
      ∙ ap (λ x. shape x (column_merged numbers more s).tallies) (sym (ap (λ (t : ColumnShape). t.agg) is))

-- The same, where a growth may be refused.
pub items_merged : {T E : Type 0} (r : Result T E) (end : End) (place : ℕ) (s : ColumnShape) (old : List (Option Scalar)) → s ≡ shape (agg_at end place) (map show_item old)
    → (lent new : List (Option Scalar)) (numbers : List ℕ) (more : List TallyShape) (n : ℕ) → lent ≡ old → n ≡ length old → length new ≡ length lent
    → OnOk r (map show_item new ≡ merge_all (agg_at end 0) numbers more (map show_item lent))
    → OnOk r (shape (agg_at end place) (map show_item (take n (new ++ drop (length new) old))) ≡ column_merged numbers more s)
items_merged (Ok x) end place s old is lent new numbers more n lends len count merges =
    cells_merged show_item (agg_at end 0) (agg_at end place) (merged_at end place) s old is lent numbers more lends n new len count merges
items_merged (Err e) end place s old is lent new numbers more n lends len count merges = tt

-- The columns of groups, with those of the rows behind.
module _ (kinds : ℕ → Kind) (groups : ℕ) (tables more : List Table) (s t : ColumnShape) (numbers : List ℕ) (own : s ≡ column_of tables s.agg) (behind : t ≡ column_of more t.agg) (same : t.agg ≡ s.agg)
    (alike : AreAlike kinds tables s.agg) (more_alike : AreAlike kinds more s.agg) (inside : All (λ n. n < groups) numbers) (few : length tables ≤ groups)
    (u : ColumnShape) (grows : u ≡ column_of (padded groups [] tables) s.agg) where
  padded_alike : AreAlike kinds (padded groups [] tables) s.agg
  padded_alike =
      let P : Table → Type 0 = λ t. All (IsComparable kinds s.agg) (items_for s.agg t) in
      All-append P tables (replicate (groups - length tables) []) alike (All-replicate P (groups - length tables) [] (All-nil (IsComparable kinds s.agg)))

  padded_inside : All (λ n. n < length (padded groups [] tables)) numbers
  padded_inside =
      let count : groups ≡ length (padded groups [] tables) = omega (arith, few, length-append tables (replicate (groups - length tables) []), length-replicate {A = Table} (groups - length tables) []) in
      subst (λ m. All (λ n. n < m) numbers) count inside

  reported_together : (column_merged numbers t.tallies u).tallies ≡ map (tally_over s.agg) (spread_all numbers more (padded groups [] tables))
  reported_together =
      ap (λ (x : ColumnShape). (column_merged numbers t.tallies x).tallies) grows
      ∙ ap (λ (x : ColumnShape). merge_all s.agg numbers x.tallies (map (tally_over s.agg) (padded groups [] tables))) behind
      ∙ ap (λ a. merge_all s.agg numbers (map (tally_over a) more) (map (tally_over s.agg) (padded groups [] tables))) same
      ∙ tables_reported kinds s.agg numbers more (padded groups [] tables) padded_alike more_alike padded_inside

  pub join_few : All (λ t. length t ≤ 2 ^ 40) (spread_all numbers more (padded groups [] tables)) → AreFew (column_merged numbers t.tallies u).tallies
  join_few short = subst AreFew (sym reported_together) (tables_few kinds s.agg (spread_all numbers more (padded groups [] tables)) short)

  pub joined : (v : ColumnShape) → v ≡ column_merged numbers t.tallies u → v ≡ column_of (spread_all numbers more (padded groups [] tables)) s.agg
  joined v is = is ∙ ap (shape u.agg) reported_together ∙ ap (λ a. shape a (map (tally_over s.agg) (spread_all numbers more (padded groups [] tables)))) (ap (λ (x : ColumnShape). x.agg) grows)

pub tables_counted : (s : ColumnShape) (tables : List Table) → s ≡ column_of tables s.agg → length s.tallies ≡ length tables
tables_counted s tables h = ap (λ (x : ColumnShape). length x.tallies) h ∙ length-map tables (tally_over s.agg)
