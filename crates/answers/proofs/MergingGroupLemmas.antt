-- The groups of what shards answered are the groups of the rows of all shards.
use Rattle.std.proofs.Common.{◌≡◌, ◌∙◌, ℕ, ◌+◌, Bool, true, false, ◌||◌, List, [], ◌∷◌, ◌++◌, length, map, refl, sym, ap, subst, arith, append_assoc, length-append, true≢false}
use Rattle.std.specs.Prelude.{All, flat_map, slice_index_or}
use Rattle.std.proofs.Math.Bool.{or-true}
use Rattle.std.proofs.lemmas.List.{append-nil, get_or_at, length-map, length_push, map-append}
use Rattle.std.proofs.lemmas.List.Elements.{All-cons, All-filter, All-head, All-nil, All-tail, All-weaker, filter-append}
use Rattle.arrays.specs.Prelude.{Item, Kind, Table, null}
use Rattle.query.specs.declared.expr.Agg.{Agg}
use Rattle.answers.specs.Prelude.{AreMergeable, GroupShape, IsMergeable, all_again, cell, group_of, grouped, keys_of, rows_of_key, rows_of_shards}
use Rattle.keys.specs.Prelude.{key_of, same_key}
use Rattle.keys.proofs.KeyLemmas.{Keys, is_among}
use Rattle.keys.proofs.SameLemmas.{either, same_key_equiv}
use Rattle.answers.proofs.GroupLemmas.{none_yet}
use Rattle.answers.proofs.MergingCellLemmas.{Agrees, agrees-append, agrees_one, same_cell}
use Rattle.answers.proofs.MergingKeyLemmas.{IsWide, all_keys, among_any, any_key, keys_wide, part, part_of_key, places, row_at}

all_front : {X : Type 0} (P : X → Type 0) (xs ys : List X) → All P (xs ++ ys) → All P xs
all_front P [] ys h = All-nil P
all_front P (x ∷ xs) ys h = All-cons P x xs (All-head P x (xs ++ ys) h) (all_front P xs ys (All-tail P x (xs ++ ys) h))

all_behind : {X : Type 0} (P : X → Type 0) (xs ys : List X) → All P (xs ++ ys) → All P ys
all_behind P [] ys h = h
all_behind P (x ∷ xs) ys h = all_behind P xs ys (All-tail P x (xs ++ ys) h)

neither : (a b : Bool) → (a || b) ≡ false → (a ≡ false) × (b ≡ false)
neither false b h = (refl, h)
neither true b h = absurd (true≢false h)

-- ---- one aggregate of one key

module _ (by : List ℕ) (aggs : List (Agg ℕ)) (kinds : ℕ → Kind) (c : ℕ) (a : Agg ℕ) (k : List Item)
    (place : (rows : Table) → slice_index_or (row_at by aggs rows k) c null ≡ cell (rows_of_key by rows k) a) where
  -- The rows of the key among the answers' rows, and among the shards'.
  abbrev cells_in : Table → Table
  cells_in cells = rows_of_key (places by aggs) cells k

  abbrev rows_in : Table → Table
  rows_in rows = rows_of_key by rows k

  -- A shard without the key adds no row.
  none_in : (rows : Table) → is_among (keys_of by rows) k ≡ false → (cells_in (part by aggs rows) ≡ []) × (rows_in rows ≡ [])
  none_in rows absent = (part_of_key by aggs rows k false absent, none_yet by rows k absent)

  none_at_all : (shards : List Table) → any_key by shards k ≡ false → (cells_in (flat_map (part by aggs) shards) ≡ []) × (rows_in (rows_of_shards shards) ≡ [])
  none_at_all [] absent = (refl, refl)
  none_at_all (rows ∷ shards) absent =
      let both = neither (is_among (keys_of by rows) k) (any_key by shards k) absent in
      let here = none_in rows both.0 in
      let rest = none_at_all shards both.1 in (
        filter-append (λ row. same_key k (key_of (places by aggs) row)) (part by aggs rows) (flat_map (part by aggs) shards) ∙ (λ j. here.0 j ++ rest.0 j),
        filter-append (λ row. same_key k (key_of by row)) rows (rows_of_shards shards) ∙ (λ j. here.1 j ++ rest.1 j),
      )

  abbrev Agree : Table → Table → Type 0
  Agree cells rows = Agrees kinds c a cells rows

  one_agrees : (rows : Table) → All (λ r. IsMergeable kinds r a) rows → is_among (keys_of by rows) k ≡ true → Agree (cells_in (part by aggs rows)) (rows_in rows)
  one_agrees rows h there =
      subst (λ (t : Table). Agree t (rows_in rows)) (sym (part_of_key by aggs rows k true there))
      (agrees_one kinds c a (row_at by aggs rows k) (rows_in rows) (All-filter (λ row. same_key k (key_of by row)) (λ r. IsMergeable kinds r a) rows h) (place rows))

  moved : (cells others rows more : Table) → cells ≡ others → rows ≡ more → Agree cells rows → Agree others more
  moved cells others rows more e f h = subst (λ (t : Table). Agree t more) e (subst (λ (t : Table). Agree cells t) f h)

  pub all_agree : (shards : List Table) → All (λ r. IsMergeable kinds r a) (rows_of_shards shards) → any_key by shards k ≡ true
      → Agree (cells_in (flat_map (part by aggs) shards)) (rows_in (rows_of_shards shards))
  all_agree [] h there = absurd (true≢false (sym there))
  all_agree (rows ∷ shards) h there =
      let cells = cells_in (part by aggs rows) in
      let other_cells = cells_in (flat_map (part by aggs) shards) in
      let items = rows_in rows in
      let other_items = rows_in (rows_of_shards shards) in
      let mine = all_front (λ r. IsMergeable kinds r a) rows (rows_of_shards shards) h in
      let theirs = all_behind (λ r. IsMergeable kinds r a) rows (rows_of_shards shards) h in
      let all_cells : cells ++ other_cells ≡ cells_in (flat_map (part by aggs) (rows ∷ shards)) =
      sym (filter-append (λ row. same_key k (key_of (places by aggs) row)) (part by aggs rows) (flat_map (part by aggs) shards)) in
      let all_items : items ++ other_items ≡ rows_in (rows_of_shards (rows ∷ shards)) = sym (filter-append (λ row. same_key k (key_of by row)) rows (rows_of_shards shards)) in
      either (is_among (keys_of by rows) k)
      (λ here.
      either (any_key by shards k)
      (λ behind.
      moved (cells ++ other_cells) _ (items ++ other_items) _ all_cells all_items
      (agrees-append kinds c a cells items other_cells other_items (one_agrees rows mine here) (all_agree shards theirs behind)))
      (λ none.
      let out = none_at_all shards none in
      moved cells _ items _ (sym (ap (λ (t : Table). cells ++ t) out.0 ∙ append-nil cells) ∙ all_cells)
      (sym (ap (λ (t : Table). items ++ t) out.1 ∙ append-nil items) ∙ all_items) (one_agrees rows mine here)))
      (λ absent.
      let out = none_in rows absent in
      let behind : any_key by shards k ≡ true = sym (ap (λ b. b || any_key by shards k) absent) ∙ there in
      moved other_cells _ other_items _ (sym (ap (λ (t : Table). t ++ other_cells) out.0) ∙ all_cells)
      (sym (ap (λ (t : Table). t ++ other_items) out.1) ∙ all_items) (all_agree shards theirs behind))

-- ---- all aggregates of all keys

mapped_among : (P : List Item → Type 0) (f g : List Item → GroupShape) (ks : Keys) → All P ks → ((k : List Item) → P k → is_among ks k ≡ true → f k ≡ g k) → map f ks ≡ map g ks
mapped_among P f g [] h same = refl
mapped_among P f g (k ∷ ks) h same =
    ap (λ x. x ∷ map f ks) (same k (All-head P k ks h) (ap (λ b. b || is_among ks k) (same_key_equiv.refl k)))
    ∙ ap (λ l. g k ∷ l) (mapped_among P f g ks (All-tail P k ks h) (λ x p there. same x p (ap (λ b. same_key x k || b) there ∙ or-true (same_key x k))))

abbrev make : List Item → List Item → GroupShape
make k cells = record { keys = k; cells = cells }

module _ (by : List ℕ) (aggs : List (Agg ℕ)) (kinds : ℕ → Kind) (rows : Table) (shards : List Table) (h : All (AreMergeable kinds aggs) (rows_of_shards (rows ∷ shards))) where
  abbrev all : Table
  all = rows_of_shards (rows ∷ shards)

  abbrev answered : Table
  answered = flat_map (part by aggs) (rows ∷ shards)

  mergeable : (a : Agg ℕ) (front rest : List (Agg ℕ)) → aggs ≡ front ++ a ∷ rest → All (λ r. IsMergeable kinds r a) all
  mergeable a front rest is =
      All-weaker (AreMergeable kinds aggs) (λ r. IsMergeable kinds r a)
      (λ r each. All-head (IsMergeable kinds r) a rest (all_behind (IsMergeable kinds r) front (a ∷ rest) (subst (All (IsMergeable kinds r)) is each))) all h

  -- The cell of an aggregate stands where it is looked for.
  cell_there : (k : List Item) (c : ℕ) (a : Agg ℕ) (front rest : List (Agg ℕ)) → aggs ≡ front ++ a ∷ rest → c ≡ length k + length front
      → (t : Table) → slice_index_or (row_at by aggs t k) c null ≡ cell (rows_of_key by t k) a
  cell_there k c a front rest is at t =
      let f : Agg ℕ → Item = cell (rows_of_key by t k) in
      ap (λ l. slice_index_or (k ++ map f l) c null) is
      ∙ ap (λ l. slice_index_or l c null) (ap (λ l. k ++ l) (map-append f front (a ∷ rest)) ∙ sym (append_assoc k (map f front) (f a ∷ map f rest)))
      ∙ get_or_at (k ++ map f front) (f a) (map f rest) null c (omega (arith, at, length-append k (map f front), length-map front f))

  cells_again : (k : List Item) → IsWide by k → is_among (keys_of by all) k ≡ true → (c : ℕ) (front rest : List (Agg ℕ)) → aggs ≡ front ++ rest → c ≡ length k + length front
      → map (cell (rows_of_key (places by aggs) answered k)) (all_again c rest) ≡ map (cell (rows_of_key by all k)) rest
  cells_again k wide there c front [] is at = refl
  cells_again k wide there c front (a ∷ rest) is at =
      let cells : Agg ℕ → Item = cell (rows_of_key (places by aggs) answered k) in
      let agree = all_agree by aggs kinds c a k (cell_there k c a front rest is at) (rows ∷ shards) (mergeable a front rest is) (sym (among_any by rows shards k) ∙ there) in
      ap (λ x. x ∷ map cells (all_again (c + 1) rest)) (same_cell kinds c a (rows_of_key (places by aggs) answered k) (rows_of_key by all k) agree)
      ∙ ap (λ l. cell (rows_of_key by all k) a ∷ l)
      (cells_again k wide there (c + 1) (front ++ a ∷ []) rest (is ∙ sym (append_assoc front (a ∷ []) rest)) (omega (arith, at, length_push front a)))

  group_again : (k : List Item) → IsWide by k → is_among (keys_of by all) k ≡ true → group_of (places by aggs) (all_again (length by) aggs) answered k ≡ group_of by aggs all k
  group_again k wide there = ap (make k) (cells_again k wide there (length by) [] aggs refl (omega (arith, wide)))

  pub grouped_again : grouped (places by aggs) (all_again (length by) aggs) answered ≡ grouped by aggs all
  grouped_again =
      ap (map (group_of (places by aggs) (all_again (length by) aggs) answered)) (all_keys by aggs (rows ∷ shards))
      ∙ mapped_among (IsWide by) (group_of (places by aggs) (all_again (length by) aggs) answered) (group_of by aggs all) (keys_of by all) (keys_wide by all) group_again
