-- The groups of rows as rows, by their keys.
use Rattle.std.proofs.Common.{◌≡◌, ◌∙◌, ℕ, Bool, true, false, ◌||◌, cond, List, [], ◌∷◌, ◌++◌, length, map, refl, sym, ap, subst, arith}
use Rattle.std.specs.Prelude.{All, flat_map, slice_index_or}
use Rattle.std.specs.List.{IsDistinct, list_any, range_with_len}
use Rattle.std.proofs.Math.Bool.{or-false}
use Rattle.std.proofs.lemmas.List.{append-nil, get_or_append_left, length-map, map-append}
use Rattle.std.proofs.lemmas.List.FromFn.{fill_by_all}
use Rattle.std.proofs.lemmas.List.Elements.{All-append, All-cons, All-filter, All-head, All-map, All-nil, All-tail}
use Rattle.std.proofs.lemmas.List.Folds.{list_any-append}
use Rattle.std.proofs.lemmas.Map.Keys.{IsDistinct-from_apart, IsDistinct-head, IsDistinct-tail}
use Rattle.arrays.specs.Prelude.{Item, Row, Table, null}
use Rattle.query.specs.declared.expr.Agg.{Agg}
use Rattle.answers.specs.Prelude.{first_keys, group_of, grouped, keys_of, row_of_group, rows_of_key, rows_of_shards}
use Rattle.keys.specs.Prelude.{firsts, key_of, same_key, with_keys}
use Rattle.keys.proofs.KeyLemmas.{Keys, distinct-more, is_among}
use Rattle.answers.proofs.FirstsLemmas.{among-firsts}
use Rattle.keys.proofs.SameLemmas.{either, same_key-Decides}
use Rattle.answers.proofs.MergeLemmas.{keys-merged, not_among}
use Rattle.answers.proofs.GroupLemmas.{keys-more}

-- ---- keys are as wide as there are columns

abbrev pub IsWide : List ℕ → List Item → Type 0
IsWide by k = length k ≡ length by

all_firsts : (P : List Item → Type 0) (ks : Keys) → All P ks → All P (firsts same_key ks)
all_firsts P [] h = All-nil P
all_firsts P (k ∷ ks) h = All-cons P k _ (All-head P k ks h) (All-filter _ P (firsts same_key ks) (all_firsts P ks (All-tail P k ks h)))

first_wide : (by : List ℕ) → All (IsWide by) (first_keys by)
first_wide [] = All-cons (IsWide []) [] [] refl (All-nil (IsWide []))
first_wide (c ∷ by) = All-nil (IsWide (c ∷ by))

pub keys_wide : (by : List ℕ) (rows : Table) → All (IsWide by) (keys_of by rows)
keys_wide by rows =
    all_firsts (IsWide by) (first_keys by ++ map (key_of by) rows)
    (All-append (IsWide by) (first_keys by) (map (key_of by) rows) (first_wide by)
    (All-map (IsWide by) (key_of by) rows (λ i d below. length-map by (λ c. slice_index_or (slice_index_or rows i d) c null))))

distinct_none : (by : List ℕ) → IsDistinct same_key (keys_of by [])
distinct_none [] = IsDistinct-from_apart same_key ([] ∷ []) (λ i j d ij below. absurd (omega arith))
distinct_none (c ∷ by) = IsDistinct-from_apart same_key [] (λ i j d ij below. absurd (omega arith))

keys_distinct : (by : List ℕ) (rows : Table) → IsDistinct same_key (keys_of by rows)
keys_distinct by rows = subst (IsDistinct same_key) (sym (keys-more by [] rows)) (distinct-more (keys_of by []) (map (key_of by) rows) (distinct_none by))

module _ (by : List ℕ) (aggs : List (Agg ℕ)) where
  -- ---- the rows of one shard

  abbrev pub places : List ℕ
  places = range_with_len 0 (length by)

  abbrev pub row_at : Table → List Item → Row
  row_at rows k = row_of_group (group_of by aggs rows k)

  abbrev pub part : Table → Table
  part rows = map row_of_group (grouped by aggs rows)

  key_back : (k cells : List Item) → IsWide by k → key_of places (k ++ cells) ≡ k
  key_back k cells wide =
      sym (fill_by_all (λ c. slice_index_or (k ++ cells) c null) k (length by) null wide
      (λ i below. sym (get_or_append_left k cells null i (omega (arith, below, wide)))))

  keys_back : (rows : Table) (ks : Keys) → All (IsWide by) ks → map (key_of places) (map row_of_group (map (group_of by aggs rows) ks)) ≡ ks
  keys_back rows [] h = refl
  keys_back rows (k ∷ ks) h =
      ap (λ x. x ∷ map (key_of places) (map row_of_group (map (group_of by aggs rows) ks))) (key_back k (group_of by aggs rows k).cells (All-head (IsWide by) k ks h))
      ∙ ap (λ l. k ∷ l) (keys_back rows ks (All-tail (IsWide by) k ks h))

  first_alike : (by : List ℕ) → keys_of (range_with_len 0 (length by)) [] ≡ keys_of by []
  first_alike [] = refl
  first_alike (c ∷ by) = refl

  -- They have the keys of the shard's rows.
  part_keys : (rows : Table) → keys_of places (part rows) ≡ keys_of by rows
  part_keys rows =
      keys-more places [] (part rows) ∙ (λ j. with_keys (first_alike by j) (keys_back rows (keys_of by rows) (keys_wide by rows) j)) ∙ sym (keys-merged by [] rows)

  pub all_keys : (shards : List Table) → keys_of places (flat_map part shards) ≡ keys_of by (rows_of_shards shards)
  all_keys [] = first_alike by
  all_keys (rows ∷ shards) =
      keys-merged places (part rows) (flat_map part shards) ∙ (λ j. with_keys (part_keys rows j) (all_keys shards j)) ∙ sym (keys-merged by rows (rows_of_shards shards))

  of_keys : (rows : Table) (k : List Item) (ks : Keys) → All (IsWide by) ks → IsDistinct same_key ks
      → rows_of_key places (map row_of_group (map (group_of by aggs rows) ks)) k ≡ cond (is_among ks k) (row_at rows k ∷ []) []
  of_keys rows k [] h apart = refl
  of_keys rows k (x ∷ ks) h apart =
      let rest = rows_of_key places (map row_of_group (map (group_of by aggs rows) ks)) k in
      let again : rest ≡ cond (is_among ks k) (row_at rows k ∷ []) [] = of_keys rows k ks (All-tail (IsWide by) x ks h) (IsDistinct-tail same_key x ks apart) in
      ap (λ y. cond (same_key k y) (row_at rows x ∷ rest) rest) (key_back x (group_of by aggs rows x).cells (All-head (IsWide by) x ks h))
      ∙ either (same_key k x)
      (λ is.
      let same : x ≡ k = sym ((same_key-Decides k x).0 is) in
      let out : is_among ks k ≡ false = ap (is_among ks) (sym same) ∙ not_among x ks (IsDistinct-head same_key x ks apart) in
      ap (λ b. cond b (row_at rows x ∷ rest) rest) is
      ∙ (λ j. row_at rows (same j) ∷ again j)
      ∙ ap (λ b. row_at rows k ∷ cond b (row_at rows k ∷ []) []) out
      ∙ sym (ap (λ b. cond (b || is_among ks k) (row_at rows k ∷ []) []) is))
      (λ other. ap (λ b. cond b (row_at rows x ∷ rest) rest) other ∙ again ∙ sym (ap (λ b. cond (b || is_among ks k) (row_at rows k ∷ []) []) other))

  -- One row where the shard has the key, and else none.
  pub part_of_key : (rows : Table) (k : List Item) (b : Bool) → is_among (keys_of by rows) k ≡ b → rows_of_key places (part rows) k ≡ cond b (row_at rows k ∷ []) []
  part_of_key rows k b is =
      of_keys rows k (keys_of by rows) (keys_wide by rows) (keys_distinct by rows) ∙ ap (λ b. cond b (row_at rows k ∷ []) []) is

-- ---- which shards have a key

abbrev pub any_key : List ℕ → List Table → List Item → Bool
any_key by shards k = list_any (λ rows. is_among (keys_of by rows) k) shards

among_keys : (by : List ℕ) (rows : Table) (k : List Item) → is_among (keys_of by rows) k ≡ (is_among (first_keys by) k || is_among (map (key_of by) rows) k)
among_keys by rows k = among-firsts same_key same_key-Decides (first_keys by ++ map (key_of by) rows) k ∙ list_any-append (same_key k) (first_keys by) (map (key_of by) rows)

two_of_three : (f a b : Bool) → (f || (a || b)) ≡ ((f || a) || (f || b))
two_of_three true a b = refl
two_of_three false a b = refl

among_both : (by : List ℕ) (rows others : Table) (k : List Item) → is_among (keys_of by (rows ++ others)) k ≡ (is_among (keys_of by rows) k || is_among (keys_of by others) k)
among_both by rows others k =
    let f : Bool = is_among (first_keys by) k in
    among_keys by (rows ++ others) k
    ∙ ap (λ b. f || b) (ap (λ (l : Keys). is_among l k) (map-append (key_of by) rows others) ∙ list_any-append (same_key k) (map (key_of by) rows) (map (key_of by) others))
    ∙ two_of_three f (is_among (map (key_of by) rows) k) (is_among (map (key_of by) others) k)
    ∙ sym (λ j. among_keys by rows k j || among_keys by others k j)

-- A key of all rows is one of a shard's, where there is a shard.
pub among_any : (by : List ℕ) (rows : Table) (shards : List Table) (k : List Item) → is_among (keys_of by (rows_of_shards (rows ∷ shards))) k ≡ any_key by (rows ∷ shards) k
among_any by rows [] k = ap (λ (t : Table). is_among (keys_of by t) k) (append-nil rows) ∙ sym (or-false (is_among (keys_of by rows) k))
among_any by rows (more ∷ shards) k =
    among_both by rows (rows_of_shards (more ∷ shards)) k ∙ ap (λ b. is_among (keys_of by rows) k || b) (among_any by more shards k)
