-- The groups of rows, with rows more.
use Rattle.std.proofs.Common.{◌≡◌, ◌∙◌, ℕ, zero, suc, pos, ◌+◌, ◌≤◌, Bool, true, false, cond, List, [], ◌∷◌, ◌++◌, length, Some, refl, sym, ap, arith, length-append, ◌-◌, ◌<◌, ◌||◌, map, take, get_or, replicate, subst, append_assoc, true≢false}
use Rattle.std.proofs.lemmas.List.{append-nil, map-append, length-map, get_or-map, take_more, take_all}
use Rattle.std.proofs.lemmas.List.Sums.{length-filter, count_by-le-length}
use Rattle.std.proofs.lemmas.List.Elements.{filter-append, All-nil, All-cons, All-head, All-tail}
use Rattle.arrays.specs.Prelude.{Item, Row, Table, int}
use Rattle.query.specs.declared.expr.Agg.{Agg}
use Rattle.query.specs.declared.expr.Agg.TheVariants as agg
use Rattle.answers.specs.Prelude.{GroupShape, IsGrouped, cell, first_keys, group_of, grouped, key_tables, keys_of, rows_of_key}
use Rattle.tallies.specs.Prelude.{ColumnShape, IsColumnOf, cell_of, cell_of_group, column_of, counted, items_for, padded, put, show_column, spread, tally_of}
use Rattle.keys.proofs.SameLemmas.{either, same_key-Decides, same_key_equiv}
use Rattle.std.specs.Prelude.{All, slice_get, slice_index_or, slice_set}
use Rattle.std.specs.Bool.{Decides}
use Rattle.std.specs.Cmp.{decided}
use Rattle.std.specs.List.{IsDistinct, AllByRecursion}
use Rattle.std.proofs.lemmas.List.Folds.{list_any-append}
use Rattle.std.proofs.lemmas.Map.Keys.{IsDistinct-head, IsDistinct-tail, IsDistinct-from_apart}
use Rattle.std.proofs.lemmas.Option.{slice_get_within, get_or_from_slice_get}
use Rattle.indexmap.specs.IndexSet.{insert_key}
use Rattle.keys.specs.Prelude.{AreIds, firsts, key_of, same_key, with_keys}
use Rattle.tallies.specs.declared.column.TallyColumn.{TallyColumn}
use Rattle.answers.proofs.FirstsLemmas.{among-firsts, firsts-push}
use Rattle.keys.proofs.KeyLemmas.{Keys, is_among, distinct-more, grown}

-- ---- one place of a list that is shown of keys

at_all : {K : Type 0} (P : K → Type 0) (ks : List K) (n : ℕ) (k : K) → AllByRecursion P ks → slice_get ks n ≡ Some k → P k
at_all P [] n k h at = absurd cc
at_all P (x ∷ ks) zero k h at =
    let is : x ≡ k = cc in
    subst P is h.0
at_all P (x ∷ ks) (suc n) k h at = at_all P ks n k h.1 at

module _ {K S : Type 0} (same : K → K → Bool) (decides : (x y : K) → Decides (same x y) (x ≡ y)) (f g : K → S) (v : S) (key : K)
    (others : (k : K) → same k key ≡ false → g k ≡ f k) (here : g key ≡ v) where
  all_others : (ks : List K) → AllByRecursion (λ y. same key y ≡ false) ks → map f ks ≡ map g ks
  all_others [] h = refl
  all_others (k ∷ ks) h =
      let a = others k ((decided same decides).symm k key ∙ h.0) in
      let b : map f ks ≡ map g ks = all_others ks h.1 in
      cc (a, b)

  pub set_mapped : (ks : List K) (n : ℕ) → IsDistinct same ks → slice_get ks n ≡ Some key → slice_set (map f ks) n v ≡ map g ks
  set_mapped [] n h at = absurd cc
  set_mapped (k ∷ ks) zero h at =
      let is : k ≡ key = cc in
      let b : map f ks ≡ map g ks = all_others ks (subst (λ x. AllByRecursion (λ y. same x y ≡ false) ks) is (IsDistinct-head same k ks h)) in
      let a : v ≡ g k = sym here ∙ ap g (sym is) in
      cc (a, b)
  set_mapped (k ∷ ks) (suc n) h at =
      let a = others k (at_all (λ y. same k y ≡ false) ks n key (IsDistinct-head same k ks h) at) in
      let b : slice_set (map f ks) n v ≡ map g ks = set_mapped ks n (IsDistinct-tail same k ks h) at in
      cc (a, b)

-- ---- keys

either_false : (a b : Bool) → (a || b) ≡ false → b ≡ false
either_false false b h = h
either_false true b h = absurd (true≢false h)

keys-push : (by : List ℕ) (rows : Table) (row : Row) → keys_of by (rows ++ row ∷ []) ≡ insert_key same_key (keys_of by rows) (key_of by row)
keys-push by rows row =
    ap (λ l. firsts same_key (first_keys by ++ l)) (map-append (key_of by) rows (row ∷ []))
    ∙ ap (firsts same_key) (sym (append_assoc (first_keys by) (map (key_of by) rows) (key_of by row ∷ [])))
    ∙ firsts-push same_key same_key-Decides (first_keys by ++ map (key_of by) rows) (key_of by row)

pub keys-more : (by : List ℕ) (rows more : Table) → keys_of by (rows ++ more) ≡ with_keys (keys_of by rows) (map (key_of by) more)
keys-more by rows [] = ap (keys_of by) (append-nil rows)
keys-more by rows (row ∷ more) =
    ap (keys_of by) (sym (append_assoc rows (row ∷ []) more)) ∙ keys-more by (rows ++ row ∷ []) more
    ∙ ap (λ l. with_keys l (map (key_of by) more)) (keys-push by rows row)

-- ---- rows of a key

rows-push : (by : List ℕ) (rows : Table) (row : Row) (key : List Item) (b : Bool) → same_key key (key_of by row) ≡ b
    → rows_of_key by (rows ++ row ∷ []) key ≡ rows_of_key by rows key ++ cond b (row ∷ []) []
rows-push by rows row key b is =
    filter-append (λ (r : Row). same_key key (key_of by r)) rows (row ∷ []) ∙ ap (λ b. rows_of_key by rows key ++ cond b (row ∷ []) []) is

no_rows : (by : List ℕ) (rows : Table) (key : List Item) → is_among (map (key_of by) rows) key ≡ false → rows_of_key by rows key ≡ []
no_rows by [] key h = refl
no_rows by (r ∷ rows) key h =
    either (same_key key (key_of by r))
    (λ yes. absurd (true≢false (sym (ap (λ b. b || is_among (map (key_of by) rows) key) yes) ∙ h)))
    (λ no. ap (λ b. cond b (r ∷ rows_of_key by rows key) (rows_of_key by rows key)) no
    ∙ no_rows by rows key (either_false (same_key key (key_of by r)) (is_among (map (key_of by) rows) key) h))

pub none_yet : (by : List ℕ) (rows : Table) (key : List Item) → is_among (keys_of by rows) key ≡ false → rows_of_key by rows key ≡ []
none_yet by rows key new =
    no_rows by rows key (either_false (is_among (first_keys by) key) (is_among (map (key_of by) rows) key)
    (sym (list_any-append (same_key key) (first_keys by) (map (key_of by) rows))
    ∙ sym (among-firsts same_key same_key-Decides (first_keys by ++ map (key_of by) rows) key) ∙ new))

empty_tables : (by : List ℕ) (rows : Table) (extra : Keys) → All (λ k. is_among (keys_of by rows) k ≡ false) extra → key_tables by rows extra ≡ replicate (length extra) []
empty_tables by rows [] h = refl
empty_tables by rows (k ∷ extra) h =
    let a = none_yet by rows k (All-head (λ k. is_among (keys_of by rows) k ≡ false) k extra h) in
    let b : key_tables by rows extra ≡ replicate (length extra) [] = empty_tables by rows extra (All-tail (λ k. is_among (keys_of by rows) k ≡ false) k extra h) in
    ap (λ (t : Table). t ∷ key_tables by rows extra) a ∙ ap (λ (l : List Table). [] ∷ l) b

pub tables-padded : (by : List ℕ) (rows : Table) (keys more : Keys) → keys ≡ keys_of by rows
    → padded (length (with_keys keys more)) [] (key_tables by rows keys) ≡ key_tables by rows (with_keys keys more)
tables-padded by rows keys more are =
    let g = grown keys more in
    let fresh = subst (λ (l : Keys). All (λ k. is_among l k ≡ false) g.extra) are g.fresh in
    let few : length (with_keys keys more) - length (key_tables by rows keys) ≡ length g.extra =
    omega (arith, ap length g.is, length-append keys g.extra, length-map keys (rows_of_key by rows)) in
    ap (λ n. key_tables by rows keys ++ replicate n []) few
    ∙ ap (λ (l : List Table). key_tables by rows keys ++ l) (sym (empty_tables by rows g.extra fresh))
    ∙ sym (map-append (rows_of_key by rows) keys g.extra)
    ∙ ap (key_tables by rows) (sym g.is)

-- ---- numbers of keys

put_row : (by : List ℕ) (rows : Table) (row : Row) (keys : Keys) (n : ℕ) → IsDistinct same_key keys → slice_get keys n ≡ Some (key_of by row)
    → put n row (key_tables by rows keys) ≡ key_tables by (rows ++ row ∷ []) keys
put_row by rows row keys n apart at =
    let key = key_of by row in
    let here : slice_index_or (key_tables by rows keys) n [] ≡ rows_of_key by rows key =
    get_or-map (rows_of_key by rows) keys n key [] (slice_get_within keys n key at) ∙ ap (rows_of_key by rows) (get_or_from_slice_get keys n key key at) in
    set_mapped same_key same_key-Decides (rows_of_key by rows) (rows_of_key by (rows ++ row ∷ [])) (slice_index_or (key_tables by rows keys) n [] ++ row ∷ []) key
    (λ k is. rows-push by rows row k false is ∙ append-nil (rows_of_key by rows k))
    (rows-push by rows row key true (same_key_equiv.refl key) ∙ ap (λ (t : Table). t ++ row ∷ []) (sym here))
    keys n apart at

pub spread_rows : (by : List ℕ) (rows more : Table) (keys : Keys) (numbers : List ℕ) → IsDistinct same_key keys → AreIds keys (map (key_of by) more) numbers
    → spread numbers more (key_tables by rows keys) ≡ key_tables by (rows ++ more) keys
spread_rows by rows [] keys [] apart h = ap (λ (t : Table). key_tables by t keys) (sym (append-nil rows))
spread_rows by rows [] keys (n ∷ numbers) apart h = absurd cc
spread_rows by rows (row ∷ more) keys [] apart h = absurd cc
spread_rows by rows (row ∷ more) keys (n ∷ numbers) apart h =
    let head : slice_get keys n ≡ Some (key_of by row) = cc in
    let tail : AreIds keys (map (key_of by) more) numbers = cc in
    ap (spread numbers more) (put_row by rows row keys n apart head)
    ∙ spread_rows by (rows ++ row ∷ []) more keys numbers apart tail
    ∙ ap (λ (t : Table). key_tables by t keys) (append_assoc rows (row ∷ []) more)

-- ---- columns

pub are_columns : (tables : List Table) (aggs : List (Agg ℕ)) (cs : List TallyColumn) → map show_column cs ≡ map (column_of tables) aggs → All (IsColumnOf tables) cs
are_columns tables aggs [] h = All-nil (IsColumnOf tables)
are_columns tables [] (c ∷ cs) h = absurd cc
are_columns tables (a ∷ aggs) (c ∷ cs) h =
    let head : show_column c ≡ column_of tables a = cc in
    let tail : map show_column cs ≡ map (column_of tables) aggs = cc in
    All-cons (IsColumnOf tables) c cs (head ∙ ap (column_of tables) (sym (ap (λ (s : ColumnShape). s.agg) head))) (are_columns tables aggs cs tail)

pub columns_fit : (P : Agg ℕ → Type 0) (tables : List Table) (aggs : List (Agg ℕ)) (cs : List TallyColumn) → map show_column cs ≡ map (column_of tables) aggs → All P aggs
    → All (λ c. P (show_column c).agg) cs
columns_fit P tables aggs [] h all = All-nil (λ (c : TallyColumn). P (show_column c).agg)
columns_fit P tables [] (c ∷ cs) h all = absurd cc
columns_fit P tables (a ∷ aggs) (c ∷ cs) h all =
    let head : show_column c ≡ column_of tables a = cc in
    let tail : map show_column cs ≡ map (column_of tables) aggs = cc in
    All-cons (λ (c : TallyColumn). P (show_column c).agg) c cs (subst P (sym (ap (λ (s : ColumnShape). s.agg) head)) (All-head P a aggs all))
    (columns_fit P tables aggs cs tail (All-tail P a aggs all))

pub same_aggs : (tables others : List Table) (aggs : List (Agg ℕ)) (cs : List TallyColumn) → map show_column cs ≡ map (column_of tables) aggs
    → map (λ c. column_of others (show_column c).agg) cs ≡ map (column_of others) aggs
same_aggs tables others [] [] h = refl
same_aggs tables others (a ∷ aggs) [] h = absurd cc
same_aggs tables others [] (c ∷ cs) h = absurd cc
same_aggs tables others (a ∷ aggs) (c ∷ cs) h =
    let head : show_column c ≡ column_of tables a = cc in
    let tail : map show_column cs ≡ map (column_of tables) aggs = cc in
    ap (λ b. column_of others b ∷ map (λ c. column_of others (show_column c).agg) cs) (ap (λ (s : ColumnShape). s.agg) head)
    ∙ ap (λ l. column_of others a ∷ l) (same_aggs tables others aggs cs tail)

rows-le : (by : List ℕ) (rows : Table) (key : List Item) → length (rows_of_key by rows key) ≤ length rows
rows-le by rows key = omega (arith, length-filter (λ (r : Row). same_key key (key_of by r)) rows, count_by-le-length (λ (r : Row). same_key key (key_of by r)) rows)

pub tables_short : (by : List ℕ) (rows : Table) (keys : Keys) (n total : ℕ) → length rows + n ≤ total → All (λ t. length t + n ≤ total) (key_tables by rows keys)
tables_short by rows [] n total h = All-nil (λ (t : Table). length t + n ≤ total)
tables_short by rows (k ∷ keys) n total h =
    All-cons (λ (t : Table). length t + n ≤ total) (rows_of_key by rows k) (key_tables by rows keys) (omega (arith, h, rows-le by rows k)) (tables_short by rows keys n total h)

pub grouped_more : (by : List ℕ) (aggs : List (Agg ℕ)) (rows more : Table) (keys new : Keys) (columns changed : List ColumnShape) (numbers : List ℕ)
    → IsGrouped by aggs rows keys columns → new ≡ with_keys keys (map (key_of by) more) → AreIds new (map (key_of by) more) numbers
    → changed ≡ map (column_of (spread numbers more (padded (length new) [] (key_tables by rows keys)))) aggs → IsGrouped by aggs (rows ++ more) new changed
grouped_more by aggs rows more keys new columns changed numbers h is at changes =
    let apart : IsDistinct same_key new = subst (IsDistinct same_key) (sym is) (distinct-more keys (map (key_of by) more) h.apart) in
    let tables : padded (length new) [] (key_tables by rows keys) ≡ key_tables by rows new =
    ap (λ (l : Keys). padded (length l) [] (key_tables by rows keys)) is ∙ tables-padded by rows keys (map (key_of by) more) h.keys_are ∙ ap (key_tables by rows) (sym is) in
    record {
      keys_are = is ∙ ap (λ (l : Keys). with_keys l (map (key_of by) more)) h.keys_are ∙ sym (keys-more by rows more);
      apart = apart;
      columns_are = changes ∙ ap (λ (l : List Table). map (column_of (spread numbers more l)) aggs) tables
          ∙ ap (λ (l : List Table). map (column_of l) aggs) (spread_rows by rows more new numbers apart at);
    }

-- ---- what the groups tell

pub cell_of-tally_of : (rows : Table) (a : Agg ℕ) → cell_of a (tally_of a (items_for a rows)) ≡ cell rows a
cell_of-tally_of rows agg.Rows = ap (λ n. int (pos n)) (length-nulls rows) where
  length-nulls : (rows : Table) → length (items_for agg.Rows rows) ≡ length rows
  length-nulls [] = refl
  length-nulls (row ∷ rows) = ap suc (length-nulls rows)
cell_of-tally_of rows (agg.Count c) = refl
cell_of-tally_of rows (agg.Sum c) = refl
cell_of-tally_of rows (agg.Least c) = refl
cell_of-tally_of rows (agg.Greatest c) = refl

group_at : (tables : List Table) (n : ℕ) (a : Agg ℕ) (t : Table) → n < length tables → t ≡ get_or tables n t → cell_of_group n (column_of tables a) ≡ cell t a
group_at tables n a t below at =
    ap (cell_of a) (get_or-map (λ (rows : Table). tally_of a (items_for a rows)) tables n t (counted 0) below ∙ ap (λ (r : Table). tally_of a (items_for a r)) (sym at)) ∙ cell_of-tally_of t a

all_reported : (tables : List Table) (n : ℕ) (t : Table) (aggs : List (Agg ℕ)) → n < length tables → t ≡ get_or tables n t → map (cell_of_group n) (map (column_of tables) aggs) ≡ map (cell t) aggs
all_reported tables n t [] below at = refl
all_reported tables n t (a ∷ aggs) below at =
    let h = group_at tables n a t below at in
    let r : map (cell_of_group n) (map (column_of tables) aggs) ≡ map (cell t) aggs = all_reported tables n t aggs below at in
    cc (h, r)

abbrev make : List Item → List Item → GroupShape
make k cells = record { keys = k; cells = cells }

pub group_reported : (by : List ℕ) (aggs : List (Agg ℕ)) (rows : Table) (keys : Keys) (columns : List ColumnShape) (n : ℕ) (k : List Item) → IsGrouped by aggs rows keys columns
    → slice_get keys n ≡ Some k → make k (map (cell_of_group n) columns) ≡ group_of by aggs rows k
group_reported by aggs rows keys columns n k h at =
    let below : n < length keys = slice_get_within keys n k at in
    let here : rows_of_key by rows k ≡ get_or (key_tables by rows keys) n (rows_of_key by rows k) =
    sym (get_or-map (rows_of_key by rows) keys n k (rows_of_key by rows k) below ∙ ap (rows_of_key by rows) (get_or_from_slice_get keys n k k at)) in
    ap (make k) (ap (map (cell_of_group n)) h.columns_are
    ∙ all_reported (key_tables by rows keys) n (rows_of_key by rows k) aggs (omega (arith, below, length-map keys (rows_of_key by rows))) here)

pub reported_more : (by : List ℕ) (aggs : List (Agg ℕ)) (rows : Table) (keys : Keys) (columns : List ColumnShape) (n : ℕ) (k cells : List Item) (front new : List GroupShape) → IsGrouped by aggs rows keys columns
    → slice_get keys n ≡ Some k → cells ≡ map (cell_of_group n) columns → front ≡ take n (grouped by aggs rows)
    → new ≡ front ++ make k cells ∷ [] → new ≡ take (n + 1) (grouped by aggs rows)
reported_more by aggs rows keys columns n k cells front new h at are so more =
    let g = group_of by aggs rows k in
    let all = grouped by aggs rows in
    let whole : map (group_of by aggs rows) keys ≡ all = ap (map (group_of by aggs rows)) h.keys_are in
    let below : n < length keys = slice_get_within keys n k at in
    let inside : n < length all = omega (arith, below, sym (ap length whole) ∙ length-map keys (group_of by aggs rows)) in
    let here : get_or all n g ≡ g =
    ap (λ l. get_or l n g) (sym whole) ∙ get_or-map (group_of by aggs rows) keys n k g below ∙ ap (group_of by aggs rows) (get_or_from_slice_get keys n k k at) in
    more ∙ ap (λ l. l ++ make k cells ∷ []) so
    ∙ ap (λ x. take n all ++ x ∷ []) (ap (make k) are ∙ group_reported by aggs rows keys columns n k h at ∙ sym here)
    ∙ sym (take_more all n g inside)

pub reported_whole : (by : List ℕ) (aggs : List (Agg ℕ)) (rows : Table) (keys : Keys) (columns : List ColumnShape) (n : ℕ) → IsGrouped by aggs rows keys columns → length keys ≤ n
    → take n (grouped by aggs rows) ≡ grouped by aggs rows
reported_whole by aggs rows keys columns n h past =
    take_all n (grouped by aggs rows) (omega (arith, past, length-map (keys_of by rows) (group_of by aggs rows), ap length h.keys_are))

-- A column has a cell for each key.
pub as_long : (by : List ℕ) (aggs : List (Agg ℕ)) (rows : Table) (keys : Keys) (cs : List TallyColumn) → IsGrouped by aggs rows keys (map show_column cs)
    → All (λ c. length (show_column c).tallies ≡ length keys) cs
as_long by aggs rows keys cs h = long aggs cs h.columns_are where
  long : (ags : List (Agg ℕ)) (cs : List TallyColumn) → map show_column cs ≡ map (column_of (key_tables by rows keys)) ags → All (λ c. length (show_column c).tallies ≡ length keys) cs
  long ags [] e = All-nil (λ (c : TallyColumn). length (show_column c).tallies ≡ length keys)
  long [] (c ∷ cs) e = absurd cc
  long (a ∷ ags) (c ∷ cs) e =
      let head : show_column c ≡ column_of (key_tables by rows keys) a = cc in
      let tail : map show_column cs ≡ map (column_of (key_tables by rows keys)) ags = cc in
      All-cons (λ (c : TallyColumn). length (show_column c).tallies ≡ length keys) c cs
      (ap (λ (s : ColumnShape). length s.tallies) head ∙ length-map (key_tables by rows keys) (λ (t : Table). tally_of a (items_for a t)) ∙ length-map keys (rows_of_key by rows))
      (long ags cs tail)

-- ---- no rows

pub start_keyed : (by : List ℕ) (aggs : List (Agg ℕ)) (columns : List ColumnShape) → (length by ≡ 0 → ⊥) → columns ≡ map (λ a. record { agg = a; tallies = [] }) aggs → IsGrouped by aggs [] [] columns
start_keyed [] aggs columns h is = absurd (h (omega arith))
start_keyed (c ∷ by) aggs columns h is = record {
  keys_are = refl;
  apart = IsDistinct-from_apart same_key [] (λ i j d ij below. absurd (omega arith));
  columns_are = is;
}

pub start_whole : (by : List ℕ) (aggs : List (Agg ℕ)) (columns : List ColumnShape) → length by ≡ 0 → columns ≡ map (λ a. record { agg = a; tallies = tally_of a [] ∷ [] }) aggs
    → IsGrouped by aggs [] ([] ∷ []) columns
start_whole [] aggs columns h is = record {
  keys_are = refl;
  apart = IsDistinct-from_apart same_key ([] ∷ []) (λ i j d ij below. absurd (omega arith));
  columns_are = is;
}
start_whole (c ∷ by) aggs columns h is = absurd (omega (arith, h))
