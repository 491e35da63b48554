-- The columns and the rows of lawful batches.
use Rattle.std.proofs.Common.{◌≡◌, ◌∙◌, ℕ, ◌<◌, [], List, length, Bool, cond, Option, None, Result, Ok, Err, ap, sym, refl, arith, zero, suc, ◌+◌, ◌-◌, ◌≤◌, ◌∷◌, ◌++◌, map, take, replicate, subst, ◌^◌, drop, OnOk}
use Rattle.std.specs.Prelude.{slice_index_or, All}
use Rattle.arrays.specs.Prelude.{Batch, IntType, Item, Row, Seen, Table, int, null, number_at, number_items, row_of, valid_in}
use Rattle.evaluate.specs.Prelude.{Agg, HasColumn}
use Rattle.std.proofs.lemmas.List.FromFn.{length-map-range_with_len}
use Rattle.std.proofs.lemmas.Grind.{common_steps}
use Rattle.std.proofs.lemmas.List.{map-append, length-map, take_all}
use Rattle.std.proofs.lemmas.List.Elements.{All-nil, All-cons, All-head, All-tail, All-append, All-replicate}
use Rattle.tallies.specs.Prelude.{AreTallies, ColumnShape, HasRoomFor, TallyShape, agg_at, bettered, column_of, item_for, items_at, items_for, padded, show_item, spread, tally_of}
use Rattle.group.specs.declared.stats.Scalar.{Scalar}
use Rattle.evaluate.specs.Aggs as agg
use Rattle.tallies.specs.declared.end.End.{End}
use Rattle.tallies.specs.declared.end.End.TheVariants.{Least, Greatest}
use Rattle.tallies.proofs.SpreadLemmas.{spread-map}

-- a row of a column of numbers is one of its slots
pub number_slot : (t : IntType) (bytes : List ℕ) (validity : Option (List Bool)) (n row : ℕ) → row < length (number_items t bytes validity n) → row < n
number_slot t bytes validity n row below =
    omega (arith, below, length-map-range_with_len (λ j. cond (valid_in validity j) (int (number_at t bytes j)) null) 0 n)

pub mapped : {A B C : Type 0} (g : B → C) (f : A → B) (xs : List A) → map g (map f xs) ≡ map (λ x. g (f x)) xs
mapped g f [] = refl
mapped g f (x ∷ xs) = ap (λ l. g (f x) ∷ l) (mapped g f xs)

pub refilled : {X : Type 0} (n : ℕ) (xs ws : List X) → n ≡ length xs → length ws ≡ length xs → take n (ws ++ drop (length ws) xs) ≡ ws
refilled n xs ws e same = grind (arith, common_steps)

alike : {A B : Type 0} (f g : A → B) (xs : List A) → ((x : A) → f x ≡ g x) → map f xs ≡ map g xs
alike f g [] same = refl
alike f g (x ∷ xs) same = ap (λ y. y ∷ map f xs) (same x) ∙ ap (λ l. g x ∷ l) (alike f g xs same)

map_replicate : {A B : Type 0} (f : A → B) (n : ℕ) (x : A) → map f (replicate n x) ≡ replicate n (f x)
map_replicate f zero x = refl
map_replicate f (suc n) x = ap (λ l. f x ∷ l) (map_replicate f n x)

map_padded : {A B : Type 0} (f : A → B) (n : ℕ) (x : A) (xs : List A) → map f (padded n x xs) ≡ padded n (f x) (map f xs)
map_padded f n x xs =
    map-append f xs (replicate (n - length xs) x)
    ∙ ap (λ l. map f xs ++ l) (map_replicate f (n - length xs) x)
    ∙ ap (λ m. map f xs ++ replicate (n - m) (f x)) (sym (length-map xs f))

-- ---- what stands for an aggregate at another place

pub same_end : (end : End) (c : ℕ) (xs : List Item) → tally_of (agg_at end 0) xs ≡ tally_of (agg_at end c) xs
same_end Least c xs = refl
same_end Greatest c xs = refl

pub none_end : (end : End) (c : ℕ) → bettered None ≡ tally_of (agg_at end c) []
none_end Least c = refl
none_end Greatest c = refl

-- ---- the items that are looked at

pub seen_items : (b : Batch) (place : ℕ) (s : Seen) (rows : List ℕ) → HasColumn b place s → All (λ r. r < b.rows) rows
    → items_at s.items rows ≡ map (λ r. slice_index_or (row_of b.columns r) place null) rows
seen_items b place s [] is h = refl
seen_items b place s (r ∷ rows) is h =
    ap (λ x. x ∷ items_at s.items rows) (is.item r (All-head (λ r. r < b.rows) r rows h))
    ∙ ap (λ l. slice_index_or (row_of b.columns r) place null ∷ l) (seen_items b place s rows is (All-tail (λ r. r < b.rows) r rows h))

pub seen_at_end : (end : End) (b : Batch) (place : ℕ) (rows : List ℕ)
    → map (λ r. slice_index_or (row_of b.columns r) place null) rows ≡ map (λ r. item_for (agg_at end place) (row_of b.columns r)) rows
seen_at_end Least b place rows = refl
seen_at_end Greatest b place rows = refl

no_item : (m r : ℕ) → slice_index_or (replicate m null) r null ≡ null
no_item zero r = refl
no_item (suc m) zero = refl
no_item (suc m) (suc r) = no_item m r

pub seen_rows : (m : ℕ) (columns : List Seen) (rows : List ℕ) → items_at (replicate m null) rows ≡ map (λ r. item_for agg.Rows (row_of columns r)) rows
seen_rows m columns rows = alike (λ r. slice_index_or (replicate m null) r null) (λ r. item_for agg.Rows (row_of columns r)) rows (λ r. no_item m r)

-- ---- rows more

abbrev pub shape : Agg ℕ → List TallyShape → ColumnShape
shape a ts = record { agg = a; tallies = ts }

module _ {C : Type 0} (show : C → TallyShape) (b a : Agg ℕ) (same : (xs : List Item) → tally_of b xs ≡ tally_of a xs) (s : ColumnShape) (old : List C) (is : s ≡ shape a (map show old)) where
  tallies_are : (tables : List Table) → s ≡ column_of tables s.agg → AreTallies show b old (map (items_for a) tables)
  tallies_are tables h =
      ap (λ (t : ColumnShape). t.tallies) (sym is ∙ h ∙ ap (column_of tables) (ap (λ (t : ColumnShape). t.agg) is))
      ∙ sym (mapped (tally_of a) (items_for a) tables)
      ∙ sym (alike (tally_of b) (tally_of a) (map (items_for a) tables) same)

  pub column_added : (n : ℕ) (lent new : List C) (tables : List Table) (numbers rows : List ℕ) (items : List Item) (columns : List Seen)
      → n ≡ length old → lent ≡ old → length new ≡ length lent → items_at items rows ≡ map (λ r. item_for a (row_of columns r)) rows → s ≡ column_of tables s.agg
      → ((groups : List (List Item)) → AreTallies show b lent groups → AreTallies show b new (spread numbers (items_at items rows) groups))
      → shape a (map show (take n (new ++ drop (length new) old))) ≡ column_of (spread numbers (map (row_of columns) rows) tables) s.agg
  column_added n lent new tables numbers rows items columns len lends count seen h added =
      let more : List Row = map (row_of columns) rows in
      let spreads : List Table = spread numbers more tables in
      let start : AreTallies show b lent (map (items_for a) tables) = subst (λ l. AreTallies show b l (map (items_for a) tables)) (sym lends) (tallies_are tables h) in
      let looked : items_at items rows ≡ map (item_for a) more = seen ∙ sym (mapped (item_for a) (row_of columns) rows) in
      let whole : spread numbers (items_at items rows) (map (items_for a) tables) ≡ map (items_for a) spreads =
      ap (λ l. spread numbers l (map (items_for a) tables)) looked ∙ sym (spread-map (item_for a) numbers more tables) in
      ap (λ l. shape a (map show l)) (refilled n old new len (count ∙ ap length lends))
      ∙ ap (shape a) (added (map (items_for a) tables) start
      ∙ ap (map (tally_of b)) whole
      ∙ alike (tally_of b) (tally_of a) (map (items_for a) spreads) same
      ∙ mapped (tally_of a) (items_for a) spreads)
      ∙ ap (column_of spreads) (sym (ap (λ (t : ColumnShape). t.agg) is))

  all_items : (n : ℕ) (tables : List Table) → All (λ t. length t + n ≤ 2 ^ 40) tables → All (λ xs. length xs + n ≤ 2 ^ 40) (map (items_for a) tables)
  all_items n [] h = All-nil (λ (xs : List Item). length xs + n ≤ 2 ^ 40)
  all_items n (t ∷ tables) h =
      All-cons (λ (xs : List Item). length xs + n ≤ 2 ^ 40) (items_for a t) (map (items_for a) tables)
      (omega (arith, All-head (λ (t : Table). length t + n ≤ 2 ^ 40) t tables h, length-map t (λ (row : Row). item_for a row)))
      (all_items n tables (All-tail (λ (t : Table). length t + n ≤ 2 ^ 40) t tables h))

  pub column_room : (lent : List C) (n : ℕ) → lent ≡ old → ((tables : List Table) × (s ≡ column_of tables s.agg) × All (λ t. length t + n ≤ 2 ^ 40) tables) → HasRoomFor show b lent n
  column_room lent n lends r =
      (map (items_for a) r.0, subst (λ l. AreTallies show b l (map (items_for a) r.0)) (sym lends) (tallies_are r.0 r.1), all_items n r.0 r.2)

-- The same, where a growth may be refused.
pub items_added : {T E : Type 0} (r : Result T E) (end : End) (place : ℕ) (s : ColumnShape) (old : List (Option Scalar)) → s ≡ shape (agg_at end place) (map show_item old)
    → (n : ℕ) (lent new : List (Option Scalar)) (tables : List Table) (numbers rows : List ℕ) (items : List Item) (columns : List Seen)
    → n ≡ length old → lent ≡ old → length new ≡ length lent → items_at items rows ≡ map (λ r. item_for (agg_at end place) (row_of columns r)) rows → s ≡ column_of tables s.agg
    → ((groups : List (List Item)) → AreTallies show_item (agg_at end 0) lent groups → OnOk r (AreTallies show_item (agg_at end 0) new (spread numbers (items_at items rows) groups)))
    → OnOk r (shape (agg_at end place) (map show_item (take n (new ++ drop (length new) old))) ≡ column_of (spread numbers (map (row_of columns) rows) tables) s.agg)
items_added (Ok x) end place s old is n lent new tables numbers rows items columns len lends count seen h added =
    column_added show_item (agg_at end 0) (agg_at end place) (same_end end place) s old is n lent new tables numbers rows items columns len lends count seen h added
items_added (Err e) end place s old is n lent new tables numbers rows items columns len lends count seen h added = tt

-- ---- groups more

pub resized : {C : Type 0} (n len : ℕ) (old : List C) (x : C) → len ≡ length old → length old ≤ n → take n old ++ replicate (n - len) x ≡ padded n x old
resized n len old x count few = ap (λ l. l ++ replicate (n - len) x) (take_all n old few) ∙ ap (λ m. old ++ replicate (n - m) x) count

pub column_grown : {C : Type 0} (show : C → TallyShape) (a : Agg ℕ) (s : ColumnShape) (n : ℕ) (old new : List C) (x : C) → s ≡ shape a (map show old) → show x ≡ tally_of a []
    → new ≡ padded n x old → shape a (map show new) ≡ shape s.agg (padded n (tally_of s.agg []) s.tallies)
column_grown show a s n old new x is none grows =
    ap (λ l. shape a (map show l)) grows
    ∙ ap (shape a) (map_padded show n x old ∙ ap (λ t. padded n t (map show old)) none)
    ∙ ap (λ (t : ColumnShape). shape t.agg (padded n (tally_of t.agg []) t.tallies)) (sym is)

pub shape_padded : (s t : ColumnShape) (tables : List Table) (n : ℕ) → s ≡ column_of tables s.agg → t ≡ shape s.agg (padded n (tally_of s.agg []) s.tallies) → t ≡ column_of (padded n [] tables) s.agg
shape_padded s t tables n h is =
    is ∙ ap (λ l. shape s.agg (padded n (tally_of s.agg []) l)) (ap (λ (u : ColumnShape). u.tallies) h)
    ∙ ap (shape s.agg) (sym (map_padded (λ (rows : Table). tally_of s.agg (items_for s.agg rows)) n [] tables))

pub padded_short : (n m : ℕ) (tables : List Table) → m ≤ 2 ^ 40 → All (λ t. length t + m ≤ 2 ^ 40) tables → All (λ t. length t + m ≤ 2 ^ 40) (padded n [] tables)
padded_short n m tables few h =
    All-append (λ (t : Table). length t + m ≤ 2 ^ 40) tables (replicate (n - length tables) []) h
    (All-replicate (λ (t : Table). length t + m ≤ 2 ^ 40) (n - length tables) [] (omega (arith, few)))
