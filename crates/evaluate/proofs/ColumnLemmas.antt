-- The columns of lawful batches.
use Rattle.std.proofs.Common.{◌≡◌, ◌∙◌, ℕ, zero, suc, ◌+◌, ◌<◌, ◌≤◌, List, [], ◌∷◌, length, get_or, Bool, true, false, not, cond, eqb, is_ok, Option, Some, None, option_map, Ok, ap, sym, refl, arith, true≢false}
use Rattle.std.specs.Prelude.{nat_lt, slice_get, slice_index_or}
use Rattle.std.specs.List.{zip}
use Rattle.std.specs.Option.{option_or}
use Rattle.std.proofs.lemmas.Bool.{eqb-true, ltb-false}
use Rattle.std.proofs.lemmas.List.{get_or-map}
use Rattle.std.proofs.lemmas.Option.{slice_get-get_or, slice_get_within}
use Rattle.arrays.proofs.ChildLemmas.{same_kinds}
use Rattle.arrays.specs.Prelude.{Batch, FieldShape, Item, Seen, bad_length, batch_fault, differing_length, differing_type, field, kind_of_field, most_slots, null, row_of, same_kind, slice}
use Rattle.arrays.specs.declared.batch.BatchFault.TheVariants.{ColumnCount, LengthsDiffer, TypeDiffers}
use Rattle.arrays.specs.Shape.{boolean}
use Rattle.std.proofs.lemmas.Grind.{common_steps}
use Rattle.evaluate.specs.Making.{IsColumn}
use Rattle.evaluate.specs.declared.values.Operand.TheVariants.{Borrowed}
use Rattle.evaluate.specs.declared.values.Slots.{Slots}
use Rattle.query.specs.Prelude.{sort_at, sort_of_field, sort_of_kind}
use Rattle.evaluate.proofs.PlaceLemmas.{all_before}
use Rattle.std.proofs.lemmas.List.Sums.{fails_before_first}

-- ---- what no fault means

no_fault : (b : Bool) (t l : Option ℕ) → cond (not b) (Some ColumnCount) (option_or (option_map (λ c. TypeDiffers c) t) (option_map (λ c. LengthsDiffer c) l)) ≡ None
    → (b ≡ true) × (t ≡ None) × (l ≡ None)
no_fault true None None h = (refl, refl, refl)
no_fault true None (Some c) h = absurd cc
no_fault true (Some c) l h = absurd cc
no_fault false t l h = absurd cc

in_bounds : (b : Bool) (l : Option ℕ) → cond b (Some 0) l ≡ None → (b ≡ false) × (l ≡ None)
in_bounds true l h = absurd cc
in_bounds false l h = (refl, h)

untrue : (b : Bool) → not b ≡ false → b ≡ true
untrue true h = refl
untrue false h = absurd (true≢false h)

-- A lawful batch has a column of the kind of each field, with a slot for each row, of which there are few.
pub record Whole (fields : List FieldShape) (n : ℕ) (columns : List Seen) : Type 0 where
  pub count : length columns ≡ length fields
  pub kind : (i : ℕ) (c : Seen) (f : FieldShape) → i < length columns → (get_or columns i c).kind ≡ kind_of_field (get_or fields i f)
  pub len : (i : ℕ) (c : Seen) → i < length columns → length (get_or columns i c).items ≡ n
  pub few : n ≤ most_slots

abbrev is_wrong : Seen × FieldShape → Bool
is_wrong p = not (same_kind p.0.kind (kind_of_field p.1))

length-zip : (columns : List Seen) (fields : List FieldShape) → length columns ≡ length fields → length (zip columns fields) ≡ length columns
length-zip [] [] h = refl
length-zip [] (f ∷ fields) h = absurd cc
length-zip (c ∷ columns) [] h = absurd cc
length-zip (c ∷ columns) (f ∷ fields) h = ap suc (length-zip columns fields cc)

get_or-zip : (columns : List Seen) (fields : List FieldShape) (i : ℕ) (c : Seen) (f : FieldShape) → length columns ≡ length fields → get_or (zip columns fields) i (c, f) ≡ (get_or columns i c, get_or fields i f)
get_or-zip [] [] i c f h = refl
get_or-zip [] (g ∷ fields) i c f h = absurd cc
get_or-zip (d ∷ columns) [] i c f h = absurd cc
get_or-zip (d ∷ columns) (g ∷ fields) zero c f h = refl
get_or-zip (d ∷ columns) (g ∷ fields) (suc i) c f h = get_or-zip columns fields i c f cc

pub whole : (fields : List FieldShape) (n : ℕ) (columns : List Seen) → batch_fault fields n columns ≡ None → Whole fields n columns
whole fields n columns lawful =
    let parts = no_fault (eqb (length columns) (length fields)) (differing_type fields columns) (bad_length n columns) lawful in
    let few = in_bounds (nat_lt most_slots n) (differing_length n columns) parts.2 in
    let count = eqb-true (length columns) (length fields) parts.0 in
    record {
      count = count;
      kind = λ i c f below.
          let here = ap is_wrong (sym (get_or-zip columns fields i c f count))
          ∙ fails_before_first is_wrong (zip columns fields) i (c, f) (omega (arith, below, length-zip columns fields count, all_before is_wrong (zip columns fields) parts.1)) in
          same_kinds (get_or columns i c).kind (kind_of_field (get_or fields i f)) (untrue (same_kind (get_or columns i c).kind (kind_of_field (get_or fields i f))) here);
      len = λ i c below.
          eqb-true (length (get_or columns i c).items) n (untrue (eqb (length (get_or columns i c).items) n)
          (fails_before_first (λ (s : Seen). not (eqb (length s.items) n)) columns i c (omega (arith, below, all_before (λ (s : Seen). not (eqb (length s.items) n)) columns few.1))));
      few = omega (arith, ltb-false most_slots n few.0);
    }

-- ---- the column at a place

-- Where a position has a sort, it is that of a field.
pub field_there : (fields : List FieldShape) (place : ℕ) → is_ok (sort_at fields place) ≡ true → place < length fields
field_there fields place ok = go (slice_get fields place) refl ok where
  go : (o : Option FieldShape) → slice_get fields place ≡ o → is_ok (sort_of_field o) ≡ true → place < length fields
  go None is h = absurd (true≢false (sym h))
  go (Some f) is h = slice_get_within fields place f is

pub sort_there : (fields : List FieldShape) (place : ℕ) (f : FieldShape) → place < length fields → sort_at fields place ≡ Ok (sort_of_kind (kind_of_field (get_or fields place f)))
sort_there fields place f below = ap sort_of_field (slice_get-get_or fields place f below)

-- An item of a row is that of the column.
pub row_item : (columns : List Seen) (i place : ℕ) (c : Seen) → place < length columns → slice_index_or (row_of columns i) place null ≡ slice_index_or (get_or columns place c).items i null
row_item columns i place c below = get_or-map (λ (s : Seen). slice_index_or s.items i null) columns place c null below

-- Where a position has a sort, a lawful batch has a column there.
pub place_within : (b : Batch) (place : ℕ) → batch_fault b.fields b.rows b.columns ≡ None → is_ok (sort_at b.fields place) ≡ true → place < length b.columns
place_within b place lawful ok = omega (arith, field_there b.fields place ok, (whole b.fields b.rows b.columns lawful).count)

pub slots_within : (b : Batch) (place start n : ℕ) (c : Seen) → batch_fault b.fields b.rows b.columns ≡ None → place < length b.columns → start + n ≤ b.rows → start + n ≤ length (get_or b.columns place c).items
slots_within b place start n c lawful below within = omega (arith, within, (whole b.fields b.rows b.columns lawful).len place c below)

pub few_rows : (b : Batch) (start n : ℕ) → batch_fault b.fields b.rows b.columns ≡ None → start + n ≤ b.rows → n ≤ most_slots
few_rows b start n lawful within = omega (arith, within, (whole b.fields b.rows b.columns lawful).few)

-- Items of a slice.
length-part : (xs : List Item) (start n : ℕ) → start + n ≤ length xs → length (slice xs start n) ≡ n
length-part xs start n within = grind (arith, common_steps)

sliced : (xs : List Item) (start n i : ℕ) → i < n → start + n ≤ length xs → slice_index_or (slice xs start n) i null ≡ slice_index_or xs (start + i) null
sliced xs start n i below within = grind (arith, common_steps)

pub is_column : (b : Batch) (place start n : ℕ) (s : Slots) → batch_fault b.fields b.rows b.columns ≡ None → is_ok (sort_at b.fields place) ≡ true → start + n ≤ b.rows
    → s.array.now ≡ get_or b.columns place s.array.now → s.start ≡ start → s.len ≡ n → IsColumn b start n place (Borrowed s)
is_column b place start n s lawful ok within is starts long =
    let w = whole b.fields b.rows b.columns lawful in
    let below = place_within b place lawful ok in
    let c : Seen = s.array.now in
    let rows : length c.items ≡ b.rows = ap (λ (x : Seen). length x.items) is ∙ w.len place c below in
    let f : FieldShape = field [] false boolean in
    record {
      sort = sort_there b.fields place f (field_there b.fields place ok) ∙ ap (λ k. Ok (sort_of_kind k)) (sym (ap (λ (x : Seen). x.kind) is ∙ w.kind place c f below));
      len = length-part c.items s.start s.len (omega (arith, starts, long, within, rows)) ∙ long;
      each = λ i inside.
          row_item b.columns (start + i) place c below
          ∙ ap (λ (x : Seen). slice_index_or x.items (start + i) null) (sym is)
          ∙ ap (λ m. slice_index_or c.items (m + i) null) (sym starts)
          ∙ sym (sliced c.items s.start s.len i (omega (arith, inside, long)) (omega (arith, starts, long, within, rows)));
    }
