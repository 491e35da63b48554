-- The rows and the columns of lawful batches, and the first column of another type.
use Rattle.std.proofs.Common.{◌≡◌, ◌∙◌, suc, ◌+◌, List, [], ◌∷◌, Bool, map, length, not, nat_lt, cond, Some, None, position, ap, refl, ℕ, ◌<◌, get_or, sym, true, false, ◌||◌, ltb, arith, Option, zero, eqb, option_map, eq-eqb, ◌++◌}
use Rattle.std.specs.List.{zip, position_or_len, range_with_len, list_any}
use Rattle.std.proofs.lemmas.List.FromFn.{length-map-range_with_len, fill_by_all}
use Rattle.std.proofs.lemmas.List.{get_or-map, map-append, length-map}
use Rattle.std.proofs.lemmas.Simd.{map-map}
use Rattle.std.specs.Prelude.{is_some, slice_index_or}
use Rattle.std.proofs.lemmas.Bool.Decides.{nat_tests}
use Rattle.std.proofs.lemmas.Bool.{true≢false, eqb-true, not-false, or_parts}
use Rattle.std.specs.Option.{option_or}
use Rattle.types.specs.declared.data_type.Field.{Field, out-Field}
use Rattle.arrays.specs.Prelude.{Batch, FieldShape, Table, bad_length, batch_fault, column, differing_length, differing_type, kind_of_field, null, row_of, rows_of}
use Rattle.arrays.specs.declared.batch.BatchFault.TheVariants.{ColumnCount, LengthsDiffer, TypeDiffers}
use Rattle.layout.specs.Seen.{Seen}
use Rattle.layout.proofs.ChildLemmas.{same_kinds}
use Rattle.types.specs.Prelude.{field_of, fields_of, kind_of, most_slots, same_kind}
use Rattle.types.proofs.ShapeLemmas.{kind_of_field-field_of}

length-zip-map : {A B C : Type 0} (f : B → C) (xs : List A) (ys : List B) → length (zip xs (map f ys)) ≡ length (zip xs ys)
length-zip-map f [] ys = refl
length-zip-map f (x ∷ xs) [] = refl
length-zip-map f (x ∷ xs) (y ∷ ys) = ap suc (length-zip-map f xs ys)

position_or_len-zip-map : {A B C : Type 0} (p : A × C → Bool) (q : A × B → Bool) (f : B → C) → ((a : A) (b : B) → p (a, f b) ≡ q (a, b)) → (xs : List A) (ys : List B)
    → position_or_len p (zip xs (map f ys)) ≡ position_or_len q (zip xs ys)
position_or_len-zip-map p q f h [] ys = refl
position_or_len-zip-map p q f h (x ∷ xs) [] = refl
position_or_len-zip-map p q f h (x ∷ xs) (y ∷ ys) =
    ap (λ b. cond (not b) (1 + position_or_len p (zip xs (map f ys))) 0) (h x y) ∙ ap (λ n. cond (not (q (x, y))) (1 + n) 0) (position_or_len-zip-map p q f h xs ys)

position-zip-map : {A B C : Type 0} (p : A × C → Bool) (q : A × B → Bool) (f : B → C) → ((a : A) (b : B) → p (a, f b) ≡ q (a, b)) → (xs : List A) (ys : List B)
    → position p (zip xs (map f ys)) ≡ position q (zip xs ys)
position-zip-map p q f h xs ys =
    ap (λ n. cond (nat_lt n (length (zip xs (map f ys)))) (Some n) None) (position_or_len-zip-map p q f h xs ys)
    ∙ ap (λ m. cond (nat_lt (position_or_len q (zip xs ys)) m) (Some (position_or_len q (zip xs ys))) None) (length-zip-map f xs ys)

-- the least column of another type, read from the fields or from their shapes
pub differing_type-fields : (fields : List Field) (columns : List Seen)
    → differing_type (fields_of fields) columns ≡ position (λ (p : Seen × Field). not (same_kind p.0.kind (kind_of (out-Field p.1).ty))) (zip columns fields)
differing_type-fields fields columns =
    position-zip-map _ _ field_of (λ c f. ap (λ k. not (same_kind c.kind k)) (kind_of_field-field_of f)) columns fields

-- ---- the rows and the columns of a batch

pub map-same : {A B : Type 0} (f g : A → B) → ((x : A) → f x ≡ g x) → (xs : List A) → map f xs ≡ map g xs
map-same f g h [] = refl
map-same f g h (x ∷ xs) = ap (λ y. y ∷ map f xs) (h x) ∙ ap (λ ys. g x ∷ ys) (map-same f g h xs)

pub length-rows_of : (b : Batch) → length (rows_of b) ≡ b.rows
length-rows_of b = length-map-range_with_len (row_of b.columns) 0 b.rows

-- A row's item of a column.
pub row-item : (columns : List Seen) (i k : ℕ) (d : Seen) → k < length columns → get_or (row_of columns i) k null ≡ get_or (get_or columns k d).items i null
row-item columns i k d below = get_or-map (λ (c : Seen). get_or c.items i null) columns k d null below

pub column-rows_of : (b : Batch) (k : ℕ) (d : Seen) → k < length b.columns → length (get_or b.columns k d).items ≡ b.rows → column (rows_of b) k ≡ (get_or b.columns k d).items
column-rows_of b k d below size =
    let items = (get_or b.columns k d).items in
    map-map (λ row. get_or row k null) (row_of b.columns) (range_with_len 0 b.rows)
    ∙ map-same _ (λ i. get_or items i null) (λ i. row-item b.columns i k d below) (range_with_len 0 b.rows)
    ∙ sym (fill_by_all (λ i. get_or items i null) items b.rows null size (λ i h. refl))

-- ---- tests that none passes

some-if : (b : Bool) (n : ℕ) → is_some (cond b (Some n) None) ≡ b
some-if true n = refl
some-if false n = refl

one-more : (b r : Bool) (n size : ℕ) → ltb n size ≡ r → ltb (cond (not b) (1 + n) 0) (suc size) ≡ (b || r)
one-more true r n size h = grind (arith, nat_tests)
one-more false r n size h = grind (arith, nat_tests)

found : {X : Type 0} (p : X → Bool) (xs : List X) → ltb (position_or_len p xs) (length xs) ≡ list_any p xs
found p [] = refl
found p (x ∷ xs) = one-more (p x) (list_any p xs) (position_or_len p xs) (length xs) (found p xs)

-- a place is found where one is among them
pub some-found : {X : Type 0} (p : X → Bool) (xs : List X) → is_some (position p xs) ≡ list_any p xs
some-found p xs = some-if (ltb (position_or_len p xs) (length xs)) (position_or_len p xs) ∙ found p xs

-- none passes where no place is found, and the other way round
pub among-missing : {X : Type 0} (p : X → Bool) (xs : List X) → position p xs ≡ None → list_any p xs ≡ false
among-missing p xs is = sym (some-found p xs) ∙ ap (λ (o : Option ℕ). is_some o) is

pub missing : {X : Type 0} (p : X → Bool) (xs : List X) → list_any p xs ≡ false → position p xs ≡ None
missing p xs none = nothing (position p xs) (some-found p xs ∙ none)
  where
    nothing : (o : Option ℕ) → is_some o ≡ false → o ≡ None
    nothing None h = refl
    nothing (Some k) h = absurd (true≢false h)

-- ---- lawful batches

-- Its kind isn't that of the field.
abbrev pub wrong_kind : Seen × FieldShape → Bool
wrong_kind p = not (same_kind p.0.kind (kind_of_field p.1))

pub sizes : (n : ℕ) (columns : List Seen) → list_any (λ (c : Seen). not (eqb (length c.items) n)) columns ≡ false → (k : ℕ) (d : Seen) → k < length columns → length (get_or columns k d).items ≡ n
sizes n [] none k d below = absurd (omega (arith, below))
sizes n (c ∷ columns) none zero d below =
    eqb-true (length c.items) n (not-false (eqb (length c.items) n) (or_parts (not (eqb (length c.items) n)) (list_any (λ (e : Seen). not (eqb (length e.items) n)) columns) none).0)
sizes n (c ∷ columns) none (suc k) d below =
    sizes n columns (or_parts (not (eqb (length c.items) n)) (list_any (λ (e : Seen). not (eqb (length e.items) n)) columns) none).1 k d (omega (arith, below))

pub kinds : (columns : List Seen) (fields : List FieldShape) → length columns ≡ length fields → list_any wrong_kind (zip columns fields) ≡ false → (k : ℕ) (d : Seen) (f : FieldShape) → k < length fields
    → (get_or columns k d).kind ≡ kind_of_field (get_or fields k f)
kinds columns [] count none k d f below = absurd (omega (arith, below))
kinds [] (g ∷ fields) count none k d f below = absurd (omega (arith, count))
kinds (c ∷ columns) (g ∷ fields) count none zero d f below =
    same_kinds c.kind (kind_of_field g) (not-false (same_kind c.kind (kind_of_field g)) (or_parts (wrong_kind (c, g)) (list_any wrong_kind (zip columns fields)) none).0)
kinds (c ∷ columns) (g ∷ fields) count none (suc k) d f below =
    kinds columns fields (omega (arith, count)) (or_parts (wrong_kind (c, g)) (list_any wrong_kind (zip columns fields)) none).1 k d f (omega (arith, below))

no-fault : (b : Bool) (t l : Option ℕ) → cond (not b) (Some ColumnCount) (option_or (option_map (λ c. TypeDiffers c) t) (option_map (λ c. LengthsDiffer c) l)) ≡ None
    → (b ≡ true) × (t ≡ None) × (l ≡ None)
no-fault true None None h = (refl, refl, refl)
no-fault true None (Some c) h = absurd cc
no-fault true (Some c) l h = absurd cc
no-fault false t l h = absurd cc

right-length : (b : Bool) (l : Option ℕ) → cond b (Some 0) l ≡ None → (b ≡ false) × (l ≡ None)
right-length true l h = absurd cc
right-length false l h = (refl, h)

-- What no fault means.
pub record Whole (fields : List FieldShape) (n : ℕ) (columns : List Seen) : Type 0 where
  pub count : length columns ≡ length fields
  pub kinds : list_any wrong_kind (zip columns fields) ≡ false
  pub small : nat_lt most_slots n ≡ false
  pub long : list_any (λ (c : Seen). not (eqb (length c.items) n)) columns ≡ false

pub whole : (fields : List FieldShape) (n : ℕ) (columns : List Seen) → batch_fault fields n columns ≡ None → Whole fields n columns
whole fields n columns lawful =
    let parts = no-fault (eqb (length columns) (length fields)) (differing_type fields columns) (bad_length n columns) lawful in
    let lengths = right-length (nat_lt most_slots n) (differing_length n columns) parts.2 in
    record {
      count = eqb-true (length columns) (length fields) parts.0;
      kinds = among-missing wrong_kind (zip columns fields) parts.1;
      small = lengths.0;
      long = among-missing (λ (c : Seen). not (eqb (length c.items) n)) columns lengths.1;
    }

pub faultless : (fields : List FieldShape) (n : ℕ) (columns : List Seen) → Whole fields n columns → batch_fault fields n columns ≡ None
faultless fields n columns is =
    ap (λ b. cond (not b) (Some ColumnCount) (option_or (option_map (λ c. TypeDiffers c) (differing_type fields columns)) (option_map (λ c. LengthsDiffer c) (bad_length n columns)))) (eq-eqb (length columns) (length fields) is.count)
    ∙ ap (λ t. option_or (option_map (λ c. TypeDiffers c) t) (option_map (λ c. LengthsDiffer c) (bad_length n columns))) (missing wrong_kind (zip columns fields) is.kinds)
    ∙ ap (λ b. option_map (λ c. LengthsDiffer c) (cond b (Some 0) (differing_length n columns))) is.small
    ∙ ap (λ l. option_map (λ c. LengthsDiffer c) l) (missing (λ (c : Seen). not (eqb (length c.items) n)) columns is.long)

-- the column of the rows of a lawful batch is its own
pub column-is : (b : Batch) (k : ℕ) (d : Seen) → batch_fault b.fields b.rows b.columns ≡ None → k < length b.columns → column (rows_of b) k ≡ (get_or b.columns k d).items
column-is b k d lawful below = column-rows_of b k d below (sizes b.rows b.columns (whole b.fields b.rows b.columns lawful).long k d below)

-- ---- the columns of a table

pub column-append : (t u : Table) (k : ℕ) → column (t ++ u) k ≡ column t k ++ column u k
column-append t u k = map-append (λ row. slice_index_or row k null) t u

pub length-column : (t : Table) (k : ℕ) → length (column t k) ≡ length t
length-column t k = length-map t (λ row. slice_index_or row k null)
