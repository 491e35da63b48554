-- The first null that a field may not hold, field by field.
use Rattle.std.proofs.Common.{◌≡◌, ◌∙◌, ℕ, zero, suc, ◌+◌, ◌<◌, ◌≤◌, List, [], ◌∷◌, length, get_or, map, take, drop, Bool, true, false, not, cond, nat_lt, position, Option, Some, None, option_map, ap, sym, refl, add-one, arith, lt-ltb}
use Rattle.std.specs.List.{enumerate_from, position_or_len}
use Rattle.std.proofs.Math.Seq.{drop-cons}
use Rattle.std.proofs.lemmas.Bool.{ltb-false}
use Rattle.std.proofs.lemmas.List.{drop_all, length-take-le}
use Rattle.arrays.specs.Prelude.{FieldShape, Item, Table, column, first}
use Rattle.table.specs.Cause.{null_cause, null_in, null_row}
use Rattle.table.specs.declared.refusal.Refusal.{Refusal}
use Rattle.table.specs.declared.refusal.Refusal.TheVariants.{NullInNonNullable}

-- what the fields from place k on refuse
abbrev pub refused_from : (t : Table) → List FieldShape → ℕ → Option Refusal
refused_from t fields k = first (map (null_in t) (enumerate_from k (drop k fields)))

pub null_cause-from : (t : Table) (fields : List FieldShape) → null_cause fields t ≡ refused_from t fields 0
unfolding null_cause
null_cause-from t fields = refl

one_more : (t : Table) (fields : List FieldShape) (k : ℕ) (f : FieldShape) → k < length fields → refused_from t fields k ≡ first (null_in t (k, get_or fields k f) ∷ map (null_in t) (enumerate_from (k + 1) (drop (k + 1) fields)))
one_more t fields k f below =
    ap (λ xs. first (map (null_in t) (enumerate_from k xs))) (drop-cons fields k f below)
    ∙ ap (λ j. first (null_in t (k, get_or fields k f) ∷ map (null_in t) (enumerate_from (k + 1) (drop j fields)))) (sym (add-one k))

-- at a field, of which the column's items are known
at_field : (t : Table) (fields : List FieldShape) (k : ℕ) (f : FieldShape) (items : List Item) (o : Option ℕ) → column t k ≡ items → get_or fields k f ≡ f → o ≡ null_row f items
    → null_in t (k, get_or fields k f) ≡ option_map (λ row. NullInNonNullable k row) o
at_field t fields k f items o same here is =
    ap (λ g. option_map (λ row. NullInNonNullable k row) (null_row g (column t k))) here
    ∙ ap (λ c. option_map (λ row. NullInNonNullable k row) (null_row f c)) same
    ∙ ap (option_map (λ row. NullInNonNullable k row)) (sym is)

pub refused_from-none : (t : Table) (fields : List FieldShape) (k : ℕ) (f : FieldShape) (items : List Item) (o : Option ℕ) → k < length fields → column t k ≡ items → get_or fields k f ≡ f
    → o ≡ null_row f items → o ≡ None → refused_from t fields k ≡ refused_from t fields (k + 1)
refused_from-none t fields k f items o below same here is none =
    one_more t fields k f below
    ∙ ap (λ x. first (x ∷ map (null_in t) (enumerate_from (k + 1) (drop (k + 1) fields)))) (at_field t fields k f items o same here is ∙ ap (option_map (λ row. NullInNonNullable k row)) none)

pub refused_from-some : (t : Table) (fields : List FieldShape) (k : ℕ) (f : FieldShape) (items : List Item) (o : Option ℕ) (row : ℕ) → k < length fields → column t k ≡ items → get_or fields k f ≡ f
    → o ≡ null_row f items → o ≡ Some row → refused_from t fields k ≡ Some (NullInNonNullable k row)
refused_from-some t fields k f items o row below same here is some =
    one_more t fields k f below
    ∙ ap (λ x. first (x ∷ map (null_in t) (enumerate_from (k + 1) (drop (k + 1) fields)))) (at_field t fields k f items o same here is ∙ ap (option_map (λ r. NullInNonNullable k r)) some)

pub refused_from-end : (t : Table) (fields : List FieldShape) → refused_from t fields (length fields) ≡ None
refused_from-end t fields = ap (λ xs. first (map (null_in t) (enumerate_from (length fields) xs))) (drop_all (length fields) fields (omega arith))

-- ---- the first null of one column

later : {A : Type 0} (p : A → Bool) (x : A) (xs : List A) (i : ℕ) (b : Bool) → p x ≡ b → suc i ≤ cond (not b) (1 + position_or_len p (take i xs)) 0
    → (i ≤ position_or_len p (take i xs) → position_or_len p xs ≡ i) → position_or_len p (x ∷ xs) ≡ suc i
later p x xs i true is h rest = absurd (omega (arith, h))
later p x xs i false is h rest =
    let same = rest (omega (arith, h)) in
    let next : 1 + position_or_len p xs ≡ suc i = omega (arith, same) in
    ap (λ b. cond (not b) (1 + position_or_len p xs) 0) is ∙ next

stands : {A : Type 0} (p : A → Bool) (i : ℕ) (xs : List A) (d : A) → i ≤ position_or_len p (take i xs) → i < length xs → p (get_or xs i d) ≡ true → position_or_len p xs ≡ i
stands p zero [] d before below here = absurd (omega (arith, below))
stands p zero (x ∷ xs) d before below here = ap (λ b. cond (not b) (1 + position_or_len p xs) 0) here
stands p (suc i) [] d before below here = absurd (omega (arith, below))
stands p (suc i) (x ∷ xs) d before below here = later p x xs i (p x) refl before (λ more. stands p i xs d more (omega (arith, below)) here)

none_at : (m n : ℕ) → cond (nat_lt m n) (Some m) None ≡ None → n ≤ m
none_at m n h = go (nat_lt m n) refl h where
  go : (b : Bool) → nat_lt m n ≡ b → cond b (Some m) None ≡ None → n ≤ m
  go true e p = absurd cc
  go false e p = ltb-false m n e

-- the first that passes is there where none before it does
pub position-found : {A : Type 0} (p : A → Bool) (xs : List A) (i : ℕ) (d : A) → position p (take i xs) ≡ None → i < length xs → p (get_or xs i d) ≡ true → position p xs ≡ Some i
position-found p xs i d none below here =
    let long = none_at (position_or_len p (take i xs)) (length (take i xs)) none in
    let there : position_or_len p xs ≡ i = stands p i xs d (omega (arith, long, below, length-take-le i xs (omega (arith, below)))) below here in
    ap (λ n. cond (nat_lt n (length xs)) (Some n) None) there ∙ ap (λ b. cond b (Some i) None) (lt-ltb i (length xs) below)

-- a slot that holds no item is null
pub null_there : (b storage : Bool) → storage ≡ not b → storage ≡ false → b ≡ true
null_there true storage is none = refl
null_there false storage is none = absurd cc
