-- What is left of rows that are given one after the other.
use Rattle.std.proofs.Common.{◌≡◌, ◌∙◌, ℕ, suc, ◌+◌, ◌<◌, ◌≤◌, List, ◌∷◌, length, drop, get_or, None, Some, true, ap, sym, arith, length-drop, drop-cons, zero-add}
use Rattle.std.specs.Prelude.{slice_get}
use Rattle.std.proofs.lemmas.List.FromFn.{get_or-map-range_with_len, length-map-range_with_len}
use Rattle.std.proofs.lemmas.Option.{get_or_from_slice_get, slice_get-get_or, slice_get_within}
use Rattle.select.specs.Picked.{first_rows, is_row}

one_on : (j : ℕ) → suc j ≡ j + 1
one_on j = omega arith

-- one element more is reported
pub reported_next : {A : Type 0} (xs : List A) (j : ℕ) (x : A) → slice_get xs j ≡ Some x → drop j xs ≡ x ∷ drop (j + 1) xs
reported_next xs j x at =
    drop-cons xs j x (slice_get_within xs j x at)
    ∙ ap (λ y. y ∷ drop (suc j) xs) (get_or_from_slice_get xs j x x at)
    ∙ ap (λ k. x ∷ drop k xs) (one_on j)

-- which one it is, and what is left then
pub record IsNext {A : Type 0} (xs : List A) (j : ℕ) (x : A) (left : List A) : Type 0 where
  pub here : slice_get xs j ≡ Some x
  pub rest : left ≡ drop (j + 1) xs

pub is_next : {A : Type 0} (xs : List A) (j : ℕ) (x : A) (before left : List A) → before ≡ drop j xs → before ≡ x ∷ left → IsNext xs j x left
is_next xs j x before left is more =
    let below : j < length xs = omega (arith, ap length is, ap length more, length-drop j xs) in
    let split : drop j xs ≡ get_or xs j x ∷ drop (suc j) xs = drop-cons xs j x below in
    let same : x ∷ left ≡ get_or xs j x ∷ drop (suc j) xs = sym more ∙ is ∙ split in
    let first : x ≡ get_or xs j x = cc in
    let others : left ≡ drop (suc j) xs = cc in
    record {
      here = slice_get-get_or xs j x below ∙ ap (λ y. Some y) (sym first);
      rest = others ∙ ap (λ k. drop k xs) (one_on j);
    }

-- there is more to tell
pub some_left : {A : Type 0} (left xs : List A) (j : ℕ) → left ≡ drop j xs → j < length xs → 0 < length left
some_left left xs j is below = omega (arith, ap length is, length-drop j xs)

pub many_left : {A : Type 0} (left xs : List A) (j n : ℕ) → left ≡ drop j xs → j + n ≤ length xs → n ≤ length left
many_left left xs j n is below = omega (arith, ap length is, length-drop j xs)

pub below_all : {A : Type 0} (xs : List A) (j : ℕ) → 0 < length (drop j xs) → j < length xs
below_all xs j some = omega (arith, some, length-drop j xs)

-- ---- the first rows

pub length-first_rows : (n : ℕ) → length (first_rows n) ≡ n
length-first_rows n = length-map-range_with_len (λ i. Some i) 0 n

first_row_is : (n j : ℕ) → j < n → get_or (first_rows n) j None ≡ Some j
first_row_is n j below = get_or-map-range_with_len (λ i. Some i) 0 n j j None below (zero-add j)

pub first_row_at : (n j : ℕ) → j < n → slice_get (first_rows n) j ≡ Some (Some j)
first_row_at n j below =
    slice_get-get_or (first_rows n) j None (omega (arith, below, length-first_rows n)) ∙ ap (λ r. Some r) (first_row_is n j below)

pub first_rows-row : (n j : ℕ) → j < length (first_rows n) → is_row (get_or (first_rows n) j None) ≡ true
first_rows-row n j below = ap is_row (first_row_is n j (omega (arith, below, length-first_rows n)))
