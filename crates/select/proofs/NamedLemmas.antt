-- Rows that indices name.
use Rattle.std.proofs.Common.{◌≡◌, ◌∙◌, ℕ, zero, suc, ◌+◌, ◌<◌, ◌≤◌, ℤ, pos, negsuc, List, length, drop, Bool, true, false, Option, None, Some, is_some, option_map, ap, refl, arith, subst, get_or, zero-add, Fits, w64}
use lib.Dec.{T}
use lib.IntN.{nat_abs}
use lib.Signed.{non_neg}
use Rattle.std.specs.Prelude.{slice_get}
use Rattle.std.proofs.lemmas.Bool.Decides.{nat_tests}
use Rattle.std.proofs.lemmas.List.FromFn.{get_or-map-range_with_len, length-map-range_with_len, map-range_with_len_more}
use Rattle.std.proofs.lemmas.Option.{slice_get-get_or}
use Rattle.arrays.specs.Prelude.{HasNumbers, IntType, Item, Seen, int, is_code, item_of, looked_up, most_slots, natural, number_in}
use Rattle.select.specs.Prelude.{IsPick, NameRows, index_at, is_row, picked_at, row_named, rows_named}
use Rattle.arrays.proofs.DictionaryLemmas.{code_row}
use Rattle.select.proofs.PickLemmas.{number-row}
use Rattle.select.proofs.RestLemmas.{below_all}
use Rattle.select.proofs.SelectionLemmas.{Taken, Taken-more, Taken-none}

number_more : (n m : ℕ) (z : ℤ) → n ≤ m → is_code n (int z) ≡ true → is_code m (int z) ≡ true
number_more n m (pos k) within h = grind (arith, nat_tests, h, within)
number_more n m (negsuc k) within h = cc

-- an index that names one of some rows names one of more
code_more : (n m : ℕ) (index : Option ℤ) → n ≤ m → is_code n (item_of index) ≡ true → is_code m (item_of index) ≡ true
code_more n m None within h = refl
code_more n m (Some z) within h = number_more n m z within h

-- the row that an index names
row_within : (n : ℕ) (index : Option ℤ) → is_code n (item_of index) ≡ true → IsPick n (option_map natural index)
row_within n None h = tt
row_within n (Some z) h = code_row n z h

row_looked_up : (items : List Item) (index : Option ℤ) → picked_at items (option_map natural index) ≡ looked_up items (item_of index)
row_looked_up items None = refl
row_looked_up items (Some z) = refl

pub length-rows_named : (t : IntType) (bytes : List ℕ) (validity : Option (List Bool)) (n : ℕ) → length (rows_named t bytes validity n) ≡ n
length-rows_named t bytes validity n = length-map-range_with_len (row_named t bytes validity) 0 n

pub row_at : (t : IntType) (bytes : List ℕ) (validity : Option (List Bool)) (n j : ℕ) → j < n → slice_get (rows_named t bytes validity n) j ≡ Some (row_named t bytes validity j)
row_at t bytes validity n j below =
    slice_get-get_or (rows_named t bytes validity n) j None (omega (arith, below, length-rows_named t bytes validity n))
    ∙ ap (λ r. Some r) (get_or-map-range_with_len (row_named t bytes validity) 0 n j j None below (zero-add j))

-- where a row is left there is an index
pub index_below : (t : IntType) (bytes : List ℕ) (validity : Option (List Bool)) (n at : ℕ) (rows : List (Option ℕ)) → rows_named t bytes validity n ≡ rows → 0 < length (drop at rows) → at < n
index_below t bytes validity n at rows is some = omega (arith, below_all rows at some, ap length is, length-rows_named t bytes validity n)

-- an index is the item of its slot
pub index_there : (t : IntType) (bytes : List ℕ) (validity : Option (List Bool)) (s : Seen) (i : ℕ) → HasNumbers t bytes s → validity ≡ s.validity → i < length s.items
    → slice_get s.items i ≡ Some (index_at t bytes validity i)
index_there t bytes validity s i has same below = number-row t bytes validity s i (number_in t bytes validity i) has same below refl

-- so many indices that name a row
pub Taken-named : (t : IntType) (bytes : List ℕ) (validity : Option (List Bool)) (s : Seen) (n i : ℕ) → HasNumbers t bytes s → validity ≡ s.validity → i ≤ length s.items
    → NameRows t bytes validity n i → Taken n s.items i (rows_named t bytes validity i)
Taken-named t bytes validity s n zero has same within names = Taken-none n s.items (rows_named t bytes validity 0) refl
Taken-named t bytes validity s n (suc i) has same within names =
    let one : i + 1 ≡ suc i = omega arith in
    let index = number_in t bytes validity i in
    let code = names.each i (omega arith) in
    let before = Taken-named t bytes validity s n i has same (omega (arith, within)) (record { each = λ j below. names.each j (omega (arith, below)) }) in
    subst (λ k. Taken n s.items k (rows_named t bytes validity k)) one
    (Taken-more n s.items i (index_at t bytes validity i) (row_named t bytes validity i) (rows_named t bytes validity i) (rows_named t bytes validity (i + 1)) before
    (index_there t bytes validity s i has same (omega (arith, within))) code (λ items. row_looked_up items index) (row_within n index code)
    (map-range_with_len_more (row_named t bytes validity) 0 i i (zero-add i)))

pub names-more : (t : IntType) (bytes : List ℕ) (validity : Option (List Bool)) (rows more n : ℕ) → rows ≤ more → NameRows t bytes validity rows n → NameRows t bytes validity more n
names-more t bytes validity rows more n few names = record { each = λ j below. code_more rows more (number_in t bytes validity j) few (names.each j below) }

row_there : (t : IntType) (bytes : List ℕ) (validity : Option (List Bool)) (j : ℕ) → is_some validity ≡ false → is_row (row_named t bytes validity j) ≡ true
row_there t bytes None j none = refl
row_there t bytes (Some bits) j none = cc

-- without a validity each index names a row
pub rows_named-row : (t : IntType) (bytes : List ℕ) (validity : Option (List Bool)) (n j : ℕ) → is_some validity ≡ false → j < length (rows_named t bytes validity n)
    → is_row (get_or (rows_named t bytes validity n) j None) ≡ true
rows_named-row t bytes validity n j none below =
    let within : j < n = omega (arith, below, length-rows_named t bytes validity n) in
    ap is_row (get_or-map-range_with_len (row_named t bytes validity) 0 n j j None within (zero-add j)) ∙ row_there t bytes validity j none

-- an index that names a row, as a place
pub cast_fits : (z : ℤ) → is_code most_slots (int z) ≡ true → T (non_neg z) × Fits w64 (nat_abs z)
cast_fits (pos m) h = let below : m < most_slots = code_row most_slots (pos m) h in (tt, omega (arith, below))
cast_fits (negsuc m) h = cc

pub cast_is : (n : ℕ) (z : ℤ) → is_code n (int z) ≡ true → nat_abs z ≡ natural z
cast_is n (pos m) h = refl
cast_is n (negsuc m) h = cc
