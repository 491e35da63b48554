-- Picked rows.
use Rattle.std.proofs.Common.{◌≡◌, ◌∙◌, ℕ, ◌+◌, ◌<◌, ◌≤◌, ℤ, List, [], ◌∷◌, ◌++◌, length, take, map, Bool, Option, None, Some, ap, sym, refl, get_or, zero-add}
use Rattle.std.specs.Prelude.{slice_get, All}
use Rattle.std.proofs.lemmas.List.{map-append, take_more, take_all}
use Rattle.std.specs.List.{range_with_len}
use Rattle.std.proofs.lemmas.Simd.{map-map}
use Rattle.arrays.proofs.RangeLists.{map-range-below}
use Rattle.std.proofs.lemmas.List.FromFn.{fill_by_all}
use Rattle.std.proofs.lemmas.Option.{slice_get_within, get_or_from_slice_get}
use Rattle.arrays.specs.Prelude.{HasNumbers, IntType, Item, Seen, int, item_of, number_at, number_in, valid_at}
use Rattle.arrays.proofs.PartLemmas.{item_slot}
use Rattle.arrays.proofs.SlotLemmas.{item_if}
use Rattle.select.specs.Picked.{picked, picked_at}

-- one more of a list
pub take-one : {A : Type 0} (xs : List A) (j : ℕ) (x : A) → slice_get xs j ≡ Some x → take (j + 1) xs ≡ take j xs ++ x ∷ []
take-one xs j x at = take_more xs j x (slice_get_within xs j x at) ∙ ap (λ y. take j xs ++ y ∷ []) (get_or_from_slice_get xs j x x at)

-- one more picked row
pub picked-more : (items : List Item) (picks : List (Option ℕ)) (j : ℕ) (pick : Option ℕ) → slice_get picks j ≡ Some pick
    → picked items (take (j + 1) picks) ≡ picked items (take j picks) ++ picked_at items pick ∷ []
picked-more items picks j pick at = ap (picked items) (take-one picks j pick at) ∙ map-append (picked_at items) (take j picks) (pick ∷ [])

-- what holds of all holds of one
pub all-at : {A : Type 0} (P : A → Type 0) (xs : List A) (j : ℕ) (x : A) → All P xs → slice_get xs j ≡ Some x → P x
all-at P xs j x all at = Rattle.std.proofs.Common.subst P (get_or_from_slice_get xs j x x at) (all j x (slice_get_within xs j x at))

-- a column of picked rows gets one more
pub pushed : (items : List Item) (picks : List (Option ℕ)) (j : ℕ) (pick : Option ℕ) (old new : List Item) (x : Item)
    → slice_get picks j ≡ Some pick → old ≡ picked items (take j picks) → x ≡ picked_at items pick → new ≡ old ++ x ∷ []
    → new ≡ picked items (take (j + 1) picks)
pushed items picks j pick old new x at is of new_is =
    new_is ∙ ap (λ l. l ++ x ∷ []) is ∙ ap (λ y. picked items (take j picks) ++ y ∷ []) of ∙ sym (picked-more items picks j pick at)

-- all rows are picked at the end
pub picked-all : (items : List Item) (picks : List (Option ℕ)) (j : ℕ) → length picks ≤ j → picked items (take j picks) ≡ picked items picks
picked-all items picks j past = ap (picked items) (take_all j picks past)

-- the number of a row is its item
pub number-row : (t : IntType) (bytes : List ℕ) (validity : Option (List Bool)) (s : Seen) (i : ℕ) (r : Option ℤ) → HasNumbers t bytes s → validity ≡ s.validity → i < length s.items
    → r ≡ number_in t bytes validity i → slice_get s.items i ≡ Some (item_of r)
number-row t bytes validity s i r has same within is =
    item_slot (λ j. int (number_at t bytes j)) s i has.numbers within
    ∙ ap (λ x. Some x) (sym (ap item_of is ∙ ap (λ v. item_of (number_in t bytes v i)) same ∙ sym (item_if (valid_at s i) (number_at t bytes i))))

-- a list mapped, place by place
pub by_place : {A B : Type 0} (g : A → B) (xs : List A) (f : ℕ → B) (d : A) → ((j : ℕ) → j < length xs → f j ≡ g (get_or xs j d)) → map f (range_with_len 0 (length xs)) ≡ map g xs
by_place g xs f d each =
    let h = λ (j : ℕ). g (get_or xs j d) in
    map-range-below f h 0 (length xs) (λ j below. ap f (zero-add j) ∙ each j below ∙ ap h (sym (zero-add j)))
    ∙ sym (map-map g (λ j. get_or xs j d) (range_with_len 0 (length xs)))
    ∙ ap (map g) (sym (fill_by_all (λ j. get_or xs j d) xs (length xs) d refl (λ k h. refl)))

-- the picked items, place by place
pub picked-by_place : (items : List Item) (picks : List (Option ℕ)) (f : ℕ → Item) → ((j : ℕ) → j < length picks → f j ≡ picked_at items (get_or picks j None))
    → map f (range_with_len 0 (length picks)) ≡ picked items picks
picked-by_place items picks f each = by_place (picked_at items) picks f None each
