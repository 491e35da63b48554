-- The numbers of picked rows, as they lie in a column.
use Rattle.std.proofs.Common.{◌≡◌, ◌∙◌, ℕ, ◌+◌, ◌*◌, ◌<◌, ◌≤◌, ℤ, List, ◌++◌, length, map, Bool, true, false, cond, Option, None, Some, IfSome, is_some, ap, sym, refl, arith, subst, get_or, length-append, zero-add}
use Rattle.std.specs.Prelude.{All}
use Rattle.std.specs.List.{range_with_len}
use borrow.Author.Count.{below_more}
use Rattle.std.proofs.lemmas.List.FromFn.{get_or-map-range_with_len, length-map-range_with_len}
use Rattle.std.proofs.lemmas.Nat.{row_fits}
use Rattle.arrays.specs.Prelude.{HasNumbers, IntType, IsBufferOf, IsOfType, Item, Seen, bytes_of, bytes_of_number, int, kept, null, number_at, show_numbers, shown, valid_at}
use Rattle.arrays.proofs.EncodingLemmas.{length-bytes_of_number, number_at-append-front, number_at-append-end}
use Rattle.arrays.specs.Kind as kind
use Rattle.arrays.proofs.FinishedLemmas.{slot, slots_shown}
use Rattle.arrays.proofs.PartLemmas.{item_slot}
use Rattle.arrays.proofs.ValidityLemmas.{kept-places-ones}
use Rattle.arrays.proofs.BuilderLemmas.{more_rows}
use Rattle.std.proofs.lemmas.Option.{get_or_from_slice_get}
use Rattle.select.specs.Prelude.{AreStored, IsPick, is_row, is_stored, picked, picked_at}
use Rattle.select.proofs.PickLemmas.{picked-by_place}

-- ---- one number more

same_number : (p : Option ℕ) (y z : ℤ) (f : ℕ → ℤ) → y ≡ z → IfSome p (λ i. z ≡ f i) → IfSome p (λ i. y ≡ f i)
same_number None y z f same is = tt
same_number (Some i) y z f same is = same ∙ is

pub AreStored-more : (t : IntType) (bytes : List ℕ) (picks : List (Option ℕ)) (n : ℕ) (values longer : List ℕ) (pushed z : ℤ) → AreStored t bytes picks n values
    → longer ≡ values ++ bytes_of_number t pushed → pushed ≡ z → IsOfType t z → IfSome (get_or picks n None) (λ i. z ≡ number_at t bytes i) → AreStored t bytes picks (n + 1) longer
AreStored-more t bytes picks n values longer pushed z are grows same of_type here =
    let grown = grows ∙ ap (λ y. values ++ bytes_of_number t y) same in
    let w = bytes_of t.bits in
    let added = bytes_of_number t z in
    let within : (j : ℕ) → j < n → j * w + w ≤ length values = λ j before. subst (λ m. j * w + w ≤ m) (sym are.size) (row_fits j w n w before (omega arith)) in
    record {
      size =
          ap length grown
          ∙ length-append values added
          ∙ ap (λ m. m + length added) are.size
          ∙ ap (λ m. n * w + m) (length-bytes_of_number t z)
          ∙ more_rows n w;
      numbers =
          below_more (λ j. IfSome (get_or picks j None) (λ i. number_at t longer j ≡ number_at t bytes i)) n
          (λ j before. same_number (get_or picks j None) _ _ (number_at t bytes) (ap (λ v. number_at t v j) grown ∙ number_at-append-front t values added j (within j before)) (are.numbers j before))
          (same_number (get_or picks n None) _ _ (number_at t bytes) (ap (λ v. number_at t v n) grown ∙ number_at-append-end t values z n (sym are.size) of_type) here);
    }

-- ---- the validity

row_stored : (p : Option ℕ) → is_row p ≡ true → is_stored None p ≡ true
row_stored None h = h
row_stored (Some i) h = refl

pub rows-valid : (validity : Option (List Bool)) (picks : List (Option ℕ)) → is_some validity ≡ false → ((j : ℕ) → j < length picks → is_row (get_or picks j None) ≡ true)
    → kept (map (λ j. is_stored validity (get_or picks j None)) (range_with_len 0 (length picks))) ≡ None
rows-valid None picks none rows = kept-places-ones (λ j. is_stored None (get_or picks j None)) (length picks) (λ j below. row_stored (get_or picks j None) (rows j below))
rows-valid (Some bits) picks none rows = cc

-- ---- the finished column

slot_item : (t : IntType) (bytes : List ℕ) (s : Seen) (p : Option ℕ) (v : Bool) (z : ℤ) → HasNumbers t bytes s → IsPick (length s.items) p → v ≡ is_stored s.validity p → IfSome p (λ i. z ≡ number_at t bytes i)
    → cond v (int z) null ≡ picked_at s.items p
slot_item t bytes s None v z has within valid is = ap (λ b. cond b (int z) null) valid
slot_item t bytes s (Some i) v z has within valid is =
    ap (λ b. cond b (int z) null) valid
    ∙ ap (λ y. cond (valid_at s i) (int y) null) is
    ∙ sym (get_or_from_slice_get s.items i (cond (valid_at s i) (int (number_at t bytes i)) null) null (item_slot (λ j. int (number_at t bytes j)) s i has.numbers within))

pub numbers-picked : (t : IntType) (bytes : List ℕ) (s : Seen) (picks : List (Option ℕ)) (n : ℕ) (values content : List ℕ) (validity : Option (List Bool)) (buffer : Option (List ℕ))
    → HasNumbers t bytes s → All (IsPick (length s.items)) picks → n ≡ length picks → validity ≡ kept (map (λ j. is_stored s.validity (get_or picks j None)) (range_with_len 0 (length picks)))
    → IsBufferOf buffer validity → AreStored t bytes picks (length picks) values → content ≡ values → show_numbers t n buffer content ≡ shown (kind.int t) (picked s.items picks)
numbers-picked t bytes s picks n values content validity buffer has within size is holds are same =
    let f : ℕ → Bool = λ j. is_stored s.validity (get_or picks j None) in
    let valid = map f (range_with_len 0 (length picks)) in
    let value : ℕ → Item = λ j. int (number_at t values j) in
    let m : length valid ≡ length picks = length-map-range_with_len f 0 (length picks) in
    let each : (j : ℕ) → j < length picks → slot value valid j ≡ picked_at s.items (get_or picks j None) =
    λ j below.
    slot_item t bytes s (get_or picks j None) (get_or valid j false) (number_at t values j) has (within j None below)
    (get_or-map-range_with_len f 0 (length picks) j j false below (zero-add j)) (are.numbers j below) in
    slots_shown (kind.int t) value (λ j. int (number_at t content j)) n valid validity buffer (size ∙ sym m) is holds (λ j. refl) (λ j below. ap (λ b. int (number_at t b j)) same)
    ∙ ap (λ k. shown (kind.int t) (map (slot value valid) (range_with_len 0 k))) m
    ∙ ap (shown (kind.int t)) (picked-by_place s.items picks (slot value valid) each)
