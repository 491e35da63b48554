-- The numbers and the validity of columns one after the other, as they lie in memory.
use Rattle.std.proofs.Common.{◌≡◌, ◌∙◌, ℕ, suc, ◌+◌, ◌-◌, ◌*◌, ◌<◌, ◌≤◌, ℤ, List, [], ◌∷◌, ◌++◌, length, take, drop, map, inl, inr, Bool, true, false, not, cond, Option, None, Some, is_some, ap, sym, refl, arith, subst, get_or, append-nil, zero-add, length-append}
use Rattle.std.specs.Prelude.{All}
use Rattle.std.specs.List.{list_all, range_with_len}
use Rattle.std.proofs.lemmas.Bool.{cases_lt}
use Rattle.std.proofs.lemmas.Grind.{flat_map-append}
use Rattle.std.proofs.lemmas.List.{get_or_append_left, get_or-append-add, get_or-map, length-map, map-append, map-id, take-append-drop, take_more}
use Rattle.std.proofs.lemmas.List.Concat.{get_or-flat_map}
use Rattle.std.proofs.lemmas.List.Elements.{All-append}
use Rattle.std.proofs.lemmas.List.FromFn.{get_or-map-range_with_len, length-map-range_with_len}
use Rattle.std.proofs.lemmas.List.Sums.{AllPass-from_list_all}
use Rattle.std.proofs.lemmas.Nat.{row_fits}
use Rattle.std.proofs.lemmas.Option.{get_or_from_slice_get}
use Rattle.arrays.specs.Prelude.{HasNumbers, IntType, IsBufferOf, Item, Seen, bytes_of, int, is_null, joined_items, kept, null, number_at, show_numbers, shown, valid_at}
use Rattle.arrays.proofs.EncodingLemmas.{number_at-append-front, number_at-append-past}
use Rattle.arrays.specs.Item as item
use Rattle.arrays.specs.Kind as kind
use Rattle.arrays.proofs.FinishedLemmas.{slot, slots_shown}
use Rattle.arrays.proofs.PartLemmas.{item_slot}
use Rattle.arrays.proofs.ValidityLemmas.{kept-ones}
use Rattle.select.specs.Joined.{AreNumbersOf, IsPlace, TellsNulls, joined_valid}
use Rattle.arrays.proofs.BuilderLemmas.{more_slots}
use Rattle.select.proofs.JoinLemmas.{room-for}
use Rattle.select.proofs.PickLemmas.{by_place}

-- ---- one column more

pub joined-more : (columns : List Seen) (k : ℕ) (s : Seen) → k < length columns → s ≡ get_or columns k s → joined_items (take (k + 1) columns) ≡ joined_items (take k columns) ++ s.items
joined-more columns k s below at =
    ap joined_items (take_more columns k s below ∙ ap (λ x. take k columns ++ x ∷ []) (sym at))
    ∙ flat_map-append (λ (s : Seen). s.items) (take k columns) (s ∷ [])
    ∙ ap (λ xs. joined_items (take k columns) ++ xs) (append-nil s.items)

-- the slots up to a column's end are some of all
pub front-fits : (columns : List Seen) (k : ℕ) (s : Seen) → k < length columns → s ≡ get_or columns k s → length (joined_items (take k columns)) + length s.items ≤ length (joined_items columns)
front-fits columns k s below at =
    room-for (λ s. s.items) columns k s (joined_items (take k columns)) (joined_items columns) below at
    (sym (flat_map-append (λ (s : Seen). s.items) (take k columns) (drop k columns)) ∙ ap joined_items (take-append-drop k columns))

-- ---- the numbers

null_slot : (v : Bool) (z : ℤ) → is_null (cond v (int z) null) ≡ not v
null_slot true z = refl
null_slot false z = refl

number_slot : (v : Bool) (z : ℤ) → is_null (cond v (int z) null) ≡ false → cond v (int z) null ≡ int z
number_slot true z h = refl
number_slot false z h = cc

item_is : (t : IntType) (bytes : List ℕ) (s : Seen) (j : ℕ) → HasNumbers t bytes s → j < length s.items → get_or s.items j null ≡ cond (valid_at s j) (int (number_at t bytes j)) null
item_is t bytes s j has below = get_or_from_slice_get s.items j _ null (item_slot (λ j. int (number_at t bytes j)) s j has.numbers below)

pub TellsNulls-numbers : (t : IntType) (bytes : List ℕ) (s : Seen) → HasNumbers t bytes s → TellsNulls s
TellsNulls-numbers t bytes s has = λ j below. ap is_null (item_is t bytes s j has below) ∙ null_slot (valid_at s j) (number_at t bytes j)

-- an item that isn't null is the number at its place
Matches : IntType → List ℕ → List Item → ℕ → Type 0
Matches t values items j = is_null (get_or items j null) ≡ false → get_or items j null ≡ int (number_at t values j)

matched : (t : IntType) (values : List ℕ) (items : List Item) (j : ℕ) (x : Item) (z : ℤ) → get_or items j null ≡ x → number_at t values j ≡ z → (is_null x ≡ false → x ≡ int z) → Matches t values items j
unfolding Matches
matched t values items j x z at is h = λ there. at ∙ h (sym (ap is_null at) ∙ there) ∙ ap int (sym is)

pub AreNumbersOf-more : (t : IntType) (items : List Item) (s : Seen) (values numbers longer : List ℕ) → AreNumbersOf t items values → HasNumbers t numbers s → longer ≡ values ++ numbers
    → AreNumbersOf t (items ++ s.items) longer
unfolding Matches
AreNumbersOf-more t items s values numbers longer are has grows = record {
  size =
      ap length grows
      ∙ length-append values numbers
      ∙ more_slots (length items) (length s.items) (bytes_of t.bits) (length values) (length numbers) are.size has.size
      ∙ ap (λ n. n * bytes_of t.bits) (sym (length-append items s.items));
  numbers =
      λ j below.
      elim (cases_lt j (length items)) [
        | inl low ↦ (
            matched t longer (items ++ s.items) j (get_or items j null) (number_at t values j) (get_or_append_left items s.items null j low)
            (ap (λ v. number_at t v j) grows ∙ number_at-append-front t values numbers j (fits j low)) (are.numbers j low))
        | inr high ↦ past j (j - length items) (omega (arith, high)) (omega (arith, high, below, length-append items s.items))
      ];
}
  where
    fits : (j : ℕ) → j < length items → j * bytes_of t.bits + bytes_of t.bits ≤ length values
    fits j low = subst (λ m. j * bytes_of t.bits + bytes_of t.bits ≤ m) (sym are.size) (row_fits j (bytes_of t.bits) (length items) (bytes_of t.bits) low (omega arith))

    past : (j i : ℕ) → length items + i ≡ j → i < length s.items → Matches t longer (items ++ s.items) j
    past j i at below =
        matched t longer (items ++ s.items) j (cond (valid_at s i) (int (number_at t numbers i)) null) (number_at t numbers i)
        (ap (λ j. get_or (items ++ s.items) j null) (sym at) ∙ get_or-append-add items s.items i null ∙ item_is t numbers s i has below)
        (ap (number_at t longer) (sym at) ∙ ap (λ v. number_at t v (length items + i)) grows ∙ number_at-append-past t values numbers (length items) i (sym are.size))
        (number_slot (valid_at s i) (number_at t numbers i))

-- ---- the validity

valid_bits : Seen → List Bool
valid_bits s = map (valid_at s) (range_with_len 0 (length s.items))

there : Item → Bool
there x = not (is_null x)

not-not : (b : Bool) → not (not b) ≡ b
not-not true = refl
not-not false = refl

reported_bits : (s : Seen) → TellsNulls s → map there s.items ≡ valid_bits s
unfolding there valid_bits
reported_bits s tells =
    sym (by_place there s.items (valid_at s) null (λ j below. sym (ap not (tells j below) ∙ not-not (valid_at s j))))

-- where the validity tells the nulls, it is that of the items
pub joined_valid-reported : (columns : List Seen) → All TellsNulls columns → map (λ x. not (is_null x)) (joined_items columns) ≡ joined_valid columns
unfolding there valid_bits
joined_valid-reported [] reported = refl
joined_valid-reported (s ∷ rest) reported =
    map-append there s.items (joined_items rest)
    ∙ ap (λ xs. xs ++ map there (joined_items rest)) (reported_bits s (reported 0 s (omega arith)))
    ∙ ap (λ xs. valid_bits s ++ xs) (joined_valid-reported rest (λ k d below. reported (suc k) d (omega (arith, below))))

pub length-joined_valid : (columns : List Seen) → length (joined_valid columns) ≡ length (joined_items columns)
unfolding valid_bits
length-joined_valid [] = refl
length-joined_valid (s ∷ rest) =
    length-append (valid_bits s) (joined_valid rest)
    ∙ ap (λ n. n + length (joined_valid rest)) (length-map-range_with_len (valid_at s) 0 (length s.items))
    ∙ ap (λ n. length s.items + n) (length-joined_valid rest)
    ∙ sym (length-append s.items (joined_items rest))

-- ---- the finished column

item_there : (x : Item) (z : ℤ) → (is_null x ≡ false → x ≡ int z) → cond (not (is_null x)) (int z) null ≡ x
item_there null z h = refl
item_there (int y) z h = sym (h refl)
item_there (item.boolean b) z h = sym (h refl)
item_there (item.text b) z h = sym (h refl)
item_there (item.list l) z h = sym (h refl)

pub numbers-joined : (t : IntType) (columns : List Seen) (n : ℕ) (values content : List ℕ) (validity : Option (List Bool)) (buffer : Option (List ℕ))
    → n ≡ length (joined_items columns) → All TellsNulls columns → validity ≡ kept (joined_valid columns) → IsBufferOf buffer validity → AreNumbersOf t (joined_items columns) values → content ≡ values
    → show_numbers t n buffer content ≡ shown (kind.int t) (joined_items columns)
unfolding there
numbers-joined t columns n values content validity buffer size reported is holds are same =
    let items = joined_items columns in
    let valid = map there items in
    let value : ℕ → Item = λ j. int (number_at t values j) in
    let m : length valid ≡ length items = length-map items there in
    let each : (j : ℕ) → j < length items → slot value valid j ≡ get_or items j null =
    λ j below.
    ap (λ b. cond b (value j) null) (get_or-map there items j null false below)
    ∙ item_there (get_or items j null) (number_at t values j) (are.numbers j below) in
    slots_shown (kind.int t) value (λ j. int (number_at t content j)) n valid validity buffer (size ∙ sym m) (is ∙ ap kept (sym (joined_valid-reported columns reported))) holds (λ j. refl)
    (λ j below. ap (λ b. int (number_at t b j)) same)
    ∙ ap (λ k. shown (kind.int t) (map (slot value valid) (range_with_len 0 k))) m
    ∙ ap (shown (kind.int t)) (by_place (λ x. x) items (slot value valid) null each ∙ map-id items)

-- ---- without a validity

valid_without : (s : Seen) (v : Option (List Bool)) → s.validity ≡ v → not (is_some v) ≡ true → (j : ℕ) → valid_at s j ≡ true
valid_without s None is none j = ap (λ v. Rattle.arrays.specs.Seen.valid_in v j) is
valid_without s (Some bits) is none j = cc

ones_without : (s : Seen) → not (is_some s.validity) ≡ true → All (λ b. b ≡ true) (map (valid_at s) (range_with_len 0 (length s.items)))
ones_without s none = λ j d below.
    let within : j < length s.items = omega (arith, below, length-map-range_with_len (valid_at s) 0 (length s.items)) in
    get_or-map-range_with_len (valid_at s) 0 (length s.items) j j d within (zero-add j) ∙ valid_without s s.validity refl none j

pub ones-joined : (columns : List Seen) → All (λ (s : Seen). not (is_some s.validity) ≡ true) columns → All (λ b. b ≡ true) (joined_valid columns)
ones-joined [] all = λ j d below. absurd (omega (arith, below))
ones-joined (s ∷ rest) all =
    All-append (λ b. b ≡ true) (map (valid_at s) (range_with_len 0 (length s.items))) (joined_valid rest) (ones_without s (all 0 s (omega arith)))
    (ones-joined rest (λ k d below. all (suc k) d (omega (arith, below))))

pub kept-joined-none : (columns : List Seen) → list_all (λ (s : Seen). not (is_some s.validity)) columns ≡ true → kept (joined_valid columns) ≡ None
kept-joined-none columns all = kept-ones (joined_valid columns) (ones-joined columns (AllPass-from_list_all (λ (s : Seen). not (is_some s.validity)) columns all))

-- ---- places

-- a place lies within its column
pub place-within : (columns : List Seen) (i k j : ℕ) (s : Seen) → IsPlace columns i k j → s ≡ get_or columns k s → j < length s.items
place-within columns i k j s is at =
    omega (arith, is.start, is.end, ap (λ (l : List Item). length l) (joined-more columns k s is.column at), length-append (joined_items (take k columns)) s.items)

-- so do the places behind it, as far as the column goes
pub place-behind : (columns : List Seen) (i k j m : ℕ) (s : Seen) → IsPlace columns i k j → s ≡ get_or columns k s → j + m < length s.items → IsPlace columns (i + m) k (j + m)
place-behind columns i k j m s is at below = record {
  column = is.column;
  start = omega (arith, is.start);
  end = omega (arith, below, is.start, ap (λ (l : List Item). length l) (joined-more columns k s is.column at), length-append (joined_items (take k columns)) s.items);
}

-- and what it says of its slot
pub valid-place : (columns : List Seen) (i k j : ℕ) (s : Seen) → IsPlace columns i k j → s ≡ get_or columns k s → get_or (joined_valid columns) i false ≡ valid_at s j
unfolding valid_bits
valid-place columns i k j s is at =
    let within = place-within columns i k j s is at in
    let sized : length (valid_bits s) ≡ length s.items = length-map-range_with_len (valid_at s) 0 (length s.items) in
    let here : j < length (valid_bits (get_or columns k s)) = subst (λ (c : Seen). j < length (valid_bits c)) at (omega (arith, within, sized)) in
    let place : length (joined_valid (take k columns)) + j ≡ i = omega (arith, is.start, length-joined_valid (take k columns)) in
    ap (λ n. get_or (joined_valid columns) n false) (sym place)
    ∙ get_or-flat_map valid_bits columns k j s false is.column here
    ∙ ap (λ (c : Seen). get_or (valid_bits c) j false) (sym at)
    ∙ get_or-map-range_with_len (valid_at s) 0 (length s.items) j j false within (zero-add j)

pub all-joined_valid : (columns : List Seen) (n : ℕ) → n ≡ length (joined_items columns) → map (λ i. get_or (joined_valid columns) i false) (range_with_len 0 n) ≡ joined_valid columns
all-joined_valid columns n size =
    ap (λ m. map (λ i. get_or (joined_valid columns) i false) (range_with_len 0 m)) (size ∙ sym (length-joined_valid columns))
    ∙ Rattle.arrays.proofs.BitLemmas.listed (joined_valid columns)
