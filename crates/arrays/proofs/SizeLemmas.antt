-- Offsets count what lies in a column: slots that are cut one after the other hold no more than what they are cut from.
use Rattle.std.proofs.Common.{◌≡◌, ◌∙◌, ℕ, zero, suc, ◌+◌, ◌<◌, ◌≤◌, ◌||◌, List, [], ◌∷◌, length, take, drop, map, Bool, true, false, Some, cond, ap, refl, arith}
use Rattle.std.specs.Prelude.{flat_map, sum_by}
use Rattle.std.specs.List.{range_with_len}
use Rattle.std.proofs.lemmas.Bool.Decides.{nat_tests}
use Rattle.std.proofs.lemmas.List.{length-take}
use Rattle.std.proofs.lemmas.List.Concat.{length-flat_map}
use Rattle.std.proofs.lemmas.List.FromFn.{sum_by-map-range_with_len_more}
use Rattle.std.proofs.lemmas.List.Sums.{sum_by-append, sum_by-cons, sum_by-take-le}
use Rattle.std.proofs.Math.Seq.{take-add}
use Rattle.std.proofs.lemmas.Bool.{or_parts}
use Rattle.types.specs.declared.offset_width.OffsetWidth.{OffsetWidth}
use Rattle.types.specs.declared.offset_width.OffsetWidth.TheVariants.{Narrow, Wide}
use Rattle.types.specs.Prelude.{Kind, item_kind, most_of, most_slots}
use Rattle.types.specs.Kind as kind
use Rattle.layout.specs.Prelude.{Item, Seen, length_of, list, list_of, null, of_slot, start_of, text, valid_at}
use Rattle.arrays.specs.Prelude.{HasLists, HasTexts, inner_items, is_past, is_too_big, items_in, text_bytes, text_length}
use Rattle.arrays.proofs.ListLemmas.{items_of-list_of}

not_past : (n : ℕ) → n ≤ most_slots → is_past n ≡ false
not_past n le = grind (arith, nat_tests)

pub small : (n : ℕ) → is_past n ≡ false → n ≤ most_slots
small n h = grind (arith, nat_tests)

-- ---- items that weigh no more, however they are weighed

abbrev IsLighter : List Item → List Item → Type 0
IsLighter xs ys = (weight : Item → ℕ) → sum_by weight xs ≤ sum_by weight ys

pub sum_by-flat_map : {A B : Type 0} (weight : B → ℕ) (f : A → List B) (xs : List A) → sum_by weight (flat_map f xs) ≡ sum_by (λ x. sum_by weight (f x)) xs
sum_by-flat_map weight f [] = refl
sum_by-flat_map weight f (x ∷ xs) =
    omega (arith, sum_by-append weight (f x) (flat_map f xs), sum_by-flat_map weight f xs, sum_by-cons (λ y. sum_by weight (f y)) x xs)

sum_by-one : (xs : List Item) → sum_by (λ x. 1) xs ≡ length xs
sum_by-one [] = refl
sum_by-one (x ∷ xs) = omega (arith, sum_by-cons (λ (y : Item). 1) x xs, sum_by-one xs)

-- lighter items are not too big where the others aren't
lighter-fits : (k : Kind) (xs ys : List Item) → IsLighter xs ys → is_too_big k ys ≡ false → is_too_big k xs ≡ false
lighter-fits (kind.int t) xs ys less fits = refl
lighter-fits kind.boolean xs ys less fits = refl
lighter-fits kind.dict xs ys less fits = refl
lighter-fits (kind.texts Narrow) xs ys less fits = not_past (text_bytes xs) (omega (arith, less text_length, small (text_bytes ys) fits))
lighter-fits (kind.texts Wide) xs ys less fits = refl
lighter-fits (kind.lists w k) xs ys less fits =
    let parts = or_parts (is_past (length (inner_items ys))) (is_too_big k (inner_items ys)) fits in
    let few : length (inner_items xs) ≤ most_slots =
    omega (arith, length-flat_map items_in xs, length-flat_map items_in ys, less (λ x. length (items_in x)), small (length (inner_items ys)) parts.0) in
    ap (λ b. b || is_too_big k (inner_items xs)) (not_past (length (inner_items xs)) few)
    ∙ lighter-fits k (inner_items xs) (inner_items ys)
    (λ weight. omega (arith, sum_by-flat_map weight items_in xs, sum_by-flat_map weight items_in ys, less (λ x. sum_by weight (items_in x)))) parts.1

-- what stands before a slot grows by at least the slot's weight
slots_weigh : (weight : Item → ℕ) (item : ℕ → Item) (before : ℕ → ℕ) (n : ℕ) → ((j : ℕ) → j < n → before j + weight (item j) ≤ before (j + 1))
    → sum_by weight (map item (range_with_len 0 n)) ≤ before n
slots_weigh weight item before zero each = omega arith
slots_weigh weight item before (suc n) each =
    let one : suc n ≡ n + 1 = omega arith in
    omega (
      arith,
      ap (λ m. sum_by weight (map item (range_with_len 0 m))) one,
      sum_by-map-range_with_len_more weight item 0 n n (omega arith),
      each n (omega arith),
      ap before one,
      slots_weigh weight item before n (λ j below. each j (omega (arith, below))),
    )

-- ---- lists

list_weighs : (weight : Item → ℕ) (valid : Bool) (xs : List Item) → sum_by weight (items_in (cond valid (list (list_of xs)) null)) ≤ sum_by weight xs
list_weighs weight true xs = omega (arith, ap (sum_by weight) (items_of-list_of xs))
list_weighs weight false xs = omega arith

-- the values up to the next slot are those up to this one, and its own
next_slot : (weight : Item → ℕ) (offsets : List ℕ) (values : List Item) (j : ℕ) → start_of offsets j ≤ start_of offsets (j + 1)
    → sum_by weight (take (start_of offsets (j + 1)) values) ≡ sum_by weight (take (start_of offsets j) values) + sum_by weight (of_slot offsets values j)
next_slot weight offsets values j rises =
    let whole : start_of offsets (j + 1) ≡ start_of offsets j + length_of offsets j = omega arith in
    ap (λ n. sum_by weight (take n values)) whole ∙ ap (sum_by weight) (take-add (start_of offsets j) (length_of offsets j) values)
    ∙ sum_by-append weight (take (start_of offsets j) values) (of_slot offsets values j)

lists-lighter : (offsets : List ℕ) (child s : Seen) → HasLists offsets child s → IsLighter (inner_items s.items) child.items
lists-lighter offsets child s has weight =
    let item : ℕ → Item = λ j. cond (valid_at s j) (list (list_of (of_slot offsets child.items j))) null in
    let n = length s.items in
    omega (
      arith,
      sum_by-flat_map weight items_in s.items,
      ap (sum_by (λ x. sum_by weight (items_in x))) has.lists,
      slots_weigh (λ x. sum_by weight (items_in x)) item (λ j. sum_by weight (take (start_of offsets j) child.items)) n
          (λ j below. omega (arith, next_slot weight offsets child.items j (has.bounds.rising j below), list_weighs weight (valid_at s j) (of_slot offsets child.items j))),
      sum_by-take-le weight child.items (start_of offsets n),
    )

-- the lists of a column hold what lies in its child, or less
pub lists-fit : (offsets : List ℕ) (child s : Seen) → HasLists offsets child s → length child.items ≤ most_slots → is_too_big child.kind child.items ≡ false → is_too_big s.kind s.items ≡ false
lists-fit offsets child s has few fits = of_kind s.kind has.kind where
  of_kind : (k : Kind) → item_kind k ≡ Some child.kind → is_too_big k s.items ≡ false
  of_kind (kind.int t) is = cc
  of_kind kind.boolean is = cc
  of_kind (kind.texts w) is = cc
  of_kind kind.dict is = cc
  of_kind (kind.lists w k) is =
      let lighter = lists-lighter offsets child s has in
      let same : k ≡ child.kind = cc in
      ap (λ b. b || is_too_big k (inner_items s.items)) (not_past (length (inner_items s.items)) (omega (arith, lighter (λ x. 1), sum_by-one (inner_items s.items), sum_by-one child.items, few)))
      ∙ ap (λ j. is_too_big j (inner_items s.items)) same
      ∙ lighter-fits child.kind (inner_items s.items) child.items lighter fits

-- ---- texts

text_weighs : (valid : Bool) (bytes : List ℕ) → text_length (cond valid (text bytes) null) ≤ length bytes
text_weighs true bytes = omega arith
text_weighs false bytes = omega arith

-- the texts of a column are no more bytes than its last offset
pub texts-fit : (w : OffsetWidth) (offsets bytes : List ℕ) (s : Seen) → HasTexts offsets bytes s → start_of offsets (length s.items) ≤ most_of w → is_too_big (kind.texts w) s.items ≡ false
texts-fit Wide offsets bytes s has counts = refl
texts-fit Narrow offsets bytes s has counts =
    let n = length s.items in
    let item : ℕ → Item = λ j. cond (valid_at s j) (text (of_slot offsets bytes j)) null in
    let sizes = slots_weigh text_length item (start_of offsets) n
    (λ j below. omega (
      arith,
      text_weighs (valid_at s j) (of_slot offsets bytes j),
      length-take (length_of offsets j) (drop (start_of offsets j) bytes),
      has.bounds.rising j below,
    )) in
    not_past (text_bytes s.items) (omega (arith, ap text_bytes has.texts, sizes, counts))
