-- How much texts and lists hold, added up.
use Rattle.std.proofs.Common.{◌≡◌, ◌∙◌, ℕ, zero, suc, ◌+◌, ◌-◌, ◌≤◌, ◌<◌, List, [], ◌∷◌, ◌++◌, length, drop, true, false, Option, None, Some, ap, refl, arith, length-append}
use Rattle.std.specs.Prelude.{IfNone, slice_get}
use Rattle.std.proofs.lemmas.Bool.{or_from, or_left, or_right}
use Rattle.std.proofs.lemmas.Grind.{flat_map-append}
use Rattle.std.proofs.lemmas.List.{append-nil}
use Rattle.std.proofs.lemmas.List.Sums.{sum_by-append}
use Rattle.arrays.specs.Prelude.{Item, Kind, Narrow, Wide, inner_items, is_past, is_too_big, item_kind, items_in, items_of, list, list_of, null, text_length}
use Rattle.arrays.specs.Kind as kind
use Rattle.arrays.proofs.ListLemmas.{items_of-list_of}
use Rattle.compaction.specs.Sizes.{levels, size_at}
use Rattle.arrays.proofs.CutLemmas.{past-more}
use Rattle.select.proofs.RestLemmas.{reported_next}

-- ---- what two columns hold, one behind the other

pub size-append : (k : Kind) (level : ℕ) (xs ys : List Item) → size_at k level (xs ++ ys) ≡ size_at k level xs + size_at k level ys
size-append (kind.int t) level xs ys = refl
size-append kind.boolean level xs ys = refl
size-append kind.dict level xs ys = refl
size-append (kind.texts Narrow) zero xs ys = sum_by-append text_length xs ys
size-append (kind.texts Narrow) (suc level) xs ys = refl
size-append (kind.texts Wide) level xs ys = refl
size-append (kind.lists w k) zero xs ys = ap (λ (l : List Item). length l) (flat_map-append items_in xs ys) ∙ length-append (inner_items xs) (inner_items ys)
size-append (kind.lists w k) (suc level) xs ys = ap (size_at k level) (flat_map-append items_in xs ys) ∙ size-append k level (inner_items xs) (inner_items ys)

-- with one item more, counted from the rest
pub size-rest : (k : Kind) (level : ℕ) (items : List Item) (i : ℕ) (x : Item) → slice_get items i ≡ Some x
    → size_at k level (drop i items) ≡ size_at k level (x ∷ []) + size_at k level (drop (i + 1) items)
size-rest k level items i x at = ap (size_at k level) (reported_next items i x at) ∙ size-append k level (x ∷ []) (drop (i + 1) items)

-- ---- all levels

-- what is past at a level is too big
pub too-big-at : (k : Kind) (level : ℕ) (items : List Item) → is_past (size_at k level items) ≡ true → is_too_big k items ≡ true
too-big-at (kind.int t) level items past = past
too-big-at kind.boolean level items past = past
too-big-at kind.dict level items past = past
too-big-at (kind.texts Narrow) zero items past = past
too-big-at (kind.texts Narrow) (suc level) items past = absurd cc
too-big-at (kind.texts Wide) level items past = absurd cc
too-big-at (kind.lists w k) zero items past = or_left (is_past (length (inner_items items))) (is_too_big k (inner_items items)) past
too-big-at (kind.lists w k) (suc level) items past = or_right (is_past (length (inner_items items))) (is_too_big k (inner_items items)) (too-big-at k level (inner_items items) past)

-- what is past at no level is not too big
pub fits-at-all : (k : Kind) (items : List Item) → ((level : ℕ) → level < levels k → is_past (size_at k level items) ≡ false) → is_too_big k items ≡ false
fits-at-all (kind.int t) items fits = refl
fits-at-all kind.boolean items fits = refl
fits-at-all kind.dict items fits = refl
fits-at-all (kind.texts Narrow) items fits = fits 0 (omega arith)
fits-at-all (kind.texts Wide) items fits = refl
fits-at-all (kind.lists w k) items fits =
    or_from (is_past (length (inner_items items))) (is_too_big k (inner_items items)) (fits 0 (omega arith))
    (fits-at-all k (inner_items items) (λ level below. fits (suc level) (omega (arith, below))))

-- ---- one item more

-- what is left, with an item less
pub size-less : (k : Kind) (level : ℕ) (items : List Item) (i : ℕ) (x : Item) (size more all : ℕ) → slice_get items i ≡ Some x → size + size_at k level (drop i items) ≡ all
    → more ≡ size + size_at k level (x ∷ []) → more + size_at k level (drop (i + 1) items) ≡ all
size-less k level items i x size more all at left sum = omega (arith, size-rest k level items i x at, left, sum)

-- a sum that is past with one item is so with all
pub past-with : (k : Kind) (level : ℕ) (items : List Item) (i : ℕ) (x : Item) (size all : ℕ) → slice_get items i ≡ Some x → size + size_at k level (drop i items) ≡ all
    → is_past (size + size_at k level (x ∷ [])) ≡ true → is_past all ≡ true
past-with k level items i x size all at left past = past-more (size + size_at k level (x ∷ [])) all (omega (arith, size-rest k level items i x at, left)) past

-- what one list holds
pub list-size : (xs : List Item) → length (inner_items (list (list_of xs) ∷ [])) ≡ length xs
list-size xs = ap (λ (l : List Item). length l) (append-nil (items_of (list_of xs)) ∙ items_of-list_of xs)

-- what the items of one list hold
pub inner-size : (k l : Kind) (level : ℕ) (xs : List Item) → item_kind l ≡ Some k → 1 ≤ level → size_at l level (list (list_of xs) ∷ []) ≡ size_at k (level - 1) xs
inner-size k (kind.int t) level xs is some = cc
inner-size k kind.boolean level xs is some = cc
inner-size k (kind.texts w) level xs is some = cc
inner-size k kind.dict level xs is some = cc
inner-size k (kind.lists w j) zero xs is some = absurd (omega (arith, some))
inner-size k (kind.lists w j) (suc level) xs is some =
    let same : j ≡ k = cc in
    ap (size_at j level) (append-nil (items_of (list_of xs)) ∙ items_of-list_of xs)
    ∙ ap (λ m. size_at m level xs) same
    ∙ ap (λ n. size_at k n xs) (let lower : level ≡ suc level - 1 = omega arith in lower)

pub size-none : (k : Kind) (level : ℕ) → size_at k level [] ≡ 0
size-none (kind.int t) level = refl
size-none kind.boolean level = refl
size-none kind.dict level = refl
size-none (kind.texts Narrow) zero = refl
size-none (kind.texts Narrow) (suc level) = refl
size-none (kind.texts Wide) level = refl
size-none (kind.lists w k) zero = refl
size-none (kind.lists w k) (suc level) = size-none k level

-- a null holds nothing
pub null-size : (k : Kind) (level : ℕ) → size_at k level (null ∷ []) ≡ 0
null-size (kind.int t) level = refl
null-size kind.boolean level = refl
null-size kind.dict level = refl
null-size (kind.texts Narrow) zero = refl
null-size (kind.texts Narrow) (suc level) = refl
null-size (kind.texts Wide) level = refl
null-size (kind.lists w k) zero = refl
null-size (kind.lists w k) (suc level) = size-none k level

pub if-none : {A : Type 0} (o : Option A) (P : Type 0) → P → IfNone o P
if-none None P h = h
if-none (Some x) P h = tt
