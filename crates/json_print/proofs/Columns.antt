-- What is known of the items of a column and of its lists.
use Rattle.std.proofs.Common.{◌≡◌, ◌∙◌, ◌+◌, ◌<◌, ◌^◌, List, [], ◌∷◌, ◌++◌, length, false, refl, sym, ap₂, length-append, arith}
use Rattle.std.specs.Prelude.{sum_by}
use Rattle.std.specs.List.{AllByRecursion}
use Rattle.std.proofs.lemmas.List.Sums.{sum_by-cons}
use Rattle.std.proofs.lemmas.Bool.{or_parts}
use Rattle.arrays.specs.Prelude.{AreItemsOf, IsItemOf, Item, Items, Kind, OffsetWidth, inner_items, is_past, is_too_big, items_in, items_of, text_bytes, text_length}
use Rattle.arrays.specs.Item as column
use Rattle.arrays.specs.Kind as kind
use Rattle.arrays.proofs.SizeLemmas.{small}
use Rattle.json_print.specs.ColumnData.{item_length}

-- ---- lengths

text_size : (w : OffsetWidth) (x : Item) → IsItemOf (kind.texts w) x → item_length x ≡ text_length x
text_size w column.null h = refl
text_size w (column.int z) h = absurd h
text_size w (column.boolean b) h = absurd h
text_size w (column.text t) h = refl
text_size w (column.list l) h = absurd h

-- How many bytes texts have.
pub text_sizes : (w : OffsetWidth) (items : List Item) → AllByRecursion (IsItemOf (kind.texts w)) items → sum_by item_length items ≡ text_bytes items
text_sizes w [] h = refl
text_sizes w (x ∷ xs) h = sum_by-cons item_length x xs ∙ ap₂ (λ a b. a + b) (text_size w x h.0) (text_sizes w xs h.1) ∙ sym (sum_by-cons text_length x xs)

pub list_size : (w : OffsetWidth) (k : Kind) (x : Item) → IsItemOf (kind.lists w k) x → item_length x ≡ length (items_in x)
list_size w k column.null h = refl
list_size w k (column.int z) h = absurd h
list_size w k (column.boolean b) h = absurd h
list_size w k (column.text t) h = absurd h
list_size w k (column.list l) h = refl

-- How many items lists have.
pub list_sizes : (w : OffsetWidth) (k : Kind) (items : List Item) → AllByRecursion (IsItemOf (kind.lists w k)) items → sum_by item_length items ≡ length (inner_items items)
list_sizes w k [] h = refl
list_sizes w k (x ∷ xs) h =
    sum_by-cons item_length x xs ∙ ap₂ (λ a b. a + b) (list_size w k x h.0) (list_sizes w k xs h.1) ∙ sym (length-append (items_in x) (inner_items xs))

-- ---- the items of lists are of the inner kind

pub joined : {X : Type 0} (P : X → Type 0) (xs ys : List X) → AllByRecursion P xs → AllByRecursion P ys → AllByRecursion P (xs ++ ys)
joined P [] ys h g = g
joined P (x ∷ xs) ys h g = (h.0, joined P xs ys h.1 g)

items_typed : (k : Kind) (l : Items) → AreItemsOf k l → AllByRecursion (IsItemOf k) (items_of l)
items_typed k column.none h = tt
items_typed k (column.more x l) h = (h.0, items_typed k l h.1)

list_typed : (w : OffsetWidth) (k : Kind) (x : Item) → IsItemOf (kind.lists w k) x → AllByRecursion (IsItemOf k) (items_in x)
list_typed w k column.null h = tt
list_typed w k (column.int z) h = absurd h
list_typed w k (column.boolean b) h = absurd h
list_typed w k (column.text t) h = absurd h
list_typed w k (column.list l) h = items_typed k l h

pub inner_typed : (w : OffsetWidth) (k : Kind) (items : List Item) → AllByRecursion (IsItemOf (kind.lists w k)) items → AllByRecursion (IsItemOf k) (inner_items items)
inner_typed w k [] h = tt
inner_typed w k (x ∷ xs) h = joined (IsItemOf k) (items_in x) (inner_items xs) (list_typed w k x h.0) (inner_typed w k xs h.1)

-- ---- what offsets count

-- The items of lists are few where the lists are, and so are those inside.
pub inner_few : (w : OffsetWidth) (k : Kind) (items : List Item) → is_too_big (kind.lists w k) items ≡ false → (length (inner_items items) < 2 ^ 31) × (is_too_big k (inner_items items) ≡ false)
inner_few w k items few =
    let parts = or_parts (is_past (length (inner_items items))) (is_too_big k (inner_items items)) few in
    (omega (arith, small (length (inner_items items)) parts.0), parts.1)
