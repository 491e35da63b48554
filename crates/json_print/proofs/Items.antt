-- The items of lists.
use Rattle.std.proofs.Common.{◌≡◌, ◌∙◌, ℕ, List, [], ◌∷◌, ◌++◌, Some, None, length, get_or, ap, append-nil}
use Rattle.std.proofs.lemmas.Option.{get_or_from_slice_get}
use Rattle.std.proofs.lemmas.List.Concat.{flat_map-append}
use Rattle.std.specs.Prelude.{slice_get}
use Rattle.arrays.specs.Prelude.{Item, Seen, item_of_list, items_in, joined_items, null}
use Rattle.arrays.proofs.ListLemmas.{items_of-list_of}
use Rattle.json_print.specs.ColumnData.{item_length}

-- How long a list is that is there, and one that isn't.
pub item_length-list : (items : List Item) (i : ℕ) (s : Seen) → slice_get items i ≡ Some (item_of_list (Some s)) → item_length (get_or items i null) ≡ length s.items
item_length-list items i s is = ap item_length (get_or_from_slice_get items i _ null is) ∙ ap length (items_of-list_of s.items)

pub item_length-none : (items : List Item) (i : ℕ) → slice_get items i ≡ Some (item_of_list None) → item_length (get_or items i null) ≡ 0
item_length-none items i is = ap item_length (get_or_from_slice_get items i _ null is)

-- The items of a list that is there, and of one that isn't.
pub items_in-list : (items : List Item) (i : ℕ) (s : Seen) → slice_get items i ≡ Some (item_of_list (Some s)) → items_in (get_or items i null) ≡ s.items
items_in-list items i s is = ap items_in (get_or_from_slice_get items i _ null is) ∙ items_of-list_of s.items

pub items_in-none : (items : List Item) (i : ℕ) → slice_get items i ≡ Some (item_of_list None) → items_in (get_or items i null) ≡ []
items_in-none items i is = ap items_in (get_or_from_slice_get items i _ null is)

-- One more column.
pub joined-push : (columns : List Seen) (c : Seen) → joined_items (columns ++ c ∷ []) ≡ joined_items columns ++ c.items
joined-push columns c = flat_map-append (λ (s : Seen). s.items) columns (c ∷ []) ∙ ap (λ xs. joined_items columns ++ xs) (append-nil c.items)
