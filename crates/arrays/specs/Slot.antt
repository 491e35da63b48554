-- What a slot holds, as an item: null for none.
use Rattle.std.specs.Prelude.{ℕ, ℤ, List, Bool, true, false, not, Option, Some, None, slice_index_or}
use Rattle.types.specs.declared.offset_width.OffsetWidth.TheVariants.{Narrow}
use Rattle.types.specs.Kind.{Kind, int, texts, lists, dict}
use Rattle.layout.specs.Item as item
use Rattle.layout.specs.Prelude.{Item, Seen, is_null, list_of, null}

-- The item at a place of a column.
abbrev pub item_at : List Item → ℕ → Item
item_at column i = slice_index_or column i null

-- A number.
abbrev pub item_of : Option ℤ → Item
item_of None = null
item_of (Some z) = item.int z

abbrev pub item_of_bool : Option Bool → Item
item_of_bool None = null
item_of_bool (Some b) = item.boolean b

-- A text by its bytes.
abbrev pub item_of_text : Option (List ℕ) → Item
item_of_text None = null
item_of_text (Some bytes) = item.text bytes

-- A list by the column of its items.
abbrev pub item_of_list : Option Seen → Item
item_of_list None = null
item_of_list (Some s) = item.list (list_of s.items)

-- Whether slot i holds an item: of a dictionary-encoded column, its code may be valid and name an entry that is null.
abbrev pub holds_at : Seen → ℕ → Bool
holds_at s i = not (is_null (item_at s.items i))

-- Whether the items are numbers.
abbrev pub is_int : Kind → Bool
is_int (int ty) = true
is_int k = false

-- Whether the items are texts.
abbrev pub is_text : Kind → Bool
is_text (texts w) = true
is_text dict = true
is_text k = false

-- Whether they are texts that a dictionary may hold: of 32-bit offsets, or of a dictionary already.
abbrev pub is_recodable : Kind → Bool
is_recodable (texts Narrow) = true
is_recodable dict = true
is_recodable k = false

-- Whether the items are lists.
abbrev pub is_list : Kind → Bool
is_list (lists w k) = true
is_list k = false
