-- What lies in the buffers of a column, one value behind the other.
use Rattle.std.specs.Prelude.{◌≡◌, ℕ, ◌+◌, ◌*◌, ◌<◌, ◌≤◌, ℤ, List, Bool, true, false, Option, Some, None, map, length, if◌then◌else◌, slice_index_or}
use Rattle.std.specs.List.{range_with_len}
use Rattle.std.specs.Str.{IsUtf8}
use Rattle.types.specs.declared.int_type.IntType.{IntType}
use Rattle.types.specs.Prelude.{bytes_of, item_kind, number_at}
use Rattle.layout.specs.Prelude.{AreOffsets, Item, Seen, boolean, int, length_of, list, list_of, null, of_slot, start_of, text, valid_at, valid_in}
use Rattle.colbits.specs.Slice.{slice}
use Rattle.arrays.specs.declared.view.lists.Lists.{Lists}
use Rattle.arrays.specs.declared.view.texts.Texts.{Texts}

-- The items of n slots: these values where they are valid, else null.
abbrev pub items_where : (ℕ → Item) → Option (List Bool) → ℕ → List Item
items_where value validity n = map (λ j. if valid_in validity j then value j else null) (range_with_len 0 n)

-- The items are these values where the slot is valid, else null.
abbrev pub valid_values : (ℕ → Item) → Seen → List Item
valid_values value s = items_where value s.validity (length s.items)

-- ---- numbers

-- The number in slot i, none where the slot isn't valid.
abbrev pub number_in : IntType → List ℕ → Option (List Bool) → ℕ → Option ℤ
number_in t bytes validity i = if valid_in validity i then Some (number_at t bytes i) else None

-- The items of n slots of numbers.
abbrev pub number_items : IntType → List ℕ → Option (List Bool) → ℕ → List Item
number_items t bytes = items_where (λ j. int (number_at t bytes j))

-- The bytes have a number for each slot, and the items are these numbers where the slot is valid.
pub record HasNumbers (t : IntType) (bytes : List ℕ) (s : Seen) : Type 0 where
  pub size : length bytes ≡ length s.items * bytes_of t.bits
  pub numbers : s.items ≡ valid_values (λ j. int (number_at t bytes j)) s

-- ---- truth values

-- The truth value in slot i, none where the slot isn't valid.
abbrev pub bool_in : List Bool → Option (List Bool) → ℕ → Option Bool
bool_in bits validity i = if valid_in validity i then Some (slice_index_or bits i false) else None

-- The items of n slots of truth values.
abbrev pub bool_items : List Bool → Option (List Bool) → ℕ → List Item
bool_items bits = items_where (λ j. boolean (slice_index_or bits j false))

-- There is a bit for each slot, and the items are these bits where the slot is valid.
pub record HasBits (bits : List Bool) (s : Seen) : Type 0 where
  pub size : length bits ≡ length s.items
  pub values : s.items ≡ valid_values (λ j. boolean (slice_index_or bits j false)) s

-- ---- texts

-- The bytes of the text in slot i, none where the slot isn't valid.
abbrev pub text_in : List ℕ → List ℕ → Option (List Bool) → ℕ → Option (List ℕ)
text_in offsets bytes validity i = if valid_in validity i then Some (of_slot offsets bytes i) else None

-- The items of n slots of texts.
abbrev pub text_items : List ℕ → List ℕ → Option (List Bool) → ℕ → List Item
text_items offsets bytes = items_where (λ j. text (of_slot offsets bytes j))

-- The items of typed texts.
abbrev pub items_of_texts : Texts → List Item
items_of_texts t = text_items t.offsets t.bytes.now t.validity t.slots

-- The bytes from each offset to the next are the text of the slot where it is valid, and are UTF-8 there.
pub record HasTexts (offsets bytes : List ℕ) (s : Seen) : Type 0 where
  pub bounds : AreOffsets (length s.items) offsets (length bytes)
  pub texts : s.items ≡ valid_values (λ j. text (of_slot offsets bytes j)) s
  pub utf8 : (j : ℕ) → j < length s.items → valid_at s j ≡ true → IsUtf8 (of_slot offsets bytes j)

-- ---- lists

-- The places of a child that are the list in slot i: the first one, and how many. None where the slot isn't valid.
abbrev pub range_in : List ℕ → Option (List Bool) → ℕ → Option (ℕ × ℕ)
range_in offsets validity i = if valid_in validity i then Some (start_of offsets i, length_of offsets i) else None

-- The list of these places, null where there are none.
abbrev pub item_of_range : List Item → Option (ℕ × ℕ) → Item
item_of_range items None = null
item_of_range items (Some r) = list (list_of (slice items r.0 r.1))

-- The places are among the first n.
abbrev pub IsRange : ℕ → Option (ℕ × ℕ) → Type 0
IsRange n None = Unit {0}
IsRange n (Some r) = r.0 + r.1 ≤ n

-- The items of n slots of lists.
abbrev pub list_items : List ℕ → List Item → Option (List Bool) → ℕ → List Item
list_items offsets items = items_where (λ j. list (list_of (of_slot offsets items j)))

-- The items of typed lists.
abbrev pub items_of_lists : Lists → List Item
items_of_lists l = list_items l.offsets l.child.items l.validity l.slots

-- The child's slots from each offset to the next are the list of the slot where it is valid.
pub record HasLists (offsets : List ℕ) (child s : Seen) : Type 0 where
  pub kind : item_kind s.kind ≡ Some child.kind
  pub bounds : AreOffsets (length s.items) offsets (length child.items)
  pub lists : s.items ≡ valid_values (λ j. list (list_of (of_slot offsets child.items j))) s
