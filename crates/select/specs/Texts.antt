-- Texts one after the other.
use Rattle.std.specs.Prelude.{◌≡◌, ℕ, List, [], Bool, length, map, flat_map, not, Option, Some, None}
use Rattle.arrays.specs.Prelude.{AreFresh, Item, OffsetWidth, is_null, lengths_where, text}

-- Whether a slot holds an item.
abbrev pub is_valid : Item → Bool
is_valid x = not (is_null x)

-- How long a text is, none of what is no text.
abbrev pub text_size : Item → Option ℕ
text_size (text t) = Some (length t)
text_size x = None

-- The bytes of a text, none of what is no text.
abbrev pub bytes_in : Item → List ℕ
bytes_in (text t) = t
bytes_in x = []

-- The bytes of all texts.
abbrev pub all_bytes : List Item → List ℕ
all_bytes items = flat_map bytes_in items

-- The offsets are those of the texts, the last of them is `end`, and a null is empty.
pub record AreOffsetsOf (w : OffsetWidth) (items : List Item) (offsets : List ℕ) (end : ℕ) : Type 0 where
  pub fresh : AreFresh w (map is_valid items) offsets end
  pub sizes : lengths_where w (map is_valid items) offsets ≡ map text_size items
