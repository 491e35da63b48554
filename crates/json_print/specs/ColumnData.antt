-- The columns of a file as values. (Arrow integration testing, "JSON test data format", RecordBatch and FieldData)
use Rattle.std.specs.Prelude.{ℕ, ◌+◌, ℤ, pos, List, [], ◌∷◌, codes, length, Bool, true, false, not}
use Rattle.std.specs.Fmt.{signed_decimal}
use Rattle.arrays.specs.Prelude.{FieldShape, IntType, Item, OffsetWidth, Shape, W16, W32, W64, W8, Width, dict, field, inner_items, is_null, items_of, lists, offset_type, texts}
use Rattle.arrays.specs.Item as column
use Rattle.arrays.specs.Shape.{int, boolean}
use Rattle.json_base.specs.Prelude.{Data, Items, Members, array, item, member, no_items, no_members, number, object, of_integer, string}
use Rattle.json_print.specs.Written.{natural}

-- ---- what stands for a slot: 0 and "" for null

abbrev pub whole_data : ℤ → Data
whole_data z = number (of_integer z)

-- A number: one of 64 bits is a string.
abbrev pub int_data : Width → ℤ → Data
int_data W8 z = whole_data z
int_data W16 z = whole_data z
int_data W32 z = whole_data z
int_data W64 z = string (signed_decimal z)

abbrev pub number_data : IntType → Item → Data
number_data t (column.int z) = int_data t.bits z
number_data t x = int_data t.bits (pos 0)

abbrev pub flag_data : Bool → Data
flag_data false = natural 0
flag_data true = natural 1

abbrev pub truth_data : Item → Data
truth_data (column.boolean b) = flag_data b
truth_data x = flag_data false

abbrev pub text_data : Item → Data
text_data (column.text bytes) = string bytes
text_data x = string []

-- The code of a text.
abbrev pub code_data : (List ℕ → ℕ) → Item → Data
code_data code (column.text bytes) = natural (code bytes)
code_data code x = natural 0

-- Whether there is an item.
abbrev pub valid_data : Item → Data
valid_data x = flag_data (not (is_null x))

-- A value for each slot.
abbrev pub each : (Item → Data) → List Item → Items
each value [] = no_items
each value (x ∷ xs) = item (value x) (each value xs)

-- ---- offsets

-- How many bytes a text has, and how many items a list, none a null.
abbrev pub item_length : Item → ℕ
item_length (column.text bytes) = length bytes
item_length (column.list xs) = length (items_of xs)
item_length x = 0

-- An offset: one of 64 bits is a string, as such a number is.
abbrev pub offset_data : OffsetWidth → ℕ → Data
offset_data w n = int_data (offset_type w).bits (pos n)

-- Where each slot begins, one behind the other, and where the last one ends.
abbrev pub offsets_data : OffsetWidth → ℕ → List Item → Items
offsets_data w start [] = item (offset_data w start) no_items
offsets_data w start (x ∷ xs) = item (offset_data w start) (offsets_data w (start + item_length x) xs)

-- ---- columns

-- How many slots a column has, and its name, with which each column ends.
abbrev pub sized : ℕ → List ℕ → Members
sized n name = member (codes "count") (natural n) (member (codes "name") (string name) no_members)

abbrev pub flags : List Item → Data
flags items = array (each valid_data items)

abbrev pub offsets : OffsetWidth → List Item → Data
offsets w items = array (offsets_data w 0 items)

-- A column with a value for each slot.
abbrev pub plain_column : (Item → Data) → List ℕ → List Item → Data
plain_column value name items = object (member (codes "DATA") (array (each value items)) (member (codes "VALIDITY") (flags items) (sized (length items) name)))

-- One of texts, whose offsets are of this width.
abbrev pub text_column : OffsetWidth → List ℕ → List Item → Data
text_column w name items = object (member (codes "DATA") (array (each text_data items)) (member (codes "OFFSET") (offsets w items) (member (codes "VALIDITY") (flags items) (sized (length items) name))))

-- An array of one.
abbrev pub only : Data → Data
only d = array (item d no_items)

-- One of lists, over the column of their items.
abbrev pub list_column : OffsetWidth → Data → List ℕ → List Item → Data
list_column w child name items =
    object (member (codes "OFFSET") (offsets w items) (member (codes "VALIDITY") (flags items) (member (codes "children") (only child) (sized (length items) name))))

-- The column of a field: its items alone decide. The items of a list column's child are those of the lists that are there, one list
-- behind the other. A dictionary-encoded column has the codes of its texts.
abbrev mutual
  pub column_data : (List ℕ → ℕ) → FieldShape → List Item → Data
  column_data code (field name nullable ty) items = shaped_column code ty name items

  pub shaped_column : (List ℕ → ℕ) → Shape → List ℕ → List Item → Data
  shaped_column code (int t) name items = plain_column (number_data t) name items
  shaped_column code boolean name items = plain_column truth_data name items
  shaped_column code (texts w) name items = text_column w name items
  shaped_column code (lists w f) name items = list_column w (column_data code f (inner_items items)) name items
  shaped_column code dict name items = plain_column (code_data code) name items
