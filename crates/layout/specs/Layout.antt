-- What the bytes of an array mean (Arrow columnar format, "Physical memory layout").
use Rattle.std.specs.Prelude.{ℕ, ℤ, List, [], map, Bool, true, if◌then◌else◌, Option, Some, None, option_map, unwrap_or, slice_get, slice_index_or}
use Rattle.std.specs.List.{range_with_len}
use Rattle.colbits.specs.Bit.{bit, bits}
use Rattle.types.specs.declared.offset_width.OffsetWidth.{OffsetWidth}
use Rattle.types.specs.Prelude.{Kind, boolean, dict, int, int32, lists, natural, number_at, offset_type, texts}
use Rattle.layout.specs.Offsets.{slot_at}
use Rattle.layout.specs.Item as item
use Rattle.layout.specs.Item.{Item}

-- The buffers of an array by position: the validity first, then as its layout says.
abbrev pub Buffers : Type 0
Buffers = List (Option (List ℕ))

-- The buffer at a position, or none where the position is missing or holds none.
abbrev pub buffer_at : Buffers → ℕ → Option (List ℕ)
buffer_at buffers k = unwrap_or (slice_get buffers k) None

-- The bytes at a position, none where there is no buffer.
abbrev pub bytes_at : Buffers → ℕ → List ℕ
bytes_at buffers k = unwrap_or (buffer_at buffers k) []

-- Offset j of a text or list array. Bytes that aren't there read as 0, so that at length 0 no bytes stand for the one offset 0.
abbrev pub offset_at : OffsetWidth → Buffers → ℕ → ℤ
offset_at w buffers j = number_at (offset_type w) (bytes_at buffers 1) j

-- Whether slot j is valid: its bit is 1, or there is no bitmap. ("Validity bitmaps")
abbrev pub is_valid_in : Option (List ℕ) → ℕ → Bool
is_valid_in None j = true
is_valid_in (Some bytes) j = bit bytes j

abbrev pub is_valid : Buffers → ℕ → Bool
is_valid buffers = is_valid_in (buffer_at buffers 0)

-- The validity of n slots, none where the bitmap is absent.
abbrev pub validity_of : ℕ → Buffers → Option (List Bool)
validity_of n buffers = option_map (λ bytes. bits bytes 0 n) (buffer_at buffers 0)

-- The code of slot j of a dictionary-encoded array. ("Dictionary-encoded layout")
abbrev pub code_at : Buffers → ℕ → ℤ
code_at buffers j = number_at int32 (bytes_at buffers 1) j

-- What slot j holds if it is valid, where the child's items and the dictionary's entries are these.
abbrev pub value_at : Kind → Buffers → List Item → List Item → ℕ → Item
value_at (int t) buffers child entries j = item.int (number_at t (bytes_at buffers 1) j)
value_at boolean buffers child entries j = item.boolean (bit (bytes_at buffers 1) j)
value_at (texts w) buffers child entries j = item.text (slot_at w (bytes_at buffers 1) (bytes_at buffers 2) j)
value_at (lists w k) buffers child entries j = item.list (item.list_of (slot_at w (bytes_at buffers 1) child j))
value_at dict buffers child entries j = slice_index_or entries (natural (code_at buffers j)) item.null

-- An item for each slot: null where the slot isn't valid.
unfoldable pub column : Kind → ℕ → Buffers → List Item → List Item → List Item
column k n buffers child entries =
    map (λ j. if is_valid buffers j then value_at k buffers child entries j else item.null) (range_with_len 0 n)

-- The codes of a dictionary-encoded array, null where the slot isn't valid.
unfoldable pub codes : ℕ → Buffers → List Item
codes n buffers = column (int int32) n buffers [] []
