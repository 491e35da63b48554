-- The faults of an array's parts, in their order.
use Rattle.std.specs.Prelude.{ℕ, ◌+◌, ◌-◌, ◌*◌, ◌/◌, ◌&&◌, ◌||◌, ◌==◌, pos, int_lt, List, [], ◌∷◌, ◌++◌, take, drop, length, Bool, true, false, not, nat_lt, Option, Some, None, option_map, is_none, position, count_by}
use Rattle.std.specs.List.{range_with_len, list_any}
use Rattle.std.specs.Str.{is_utf8}
use Rattle.std.specs.Bool.{then_some}
use Rattle.types.specs.Prelude.{Kind, boolean, bytes_of, depth, dict, first, int, is_negative, lists, most_slots, same_kind, size_of, texts, utf8}
use Rattle.types.specs.declared.offset_width.OffsetWidth.{OffsetWidth}
use Rattle.layout.specs.Layout.{Buffers, buffer_at, bytes_at, is_valid, offset_at, code_at}
use Rattle.layout.specs.Offsets.{slot_at, start_at}
use Rattle.layout.specs.declared.fault.LayoutFault.{LayoutFault}
use Rattle.layout.specs.declared.fault.LayoutFault.TheVariants.{MissingBuffer, ExtraBuffer, BufferTooShort, OffsetNegative, OffsetDecreases, OffsetPastEnd, NullCountDiffers, NotUtf8, IndexPastDictionary, ChildDiffers, TooLong, TooDeep}

-- What an array knows of its child and of its dictionary.
pub record Inner : Type 0 where
  pub kind : Kind
  pub length : ℕ

-- ---- buffers

-- How many positions the layout has.
abbrev pub positions : Kind → ℕ
positions (texts w) = 3
positions k = 2

-- A position is missing, or holds none and isn't the validity.
abbrev pub is_missing : Kind → Buffers → Bool
is_missing k buffers = nat_lt (length buffers) (positions k) || list_any is_none (take (positions k - 1) (drop 1 buffers))

-- How many bytes hold n bits.
abbrev pub bytes_for : ℕ → ℕ
bytes_for n = (n + 7) / 8

-- The offsets of n slots are one more, save that none may stand for the one offset 0.
abbrev pub are_offsets_short : OffsetWidth → ℕ → List ℕ → Bool
are_offsets_short w n offsets = nat_lt (length offsets) ((n + 1) * size_of w) && not ((n == 0) && (length offsets == 0))

-- The bytes behind the validity are fewer than n slots need.
abbrev pub is_data_short : Kind → ℕ → Buffers → Bool
is_data_short (int t) n buffers = nat_lt (length (bytes_at buffers 1)) (n * bytes_of t.bits)
is_data_short boolean n buffers = nat_lt (length (bytes_at buffers 1)) (bytes_for n)
is_data_short (texts w) n buffers = are_offsets_short w n (bytes_at buffers 1)
is_data_short (lists w k) n buffers = are_offsets_short w n (bytes_at buffers 1)
is_data_short dict n buffers = nat_lt (length (bytes_at buffers 1)) (n * 4)

abbrev pub is_validity_short : ℕ → Option (List ℕ) → Bool
is_validity_short n None = false
is_validity_short n (Some bytes) = nat_lt (length bytes) (bytes_for n)

-- ---- children and dictionary

abbrev pub is_no_child : Kind → List Inner → Bool
is_no_child k [] = true
is_no_child k (c ∷ []) = not (same_kind k c.kind) || same_kind k dict
is_no_child k (c ∷ d ∷ cs) = true

abbrev pub is_no_dictionary : Option Inner → Bool
is_no_dictionary None = true
is_no_dictionary (Some d) = not (same_kind d.kind utf8)

abbrev pub do_parts_differ : Kind → List Inner → Option Inner → Bool
do_parts_differ (lists w k) children dictionary = is_no_child k children || not (is_none dictionary)
do_parts_differ dict children dictionary = not (length children == 0) || is_no_dictionary dictionary
do_parts_differ k children dictionary = not (length children == 0) || not (is_none dictionary)

-- ---- offsets

-- Some offset of n slots is below 0.
abbrev pub is_some_negative : OffsetWidth → ℕ → Buffers → Bool
is_some_negative w n buffers = list_any (λ j. is_negative (offset_at w buffers j)) (range_with_len 0 (n + 1))

abbrev pub has_negative_offset : Kind → ℕ → Buffers → Bool
has_negative_offset (texts w) n buffers = is_some_negative w n buffers
has_negative_offset (lists w k) n buffers = is_some_negative w n buffers
has_negative_offset k n buffers = false

-- The least of n rows that passes.
abbrev pub least_row : (ℕ → Bool) → ℕ → Option ℕ
least_row test n = position test (range_with_len 0 n)

-- The least of n slots that ends before it begins.
abbrev pub least_decreasing : OffsetWidth → ℕ → Buffers → Option ℕ
least_decreasing w n buffers = least_row (λ j. int_lt (offset_at w buffers (j + 1)) (offset_at w buffers j)) n

abbrev pub decreasing_row : Kind → ℕ → Buffers → Option ℕ
decreasing_row (texts w) n buffers = least_decreasing w n buffers
decreasing_row (lists w k) n buffers = least_decreasing w n buffers
decreasing_row k n buffers = None

abbrev pub child_length : List Inner → ℕ
child_length [] = 0
child_length (c ∷ cs) = c.length

abbrev pub is_past_end : Kind → ℕ → Buffers → List Inner → Bool
is_past_end (texts w) n buffers children = nat_lt (length (bytes_at buffers 2)) (start_at w (bytes_at buffers 1) n)
is_past_end (lists w k) n buffers children = nat_lt (child_length children) (start_at w (bytes_at buffers 1) n)
is_past_end k n buffers children = false

-- ---- nulls, texts, codes

-- How many of n slots aren't valid.
abbrev pub null_count : ℕ → Buffers → ℕ
null_count n buffers = count_by (λ j. not (is_valid buffers j)) (range_with_len 0 n)

abbrev pub does_count_differ : Option ℕ → ℕ → Buffers → Bool
does_count_differ None n buffers = false
does_count_differ (Some stated) n buffers = not (stated == null_count n buffers)

abbrev pub is_no_text : OffsetWidth → Buffers → ℕ → Bool
is_no_text w buffers j = is_valid buffers j && not (is_utf8 (slot_at w (bytes_at buffers 1) (bytes_at buffers 2) j))

abbrev pub bad_text_row : Kind → ℕ → Buffers → Option ℕ
bad_text_row (texts w) n buffers = least_row (is_no_text w buffers) n
bad_text_row k n buffers = None

abbrev pub entry_count : Option Inner → ℕ
entry_count None = 0
entry_count (Some d) = d.length

abbrev pub is_no_code : Buffers → ℕ → ℕ → Bool
is_no_code buffers entries j = is_valid buffers j && (is_negative (code_at buffers j) || not (int_lt (code_at buffers j) (pos entries)))

abbrev pub bad_code_row : Kind → ℕ → Buffers → Option Inner → Option ℕ
bad_code_row dict n buffers dictionary = least_row (is_no_code buffers (entry_count dictionary)) n
bad_code_row k n buffers dictionary = None

-- ---- the first fault

-- The tests that come first: of lengths and shapes.
abbrev pub shape_faults : Kind → ℕ → Buffers → List Inner → Option Inner → List (Option LayoutFault)
shape_faults k n buffers children dictionary =
    then_some (nat_lt most_slots n) TooLong
    ∷ then_some (nat_lt 8 (depth k)) TooDeep
    ∷ then_some (is_missing k buffers) MissingBuffer
    ∷ then_some (nat_lt (positions k) (length buffers)) ExtraBuffer
    ∷ then_some (do_parts_differ k children dictionary) ChildDiffers
    ∷ then_some (is_validity_short n (buffer_at buffers 0) || is_data_short k n buffers) BufferTooShort
    ∷ []

-- The tests after them: of what the buffers hold.
abbrev pub content_faults : Kind → ℕ → Option ℕ → Buffers → List Inner → Option Inner → List (Option LayoutFault)
content_faults k n stated buffers children dictionary =
    then_some (has_negative_offset k n buffers) OffsetNegative
    ∷ option_map (λ row. OffsetDecreases row) (decreasing_row k n buffers)
    ∷ then_some (is_past_end k n buffers children) OffsetPastEnd
    ∷ then_some (does_count_differ stated n buffers) NullCountDiffers
    ∷ option_map (λ row. NotUtf8 row) (bad_text_row k n buffers)
    ∷ option_map (λ row. IndexPastDictionary row) (bad_code_row k n buffers dictionary)
    ∷ []

-- The first fault of an array itself, of n slots, with a stated null count or none.
unfoldable pub own_fault : Kind → ℕ → Option ℕ → Buffers → List Inner → Option Inner → Option LayoutFault
own_fault k n stated buffers children dictionary =
    first (shape_faults k n buffers children dictionary ++ content_faults k n stated buffers children dictionary)
