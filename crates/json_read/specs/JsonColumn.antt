-- The columns of a file. (Arrow integration testing, "JSON test data format", RecordBatch and FieldData)
use Rattle.std.specs.Prelude.{◌≡◌, ℕ, ◌<◌, List, length, slice_get, Bool, true, false, Option, Some, None, option_map, option_and_then}
use Rattle.arrays.specs.Prelude.{IntType, Item, Kind, OffsetWidth, text_bytes}
use Rattle.arrays.specs.OffsetSize.{is_full as is_past}
use Rattle.arrays.specs.Item as column
use Rattle.arrays.specs.Kind as kind
use Rattle.json_base.specs.Prelude.{Data, Items, array, as_array, as_str, boolean, count_of, flag_of, get_item, integer_of, items_len, member_of, null, number, object, string}
use Rattle.json_base.specs.declared.path.Member.TheVariants as member
use Rattle.json_base.specs.declared.fault.JsonFaultKind.{JsonFaultKind}
use Rattle.json_base.specs.declared.fault.JsonFaultKind.TheVariants.{BadNumber, WrongMember, UnsupportedType}

-- The flags of a column, none where the member is absent or null: then all slots are valid.
abbrev pub flags_of : Option Data → Option (Option Items)
flags_of None = Some None
flags_of (Some null) = Some None
flags_of (Some (boolean b)) = None
flags_of (Some (number n)) = None
flags_of (Some (string s)) = None
flags_of (Some (array fs)) = Some (Some fs)
flags_of (Some (object ms)) = None

abbrev pub HasFlags : ℕ → Option Items → Type 0
HasFlags n None = Unit {0}
HasFlags n (Some fs) = items_len fs ≡ n

-- Whether slot i is valid.
abbrev pub flagged_at : Option Items → ℕ → Option Bool
flagged_at None i = Some true
flagged_at (Some fs) i = option_and_then flag_of (get_item i fs)

-- ---- what values spell

-- What a value spells, as what one that spells nothing is reported, and how wide the offsets are that count the bytes of texts, none where nothing is counted.
pub record Spelling : Type 0 where
  pub spelled : Data → Option Item
  pub bad : JsonFaultKind
  pub offsets : Option OffsetWidth

-- Integers of a type.
abbrev pub numbers : IntType → Spelling
numbers t = record { spelled = λ d. option_map column.int (integer_of t d); bad = BadNumber; offsets = None }

-- Truth values, spelled as flags are.
abbrev pub truths : Spelling
truths = record { spelled = λ d. option_map column.boolean (flag_of d); bad = WrongMember; offsets = None }

-- Texts: offsets of the width count their bytes. (Arrow columnar format, "Variable-size binary layout")
abbrev pub texts : OffsetWidth → Spelling
texts w = record { spelled = λ d. option_map column.text (as_str d); bad = WrongMember; offsets = Some w }

-- Nothing is spelled.
abbrev pub unread : Spelling
unread = record { spelled = λ d. None; bad = UnsupportedType; offsets = None }

abbrev pub spelling_of : Kind → Spelling
spelling_of (kind.int t) = numbers t
spelling_of kind.boolean = truths
spelling_of (kind.texts w) = texts w
spelling_of (kind.lists w k) = unread
spelling_of kind.dict = unread

-- So many bytes are more than the offsets count, where there are offsets.
abbrev pub is_past_offsets : Option OffsetWidth → ℕ → Bool
is_past_offsets None n = false
is_past_offsets (Some w) n = is_past w n

-- The items are more than the offsets count.
abbrev pub overflows : Spelling → List Item → Bool
overflows s items = is_past_offsets s.offsets (text_bytes items)

-- ---- slots

-- What a slot holds: null, or what its value spells. Under a null slot the value isn't looked at.
abbrev pub slot_of : Spelling → Option Bool → Option Data → Option Item
slot_of s (Some true) (Some d) = s.spelled d
slot_of s (Some false) (Some d) = Some column.null
slot_of s (Some b) None = None
slot_of s None d = None

-- The first n slots.
pub record ReadsSlots (s : Spelling) (flags : Option Items) (values : Items) (n : ℕ) (items : List Item) : Type 0 where
  pub len : length items ≡ n
  pub each : (i : ℕ) → i < n → slice_get items i ≡ slot_of s (flagged_at flags i) (get_item i values)

-- A column object of n slots, with a flag for each or none, and a value for each.
pub record HasSlots (n : ℕ) (d : Data) (flags : Option Items) (values : Items) : Type 0 where
  pub count : option_and_then count_of (member_of member.Count d) ≡ Some n
  pub validity : flags_of (member_of member.Validity d) ≡ Some flags
  pub flagged : HasFlags n flags
  pub listed : option_and_then as_array (member_of member.Data d) ≡ Some values
  pub whole : items_len values ≡ n

-- The column object of n slots, each with a value of its own.
pub record ReadsPlain (s : Spelling) (n : ℕ) (d : Data) (items : List Item) : Type 0 where
  pub flags : Option Items
  pub values : Items
  pub given : HasSlots n d flags values
  pub slots : ReadsSlots s flags values n items
  pub fits : overflows s items ≡ false
