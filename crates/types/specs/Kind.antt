-- Types without names and nullability: what 'the same type' compares.
use Rattle.std.specs.Prelude.{ℕ, suc, ◌&&◌, ◌==◌, Bool, true, false, not, if◌then◌else◌, Option, Some, None}
use Rattle.std.specs.Int.{Width as Bits, byte_len, w8, w16, w32, w64}
use Rattle.types.specs.declared.int_type.Width.{Width}
use Rattle.types.specs.declared.int_type.Width.TheVariants.{W8, W16, W32, W64}
use Rattle.types.specs.declared.int_type.IntType.{IntType}
use Rattle.types.specs.declared.offset_width.OffsetWidth.{OffsetWidth}
use Rattle.types.specs.declared.offset_width.OffsetWidth.TheVariants.{Narrow, Wide}
use Rattle.types.specs.declared.data_type.DataType.{DataType, fold-DataType}
use Rattle.types.specs.declared.data_type.DataType.TheOpen.{DataType-F}

-- Texts and lists come with the width of their offsets.
pub data Kind : Type 0 where
  int : IntType → Kind
  boolean : Kind
  texts : OffsetWidth → Kind
  lists : OffsetWidth → Kind → Kind
  dict : Kind

abbrev pub utf8 : Kind
utf8 = texts Narrow

-- One level of a type, with the item's kind in place of the item's field.
abbrev pub kind_step : DataType-F Kind Kind → Kind
kind_step (DataType-F.Int t) = int t
kind_step DataType-F.Bool = boolean
kind_step DataType-F.Utf8 = texts Narrow
kind_step DataType-F.LargeUtf8 = texts Wide
kind_step (DataType-F.List item) = lists Narrow item.value
kind_step (DataType-F.LargeList item) = lists Wide item.value
kind_step DataType-F.Dict = dict

abbrev pub kind_of : DataType → Kind
kind_of = fold-DataType Kind Kind kind_step (λ f. f.ty)

-- The width of an integer type, as the program's numbers have it.
abbrev pub bits_of : Width → Bits
bits_of W8 = w8
bits_of W16 = w16
bits_of W32 = w32
bits_of W64 = w64

-- How many bytes a number takes.
abbrev pub bytes_of : Width → ℕ
bytes_of w = byte_len (bits_of w)

-- The indices of a dictionary: signed, of 32 bits.
abbrev pub int32 : IntType
int32 = record { bits = W32; signed = true }

-- Signed, of 64 bits.
abbrev pub int64 : IntType
int64 = record { bits = W64; signed = true }

-- How many lists stand in one another.
abbrev pub depth : Kind → ℕ
depth (lists w k) = suc (depth k)
depth k = 0

-- Whether the kind is a dictionary, or a list of such.
abbrev pub ends_in_dict : Kind → Bool
ends_in_dict (lists w k) = ends_in_dict k
ends_in_dict dict = true
ends_in_dict k = false

-- Whether a dictionary stands inside a list.
abbrev pub has_dict_in_list : Kind → Bool
has_dict_in_list (lists w k) = ends_in_dict k
has_dict_in_list k = false

abbrev pub same_int : IntType → IntType → Bool
same_int s t = (bytes_of s.bits == bytes_of t.bits) && (if s.signed then t.signed else not t.signed)

abbrev pub same_offsets : OffsetWidth → OffsetWidth → Bool
same_offsets Narrow Narrow = true
same_offsets Wide Wide = true
same_offsets v w = false

abbrev pub same_kind : Kind → Kind → Bool
same_kind (int s) (int t) = same_int s t
same_kind boolean boolean = true
same_kind (texts v) (texts w) = same_offsets v w
same_kind (lists v k) (lists w l) = same_offsets v w && same_kind k l
same_kind dict dict = true
same_kind k l = false

-- The kind of a list's items.
abbrev pub item_kind : Kind → Option Kind
item_kind (lists w k) = Some k
item_kind k = None

-- The width of the offsets of texts, of lists, and of either.
abbrev pub text_width : Kind → Option OffsetWidth
text_width (texts w) = Some w
text_width k = None

abbrev pub list_width : Kind → Option OffsetWidth
list_width (lists w k) = Some w
list_width k = None

abbrev pub offset_width : Kind → Option OffsetWidth
offset_width (texts w) = Some w
offset_width (lists w k) = Some w
offset_width k = None
