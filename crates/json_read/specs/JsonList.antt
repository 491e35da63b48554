-- Columns of lists. (Arrow integration testing, "JSON test data format", FieldData; Arrow columnar format, "Variable-size list layout")
use Rattle.std.specs.Prelude.{◌≡◌, ℕ, ◌+◌, ◌<◌, ◌==◌, ◌&&◌, ◌||◌, ℤ, List, [], ◌∷◌, length, slice_get, Bool, true, false, Option, Some, None, option_and_then}
use Rattle.std.specs.List.{flat_map}
use Rattle.arrays.specs.Prelude.{Item, Kind, LayoutFault, OffsetWidth, bytes_of_number, list_of, offset_type, own_fault, slot_at}
use Rattle.arrays.specs.Item as column
use Rattle.arrays.specs.Kind as kind
use Rattle.json_base.specs.Prelude.{Data, Items, ReadsEach, as_array, count_of, integer_of, item, items_len, member_of, no_items}
use Rattle.json_read.specs.JsonColumn.{flags_of, HasFlags, flagged_at}
use Rattle.json_base.specs.declared.path.Member.TheVariants as member

-- ---- offsets

-- An item of OFFSET spells the number: one of 32 bits, or of 64 where lists are large.
abbrev pub SpellsOffset : OffsetWidth → Data → ℤ → Type 0
SpellsOffset w d z = integer_of (offset_type w) d ≡ Some z

-- The numbers, little-endian, one after another.
abbrev pub offset_bytes : OffsetWidth → List ℤ → List ℕ
offset_bytes w numbers = flat_map (bytes_of_number (offset_type w)) numbers

-- n lists have one offset more than lists, save that none may have none: then it is the one offset 0.
abbrev pub are_enough : ℕ → ℕ → Bool
are_enough n offsets = (offsets == n + 1) || ((n == 0) && (offsets == 0))

-- The layout's fault of the offsets of n lists over m items of the kind.
abbrev pub lists_fault : OffsetWidth → Kind → ℕ → List ℕ → ℕ → Option LayoutFault
lists_fault w k n offsets m = own_fault (kind.lists w k) n None (None ∷ Some offsets ∷ []) (record { kind = k; length = m } ∷ []) None

-- ---- lists

-- What a slot holds: null, or the list of these items.
abbrev pub list_slot : Option Bool → List Item → Option Item
list_slot (Some true) items = Some (column.list (list_of items))
list_slot (Some false) items = Some column.null
list_slot None items = None

-- n slots over the child's items, each from one offset up to the next.
pub record ReadsLists (w : OffsetWidth) (flags : Option Items) (offsets : List ℕ) (below : List Item) (n : ℕ) (items : List Item) : Type 0 where
  pub len : length items ≡ n
  pub each : (i : ℕ) → i < n → slice_get items i ≡ list_slot (flagged_at flags i) (slot_at w offsets below i)

-- A column object of n lists, with a flag for each or none, offsets for all, and one child.
pub record HasListMembers (n : ℕ) (d : Data) (flags : Option Items) (offsets : Items) (child : Data) : Type 0 where
  pub count : option_and_then count_of (member_of member.Count d) ≡ Some n
  pub validity : flags_of (member_of member.Validity d) ≡ Some flags
  pub flagged : HasFlags n flags
  pub listed : option_and_then as_array (member_of member.Offset d) ≡ Some offsets
  pub enough : are_enough n (items_len offsets) ≡ true
  pub children : option_and_then as_array (member_of member.Children d) ≡ Some (item child no_items)

-- The column object of n lists over the items of a child. The child is a column of m items, as `Reads` says, whichever of them the lists hold.
pub record IsListColumn (Reads : ℕ → Data → List Item → Type 0) (w : OffsetWidth) (k : Kind) (n : ℕ) (d : Data) (items : List Item) : Type 0 where
  pub flags : Option Items
  pub offsets : Items
  pub child : Data
  pub given : HasListMembers n d flags offsets child
  pub numbers : List ℤ
  pub spelled : ReadsEach (SpellsOffset w) offsets numbers
  pub m : ℕ
  pub below : List Item
  pub inner : Reads m child below
  pub lawful : lists_fault w k n (offset_bytes w numbers) m ≡ None
  pub slots : ReadsLists w flags (offset_bytes w numbers) below n items
