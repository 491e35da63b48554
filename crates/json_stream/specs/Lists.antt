-- The members of a column object of lists, as far as they are read. (Arrow integration testing, "JSON test data format", FieldData)
use Rattle.std.specs.Prelude.{◌≡◌, ℕ, ◌-◌, List, [], ◌∷◌, length, drop, false, Option, Some, None}
use Rattle.arrays.specs.Prelude.{Kind, OffsetWidth}
use Rattle.json_scan.specs.Prelude.{SpellsAt, begins_colon, between, lex}
use Rattle.json_read.specs.Prelude.{Data, HoldsColumn, Members, array, get_member, item, member_name, no_items}
use Rattle.json_read.specs.Members as member
use Rattle.json_stream.specs.Column.{IsCountMember}
use Rattle.json_stream.specs.Validity.{IsValidity}
use Rattle.json_stream.specs.Offsets.{IsOffsets}
use Rattle.json_stream.specs.declared.column.Stretch.{Stretch}
use Rattle.json_stream.specs.declared.list.Child.{Child}
use Rattle.json_stream.specs.declared.list.Child.TheVariants.{Read, At}
use Rattle.json_stream.specs.declared.list.ListParts.{ListParts}

-- The value stands on the stretch of the text. It is no key: no colon follows.
abbrev pub IsOnStretch : ℕ → List ℕ → Data → Stretch → Type 0
IsOnStretch depth text d s = SpellsAt depth (drop s.start text) d (drop s.end text) × (begins_colon (lex between (drop s.end text)) ≡ false)

-- The column object of a child of the kind: its array, or where it stands.
abbrev pub HoldsChild : Kind → ℕ → List ℕ → Data → Child → Type 0
HoldsChild k depth text d (Read a) = HoldsColumn k (length a.items) d a
HoldsChild k depth text d (At s) = IsOnStretch depth text d s

-- The values so far are the child alone, or there are none.
abbrev pub HoldsOnlyChild : Kind → ℕ → List ℕ → List Data → Option Child → Type 0
HoldsOnlyChild k depth text ds None = ds ≡ []
HoldsOnlyChild k depth text ds (Some child) = (d : Data) × (ds ≡ d ∷ []) × HoldsChild k depth text d child

-- The array of a value alone.
abbrev pub array_of_one : Data → Data
array_of_one d = array (item d no_items)

-- The member is an array of the child alone, if it is found.
abbrev pub HoldsChildMember : Kind → ℕ → List ℕ → Option Data → Option Child → Type 0
HoldsChildMember k depth text found None = Unit {0}
HoldsChildMember k depth text found (Some child) = (d : Data) × (found ≡ Some (array_of_one d)) × HoldsChild k (depth - 1) text d child

-- What is known of the members, nested so deep in the text.
pub record HoldsLists (w : OffsetWidth) (k : Kind) (depth : ℕ) (text : List ℕ) (ms : Members) (p : ListParts) : Type 0 where
  pub count : IsCountMember (get_member (member_name member.Count) ms) p.count
  pub validity : IsValidity (get_member (member_name member.Validity) ms) p.validity
  pub offsets : IsOffsets w (get_member (member_name member.Offset) ms) p.offsets
  pub child : HoldsChildMember k depth text (get_member (member_name member.Children) ms) p.child
