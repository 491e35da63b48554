-- The members of a column object, as far as they are read. (Arrow integration testing, "JSON test data format", FieldData)
use Rattle.std.specs.Prelude.{◌≡◌, ℕ, List, drop, Bool, false, Option, Some, None, option_and_then}
use Rattle.arrays.specs.Prelude.{Kind, Seen}
use Rattle.json_scan.specs.Prelude.{SpellsAt, before, begins_colon, between, lex}
use Rattle.json_read.specs.Prelude.{Coding, Data, Members, array, count_of, get_member, member_name, no_items}
use Rattle.json_read.specs.Members as member
use Rattle.json_stream.specs.Validity.{IsValidity}
use Rattle.json_stream.specs.Slots.{HoldsSlots}
use Rattle.json_stream.specs.declared.column.Stretch.{Stretch}
use Rattle.json_stream.specs.declared.column.ColumnParts.{ColumnParts}

-- The member is a count, if there is one.
abbrev pub IsCountMember : Option Data → Option ℕ → Type 0
IsCountMember found None = found ≡ None
IsCountMember found (Some n) = option_and_then count_of found ≡ Some n

-- The member, if there is one, has the value that stands on the stretch of the text. It is no key: no colon follows.
abbrev pub StandsOn : ℕ → List ℕ → Option Data → Option Stretch → Type 0
StandsOn depth text found None = found ≡ None
StandsOn depth text found (Some s) = (d : Data) × (found ≡ Some d) × SpellsAt depth (drop s.start text) d (drop s.end text) × (begins_colon (lex between (drop s.end text)) ≡ false)

-- The member is the values of the array, if there is one.
abbrev pub IsValues : Kind → Option Coding → Option (List Bool) → Option Data → Option Seen → Type 0
IsValues k c validity found None = Unit {0}
IsValues k c validity found (Some a) = (ds : List Data) × (found ≡ Some (array (before ds no_items))) × HoldsSlots k c validity ds a

-- What is known of the members, nested so deep in the text.
pub record HoldsParts (k : Kind) (c : Option Coding) (depth : ℕ) (text : List ℕ) (ms : Members) (p : ColumnParts) : Type 0 where
  pub count : IsCountMember (get_member (member_name member.Count) ms) p.count
  pub validity : IsValidity (get_member (member_name member.Validity) ms) p.validity
  pub place : StandsOn depth text (get_member (member_name member.Data) ms) p.place
  pub values : IsValues k c p.validity (get_member (member_name member.Data) ms) p.values
