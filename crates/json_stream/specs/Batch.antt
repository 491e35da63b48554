-- A batch, as far as its members are read. (Arrow integration testing, "JSON test data format", RecordBatch)
use Rattle.std.specs.Prelude.{◌≡◌, List, Option, Some, None, option_map, option_and_then}
use Rattle.arrays.specs.Prelude.{FieldShape, Seen}
use Rattle.json_read.specs.Prelude.{Coding, Data, Members, array, count_of, get_member, member_name, no_items}
use Rattle.json_read.specs.Members as member
use Rattle.json_scan.specs.Spelling.{before}
use Rattle.json_stream.specs.Column.{IsCountMember}
use Rattle.json_stream.specs.Columns.{AreReadColumns}
use Rattle.json_stream.specs.declared.batch.BatchMembers.{BatchMembers}
use Rattle.json_stream.specs.declared.batch.BatchParts.{BatchParts}

-- The member is an array of these columns, if they are read.
abbrev pub IsColumns : List FieldShape → List (Option Coding) → Option Data → Option (List Seen) → Type 0
IsColumns fields catalog found None = Unit {0}
IsColumns fields catalog found (Some columns) = (ds : List Data) × (found ≡ Some (array (before ds no_items))) × AreReadColumns fields catalog ds columns

-- What is known of the members.
pub record HoldsBatch (fields : List FieldShape) (catalog : List (Option Coding)) (ms : Members) (p : BatchParts) : Type 0 where
  pub count : IsCountMember (get_member (member_name member.Count) ms) p.count
  pub columns : IsColumns fields catalog (get_member (member_name member.Columns) ms) (option_map (λ v. v.items) p.columns)

-- They are this count, and an array of columns of the first fields.
pub record HasMembers (fields : List FieldShape) (catalog : List (Option Coding)) (ms : Members) (b : BatchMembers) : Type 0 where
  pub count : option_and_then count_of (get_member (member_name member.Count) ms) ≡ Some b.count
  pub values : List Data
  pub listed : get_member (member_name member.Columns) ms ≡ Some (array (before values no_items))
  pub read : AreReadColumns fields catalog values b.columns.items
