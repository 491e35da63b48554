-- What can be wrong with a batch.
use Rattle.std.specs.Prelude.{◌≡◌, ℕ, List, [], ◌∷◌, length, slice_get, Option, Some, None, option_and_then}
use Rattle.arrays.specs.Kind.{int, boolean, texts, lists, dict}
use Rattle.arrays.specs.Prelude.{FieldShape, Kind, kind_of_field}
use Rattle.json_base.specs.Prelude.{Data, Items, ListFault, MemberFault, Unlike, as_array, as_object, count_of, get_item, member_of}
use Rattle.json_read.specs.JsonColumn.{numbers, truths, texts as texts_spelled}
use Rattle.json_read.specs.JsonColumnFault.{ColumnFault}
use Rattle.json_read.specs.JsonListFault.{ListsFault}
use Rattle.json_read.specs.JsonCodesFault.{CodesFault}
use Rattle.json_read.specs.JsonCatalog.{Coding}
use Rattle.json_base.specs.declared.path.Member.TheVariants as member
use Rattle.json_base.specs.declared.path.Step.{Step}
use Rattle.json_base.specs.declared.path.Step.TheVariants as step
use Rattle.json_base.specs.declared.fault.JsonFaultKind.{JsonFaultKind}
use Rattle.json_base.specs.declared.fault.JsonFaultKind.TheVariants.{UnsupportedType}

-- A column of a kind that isn't read.
pub data Unread : JsonFaultKind → List Step → Type 0 where
  unread : Unread UnsupportedType []

abbrev pub KindFault : Kind → ℕ → Data → JsonFaultKind → List Step → Type 0
KindFault (int t) n d kind path = ColumnFault (numbers t) n d kind path
KindFault boolean n d kind path = ColumnFault truths n d kind path
KindFault (texts w) n d kind path = ColumnFault (texts_spelled w) n d kind path
KindFault (lists w k) n d kind path = ListsFault (KindFault k) w k n d kind path
KindFault dict n d kind path = Unread kind path

-- Of the column of a field.
abbrev pub CodedFault : Kind → Option Coding → ℕ → Data → JsonFaultKind → List Step → Type 0
CodedFault k None n d kind path = KindFault k n d kind path
CodedFault k (Some c) n d kind path = CodesFault c.index c.texts n d kind path

-- Some column is wrong.
pub data ColumnsFault (fields : List FieldShape) (catalog : List (Option Coding)) (rows : ℕ) (ds : Items) : JsonFaultKind → List Step → Type 0 where
  bad_column : (i : ℕ) (f : FieldShape) (c : Option Coding) (d : Data) (kind : JsonFaultKind) (path : List Step) → slice_get fields i ≡ Some f → slice_get catalog i ≡ Some c → get_item i ds ≡ Some d
      → CodedFault (kind_of_field f) c rows d kind path → ColumnsFault fields catalog rows ds kind (step.Item i ∷ path)

pub data BatchFault (fields : List FieldShape) (catalog : List (Option Coding)) (d : Data) : JsonFaultKind → List Step → Type 0 where
  no_batch_object : (kind : JsonFaultKind) (path : List Step) → Unlike as_object d kind path → BatchFault fields catalog d kind path
  bad_rows : (kind : JsonFaultKind) (path : List Step) → MemberFault member.Count (Unlike count_of) d kind path → BatchFault fields catalog d kind path
  bad_list : (kind : JsonFaultKind) (path : List Step) → MemberFault member.Columns (ListFault (length fields)) d kind path → BatchFault fields catalog d kind path
  bad_columns : (rows : ℕ) (ds : Items) (kind : JsonFaultKind) (path : List Step) → option_and_then count_of (member_of member.Count d) ≡ Some rows
      → option_and_then as_array (member_of member.Columns d) ≡ Some ds → ColumnsFault fields catalog rows ds kind path → BatchFault fields catalog d kind (step.Member member.Columns ∷ path)
