-- What can be wrong with a dictionary.
use Rattle.std.specs.Prelude.{◌≡◌, ℕ, List, [], ◌∷◌, Some, None, option_and_then}
use Rattle.arrays.specs.Prelude.{Narrow}
use Rattle.json_base.specs.Prelude.{Data, IsObject, ListFault, MemberFault, Unlike, as_array, as_object, count_of, item, member_of, no_items}
use Rattle.json_read.specs.JsonSchema.{only_item}
use Rattle.json_read.specs.JsonColumn.{texts}
use Rattle.json_read.specs.JsonColumnFault.{ColumnFault}
use Rattle.json_base.specs.declared.path.Member.TheVariants as member
use Rattle.json_base.specs.declared.path.Step.{Step}
use Rattle.json_base.specs.declared.path.Step.TheVariants as step
use Rattle.json_base.specs.declared.fault.JsonFaultKind.{JsonFaultKind}
use Rattle.json_base.specs.declared.fault.JsonFaultKind.TheVariants.{WrongMember}

-- Of a batch object that is to have one column, of texts.
pub data TextsFault (d : Data) : JsonFaultKind → List Step → Type 0 where
  no_texts_object : (kind : JsonFaultKind) (path : List Step) → Unlike as_object d kind path → TextsFault d kind path
  bad_texts_count : (kind : JsonFaultKind) (path : List Step) → MemberFault member.Count (Unlike count_of) d kind path → TextsFault d kind path
  bad_texts_list : (kind : JsonFaultKind) (path : List Step) → MemberFault member.Columns (ListFault 1) d kind path → TextsFault d kind path
  bad_texts : (n : ℕ) (column : Data) (kind : JsonFaultKind) (path : List Step) → option_and_then count_of (member_of member.Count d) ≡ Some n
      → option_and_then as_array (member_of member.Columns d) ≡ Some (item column no_items) → ColumnFault (texts Narrow) n column kind path
      → TextsFault d kind (step.Member member.Columns ∷ step.Item 0 ∷ path)

-- Of what is to be such a batch object, or an array of exactly one.
pub data WrapperFault (d : Data) : JsonFaultKind → List Step → Type 0 where
  no_batch : as_object d ≡ None → only_item d ≡ None → WrapperFault d WrongMember []
  bad_bare : (kind : JsonFaultKind) (path : List Step) → IsObject d → TextsFault d kind path → WrapperFault d kind path
  bad_wrapped : (batch : Data) (kind : JsonFaultKind) (path : List Step) → only_item d ≡ Some batch → TextsFault batch kind path → WrapperFault d kind (step.Item 0 ∷ path)

-- Of an entry.
abbrev pub EntryFault : Data → JsonFaultKind → List Step → Type 0
EntryFault d kind path = MemberFault member.Texts WrapperFault d kind path
