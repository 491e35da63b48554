-- What can be wrong with a column of lists.
use Rattle.std.specs.Prelude.{◌≡◌, ℕ, ℤ, List, [], ◌∷◌, false, Option, Some, None, option_and_then}
use Rattle.arrays.specs.Prelude.{Kind, LayoutFault, OffsetWidth, offset_type}
use Rattle.json_base.specs.Prelude.{Data, EachFault, Items, ListFault, MemberFault, ReadsEach, Unlike, as_array, as_object, count_of, flag_of, integer_of, items_len, member_of}
use Rattle.json_read.specs.JsonColumnFault.{CountFault, FlagsFault}
use Rattle.json_read.specs.JsonList.{SpellsOffset, offset_bytes, are_enough, lists_fault, HasListMembers}
use Rattle.json_base.specs.declared.path.Member.TheVariants as member
use Rattle.json_base.specs.declared.path.Step.{Step}
use Rattle.json_base.specs.declared.path.Step.TheVariants as step
use Rattle.json_base.specs.declared.fault.JsonFaultKind.{JsonFaultKind}
use Rattle.json_base.specs.declared.fault.JsonFaultKind.TheVariants.{BadOffset, CountDiffers, Layout}

-- n lists are to have enough offsets.
pub data OffsetsFault (n : ℕ) (d : Data) : JsonFaultKind → List Step → Type 0 where
  no_offsets : (kind : JsonFaultKind) (path : List Step) → MemberFault member.Offset (Unlike as_array) d kind path → OffsetsFault n d kind path
  not_enough : (ds : Items) → option_and_then as_array (member_of member.Offset d) ≡ Some ds → are_enough n (items_len ds) ≡ false
      → OffsetsFault n d CountDiffers (step.Member member.Offset ∷ [])

-- It is no column object of n lists.
pub data NoLists (n : ℕ) (d : Data) : JsonFaultKind → List Step → Type 0 where
  no_list_object : (kind : JsonFaultKind) (path : List Step) → Unlike as_object d kind path → NoLists n d kind path
  bad_list_count : (kind : JsonFaultKind) (path : List Step) → CountFault n d kind path → NoLists n d kind path
  bad_list_flags : (kind : JsonFaultKind) (path : List Step) → FlagsFault n d kind path → NoLists n d kind path
  bad_offsets : (kind : JsonFaultKind) (path : List Step) → OffsetsFault n d kind path → NoLists n d kind path
  bad_children : (kind : JsonFaultKind) (path : List Step) → MemberFault member.Children (ListFault 1) d kind path → NoLists n d kind path

-- An item of OFFSET spells no number of the width.
pub data NoOffset (w : OffsetWidth) (d : Data) : JsonFaultKind → List Step → Type 0 where
  no_offset : integer_of (offset_type w) d ≡ None → NoOffset w d BadOffset []

-- Some flag is none.
pub data NoFlags (flags : Option Items) : JsonFaultKind → List Step → Type 0 where
  no_flag_at : (fs : Items) (kind : JsonFaultKind) (path : List Step) → flags ≡ Some fs → EachFault (Unlike flag_of) fs kind path → NoFlags flags kind (step.Member member.Validity ∷ path)

-- The child, which has a count of its own, is wrong.
pub data ChildFault (Wrong : ℕ → Data → JsonFaultKind → List Step → Type 0) (d : Data) : JsonFaultKind → List Step → Type 0 where
  no_child_object : (kind : JsonFaultKind) (path : List Step) → Unlike as_object d kind path → ChildFault Wrong d kind path
  bad_child_count : (kind : JsonFaultKind) (path : List Step) → MemberFault member.Count (Unlike count_of) d kind path → ChildFault Wrong d kind path
  bad_child_column : (m : ℕ) (kind : JsonFaultKind) (path : List Step) → option_and_then count_of (member_of member.Count d) ≡ Some m → Wrong m d kind path → ChildFault Wrong d kind path

-- The layout refuses the offsets of n lists over a child of m items.
pub data NotLawful (w : OffsetWidth) (k : Kind) (n : ℕ) (offsets : List ℕ) (m : ℕ) : JsonFaultKind → List Step → Type 0 where
  not_lawful : (fault : LayoutFault) → lists_fault w k n offsets m ≡ Some fault → NotLawful w k n offsets m (Layout fault) []

pub data ListsFault (Wrong : ℕ → Data → JsonFaultKind → List Step → Type 0) (w : OffsetWidth) (k : Kind) (n : ℕ) (d : Data) : JsonFaultKind → List Step → Type 0 where
  no_lists : (kind : JsonFaultKind) (path : List Step) → NoLists n d kind path → ListsFault Wrong w k n d kind path
  no_flags_of_lists : (flags : Option Items) (offsets : Items) (child : Data) (kind : JsonFaultKind) (path : List Step) → HasListMembers n d flags offsets child
      → NoFlags flags kind path → ListsFault Wrong w k n d kind path
  bad_offset : (flags : Option Items) (offsets : Items) (child : Data) (kind : JsonFaultKind) (path : List Step) → HasListMembers n d flags offsets child
      → EachFault (NoOffset w) offsets kind path → ListsFault Wrong w k n d kind (step.Member member.Offset ∷ path)
  bad_child : (flags : Option Items) (offsets : Items) (child : Data) (kind : JsonFaultKind) (path : List Step) → HasListMembers n d flags offsets child
      → ChildFault Wrong child kind path → ListsFault Wrong w k n d kind (step.Member member.Children ∷ step.Item 0 ∷ path)
  bad_lists : (flags : Option Items) (offsets : Items) (child : Data) (numbers : List ℤ) (m : ℕ) (kind : JsonFaultKind) (path : List Step) → HasListMembers n d flags offsets child
      → ReadsEach (SpellsOffset w) offsets numbers → option_and_then count_of (member_of member.Count child) ≡ Some m → NotLawful w k n (offset_bytes w numbers) m kind path
      → ListsFault Wrong w k n d kind path
