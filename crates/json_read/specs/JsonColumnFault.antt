-- What can be wrong with a column.
use Rattle.std.specs.Prelude.{◌≡◌, ◌≢◌, ℕ, List, [], ◌∷◌, true, Option, Some, None, option_and_then}
use Rattle.arrays.specs.Prelude.{Item, TooLong}
use Rattle.json_base.specs.Prelude.{Data, Items, ListFault, MemberFault, Unlike, as_null, as_object, count_of, get_item, member_of}
use Rattle.json_read.specs.JsonColumn.{Spelling, overflows, flagged_at, ReadsSlots, HasSlots}
use Rattle.json_base.specs.declared.path.Member.TheVariants as member
use Rattle.json_base.specs.declared.path.Step.{Step}
use Rattle.json_base.specs.declared.path.Step.TheVariants as step
use Rattle.json_base.specs.declared.fault.JsonFaultKind.{JsonFaultKind}
use Rattle.json_base.specs.declared.fault.JsonFaultKind.TheVariants.{WrongMember, CountDiffers, Layout}

-- ---- the slots

-- Some slot's flag is none, or it is valid and its value spells nothing; or the first slots are more than the offsets count.
pub data SlotsFault (s : Spelling) (flags : Option Items) (values : Items) : JsonFaultKind → List Step → Type 0 where
  no_flag : (i : ℕ) (d : Data) → get_item i values ≡ Some d → flagged_at flags i ≡ None → SlotsFault s flags values WrongMember (step.Member member.Validity ∷ step.Item i ∷ [])
  no_value : (i : ℕ) (d : Data) → get_item i values ≡ Some d → flagged_at flags i ≡ Some true → s.spelled d ≡ None → SlotsFault s flags values s.bad (step.Member member.Data ∷ step.Item i ∷ [])
  too_long : (n : ℕ) (items : List Item) → ReadsSlots s flags values n items → overflows s items ≡ true → SlotsFault s flags values (Layout TooLong) []

-- ---- where they stand

-- The column is to have n slots.
pub data CountFault (n : ℕ) (d : Data) : JsonFaultKind → List Step → Type 0 where
  no_count : (kind : JsonFaultKind) (path : List Step) → MemberFault member.Count (Unlike count_of) d kind path → CountFault n d kind path
  other_count : (m : ℕ) → option_and_then count_of (member_of member.Count d) ≡ Some m → m ≢ n → CountFault n d CountDiffers (step.Member member.Count ∷ [])

-- A validity that is there is to have a flag for each slot.
pub data FlagsFault (n : ℕ) (d : Data) : JsonFaultKind → List Step → Type 0 where
  no_flags : (e : Data) (kind : JsonFaultKind) (path : List Step) → member_of member.Validity d ≡ Some e → as_null e ≡ None → ListFault n e kind path
      → FlagsFault n d kind (step.Member member.Validity ∷ path)

-- It is no column object of n slots.
pub data NoSlots (n : ℕ) (d : Data) : JsonFaultKind → List Step → Type 0 where
  no_column_object : (kind : JsonFaultKind) (path : List Step) → Unlike as_object d kind path → NoSlots n d kind path
  bad_count : (kind : JsonFaultKind) (path : List Step) → CountFault n d kind path → NoSlots n d kind path
  bad_flags : (kind : JsonFaultKind) (path : List Step) → FlagsFault n d kind path → NoSlots n d kind path
  bad_values : (kind : JsonFaultKind) (path : List Step) → MemberFault member.Data (ListFault n) d kind path → NoSlots n d kind path

pub data ColumnFault (s : Spelling) (n : ℕ) (d : Data) : JsonFaultKind → List Step → Type 0 where
  no_slots : (kind : JsonFaultKind) (path : List Step) → NoSlots n d kind path → ColumnFault s n d kind path
  bad_slots : (flags : Option Items) (values : Items) (kind : JsonFaultKind) (path : List Step) → HasSlots n d flags values → SlotsFault s flags values kind path → ColumnFault s n d kind path
