-- What can be wrong with a dictionary-encoded column.
use Rattle.std.specs.Prelude.{◌≡◌, ℕ, ℤ, List, [], ◌∷◌, true, Option, Some, None}
use Rattle.arrays.specs.Prelude.{IndexPastDictionary, IntType, Item}
use Rattle.json_base.specs.Prelude.{Data, Items, get_item, integer_of}
use Rattle.json_read.specs.JsonColumn.{flagged_at, ReadsSlots, HasSlots}
use Rattle.json_read.specs.JsonColumnFault.{NoSlots}
use Rattle.json_read.specs.JsonCodes.{entry_at, indices}
use Rattle.json_base.specs.declared.path.Member.TheVariants as member
use Rattle.json_base.specs.declared.path.Step.{Step}
use Rattle.json_base.specs.declared.path.Step.TheVariants as step
use Rattle.json_base.specs.declared.fault.JsonFaultKind.{JsonFaultKind}
use Rattle.json_base.specs.declared.fault.JsonFaultKind.TheVariants.{WrongMember, BadNumber, Layout}

-- Some slot's flag is none; or it is valid, and its value is no integer of the type, or one that names no entry while those of all slots before it do.
pub data IndicesFault (t : IntType) (entries : List Item) (flags : Option Items) (values : Items) : JsonFaultKind → List Step → Type 0 where
  no_index_flag : (i : ℕ) (d : Data) → get_item i values ≡ Some d → flagged_at flags i ≡ None → IndicesFault t entries flags values WrongMember (step.Member member.Validity ∷ step.Item i ∷ [])
  no_index : (i : ℕ) (d : Data) → get_item i values ≡ Some d → flagged_at flags i ≡ Some true → integer_of t d ≡ None
      → IndicesFault t entries flags values BadNumber (step.Member member.Data ∷ step.Item i ∷ [])
  past_dictionary : (i : ℕ) (d : Data) (z : ℤ) (items : List Item) → ReadsSlots (indices t entries) flags values i items → get_item i values ≡ Some d → flagged_at flags i ≡ Some true
      → integer_of t d ≡ Some z → entry_at entries z ≡ None → IndicesFault t entries flags values (Layout (IndexPastDictionary i)) []

pub data CodesFault (t : IntType) (entries : List Item) (n : ℕ) (d : Data) : JsonFaultKind → List Step → Type 0 where
  no_code_slots : (kind : JsonFaultKind) (path : List Step) → NoSlots n d kind path → CodesFault t entries n d kind path
  bad_codes : (flags : Option Items) (values : Items) (kind : JsonFaultKind) (path : List Step) → HasSlots n d flags values → IndicesFault t entries flags values kind path
      → CodesFault t entries n d kind path
