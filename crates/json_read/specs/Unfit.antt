-- Why a value isn't taken into a column that has some items, and how that is reported.
use Rattle.std.specs.Prelude.{◌≡◌, ℕ, List, [], ◌∷◌, ◌++◌, true, false, Some, None}
use Rattle.arrays.specs.LayoutFaults as layout
use Rattle.arrays.specs.Prelude.{Item}
use Rattle.json_base.specs.Prelude.{Data, IsFault, no_memory}
use Rattle.json_read.specs.JsonColumn.{Spelling, overflows}
use Rattle.json_base.specs.declared.path.Member.TheVariants as member
use Rattle.json_base.specs.declared.path.Step.TheVariants as step
use Rattle.json_base.specs.declared.fault.JsonFault.{JsonFault}
use Rattle.json_base.specs.declared.fault.JsonFaultKind.TheVariants.{Layout}
use Rattle.json_read.specs.declared.column.Unfit.{Unfit}
use Rattle.json_read.specs.declared.column.Unfit.TheVariants.{Unspelled, TooLong, NoMemory}

-- The value's item follows, and the offsets count all.
pub record HasNextItem (s : Spelling) (old : List Item) (d : Data) (new : List Item) : Type 0 where
  pub item : Item
  pub spelled : s.spelled d ≡ Some item
  pub grown : new ≡ old ++ item ∷ []
  pub fits : overflows s new ≡ false

pub data IsUnfit (s : Spelling) (old : List Item) (d : Data) : Unfit → Type 0 where
  spells_nothing : s.spelled d ≡ None → IsUnfit s old d (Unspelled s.bad)
  has_no_room : (item : Item) → s.spelled d ≡ Some item → overflows s (old ++ item ∷ []) ≡ true → IsUnfit s old d TooLong
  -- only of a value that would be taken
  refused : (item : Item) → s.spelled d ≡ Some item → IsUnfit s old d NoMemory

-- How it is reported of slot i.
abbrev pub IsSlotFault : ℕ → Unfit → JsonFault → Type 0
IsSlotFault i (Unspelled kind) fault = IsFault kind (step.Member member.Data ∷ step.Item i ∷ []) fault
IsSlotFault i TooLong fault = IsFault (Layout layout.TooLong) [] fault
IsSlotFault i NoMemory fault = fault ≡ no_memory
