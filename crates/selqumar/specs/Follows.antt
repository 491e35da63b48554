-- What becomes of a slot once the borrow of what it points to ends.
use base.Fml.{Fml}
use denote.Ref.{MutBor}
use denote.Follow.{follows}
use Rattle.std.specs.Prelude.{Some}
use Rattle.selqumar.specs.contracts.pointee.Pointee as pointee
use Rattle.selqumar.specs.contracts.slot.Slot as slot
use Rattle.selqumar.specs.declared.pointee.Pointee.{Pointee}
use Rattle.selqumar.specs.declared.slot.Slot.{Slot}

-- The slot with this behind its pointer.
abbrev pub with_pointee : Slot → Pointee → Slot
with_pointee s x = record { pointer = s.pointer; pointee = Some x }

abbrev pub slot_follows : MutBor Slot → MutBor Pointee → Fml
slot_follows s r = follows slot.the_row pointee.the_row s.ghost_name r.ghost_name (with_pointee s.now)
