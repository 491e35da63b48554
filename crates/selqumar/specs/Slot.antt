-- What the pointer of a box owns, and what a slot owns.
use base.Fml.{Fml, ftrue}
use denote.RattleType.{RattleType}
use denote.RawPtr.{Ptr}
use Rattle.std.specs.Prelude.{Option, None, Some}
use Rattle.std.specs.Box.Ownership.{box_owns}
use Rattle.std.specs.contracts.impls.GlobalAllocator.TheImpl.{ghosts}
use Rattle.selqumar.specs.contracts.pointee.Pointee.{the_row}
use Rattle.selqumar.specs.declared.pointee.Pointee.{Pointee}

-- At the pointer there is this value, and its block may be freed.
abbrev pub is_boxed : (R : RattleType) → Ptr → R.Denot → Fml
is_boxed R p x = box_owns (ghosts.dealloc_token (record { memory = record { seal = tt } })) R p x

-- At the pointer there is the box of what it points to, if there is any.
abbrev pub owned_at : Ptr → Option Pointee → Fml
owned_at p None = ftrue
owned_at p (Some x) = is_boxed the_row p x
