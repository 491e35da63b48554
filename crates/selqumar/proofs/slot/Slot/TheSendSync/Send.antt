-- A slot may go to another thread, since what it points to may.
use base.Fraction.{full_share}
use base.Shift.{Keyless}
use mir.Raw.{raw}
use denote.Builtin.{RawPtr}
use denote.Exit.{Exit, hidden, leaves, unchanged, under}
use denote.Memory.{lone}
use denote.Param.Send.{IsSend, Quiet, owning_send, part_keyless, sendable, struct_send}
use denote.RawPtr.{Ptr, block_ptr, lies_at, null_ptr}
use denote.Struct.Owning.{fields, shape, to}
use denote.Struct.Struct.{exits_of}
use Rattle.std.specs.Prelude.{Option, None, Some}
use Rattle.std.proofs.Crossing.{crosses, frees}
use Rattle.embed.proofs.SendingLemmas.{state-send, version-send}
use Rattle.selqumar.specs.contracts.pointee.Pointee.{the_row as T}
use Rattle.selqumar.specs.declared.pointee.Pointee.{Pointee}
use Rattle.selqumar.specs.Slot.{owned_at}
use Rattle.selqumar.specs.contracts.slot.Slot as slot

quiet : {D X : Type 0} (to : D → X) (e : Exit X) → Quiet e → Quiet (hidden (under to e))
quiet to unchanged q = λ x w. tt
quiet to (leaves L l S s r₀) q = λ d. q (to d)

held-send : IsSend T
held-send = search (state-send, version-send, crosses, sendable) depth 40

lies : (p : Ptr) (x : Pointee) → Keyless (lies_at T full_share p x)
lies (block_ptr b o) x = part_keyless T held-send full_share x b o
lies null_ptr x = tt

owned : (p : Ptr) (t : Option Pointee) → Keyless (owned_at p t)
owned p None = tt
owned p (Some x) = (lies p x, frees.frees (record { memory = record { seal = tt } }) (raw (lone T.mir)) p)

pointer-send : IsSend RawPtr
pointer-send = search sendable

pub send : IsSend slot.the_row
send = owning_send slot.the_type (pointer-send, tt) (λ d. owned d.pointer d.pointee)
    (λ k. quiet (to slot.the_type) (exits_of k (fields slot.the_type)) ((struct_send (shape slot.the_type) (pointer-send, tt)).leaving k))
