use Rattle.std.proofs.Common.{◌∙◌, ◌+◌, ◌-◌, ap, cond, sym}
use Rattle.colbits.specs.Slice.{slice}
use Rattle.layout.specs.Prelude.{length_of, list, list_of, null, of_slot, start_of}
use Rattle.arrays.proofs.SlotLemmas.{items-slot}
use Rattle.arrays.proofs.view.lists.Lists.get.Goals as goal

pub returns-then-is_valid-clause-item : goal.returns-then-is_valid-clause-item
returns-then-is_valid-clause-item c =
    let l = c.args.self.now in
    let i = c.args.i in
    items-slot (λ j. list (list_of (of_slot l.offsets l.child.items j))) l.validity l.slots i c.requires
    ∙ ap (λ b. cond b (list (list_of (of_slot l.offsets l.child.items i))) null) (sym c.is_valid.ensures ∙ c.if-is_valid.true)
    ∙ ap (λ s. list (list_of (slice l.child.items s (length_of l.offsets i)))) (sym c.get-start.ensures)
    ∙ ap (λ s. list (list_of (slice l.child.items c.get-start.result (start_of l.offsets (i + 1) - s)))) (sym c.get-start.ensures)
    ∙ ap (λ e. list (list_of (slice l.child.items c.get-start.result (e - c.get-start.result)))) (sym c.get-end.ensures)

pub returns-else-is_valid-clause-item : goal.returns-else-is_valid-clause-item
returns-else-is_valid-clause-item c =
    let l = c.args.self.now in
    let i = c.args.i in
    items-slot (λ j. list (list_of (of_slot l.offsets l.child.items j))) l.validity l.slots i c.requires
    ∙ ap (λ b. cond b (list (list_of (of_slot l.offsets l.child.items i))) null) (sym c.is_valid.ensures ∙ c.if-is_valid.false)
