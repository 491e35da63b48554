use Rattle.std.proofs.Common.{◌≡◌, ◌∙◌, ap, sym}
use Rattle.arrays.specs.Prelude.{kind_of, list_parts}
use Rattle.arrays.proofs.NullLemmas.{same_item}
use Rattle.json_read.proofs.JsonLists.{lists_fault-is}
use Rattle.json_stream.proofs.list.list_array.Goals as goal

pub returns-in-Ok-try_list-clause-lawful : goal.returns-in-Ok-try_list-clause-lawful
returns-in-Ok-try_list-clause-lawful c =
    let is : kind_of c.in-Ok.item.ty ≡ c.args.child.kind = same_item c.in-Ok.item c.args.item.now c.in-Ok.ensures ∙ sym c.requires.kind in
    sym (lists_fault-is c.args.slots.width c.args.slots.len c.args.slots.validity c.args.slots.offsets c.args.child c.requires.enough)
    ∙ (ap (λ k. (list_parts c.args.slots.width k c.args.slots.len c.args.slots.validity c.args.slots.offsets c.args.child).fault) (sym is) ∙ c.in-Ok-try_list.ensures.lawful)

pub returns-in-Ok-try_list-clause-shows : goal.returns-in-Ok-try_list-clause-shows
returns-in-Ok-try_list-clause-shows c =
    let is : kind_of c.in-Ok.item.ty ≡ c.args.child.kind = same_item c.in-Ok.item c.args.item.now c.in-Ok.ensures ∙ sym c.requires.kind in
    c.in-Ok-try_list.ensures.shows ∙ ap (λ k. (list_parts c.args.slots.width k c.args.slots.len c.args.slots.validity c.args.slots.offsets c.args.child).seen) is
