use Rattle.std.proofs.Common.{◌∙◌, sym}
use Rattle.json_print.proofs.Items.{item_length-list, item_length-none}
use Rattle.json_print.proofs.slots.item_length.Goals as goal

pub returns-in-Some : goal.returns-in-Some
returns-in-Some c = c.len.ensures ∙ sym (item_length-list c.args.view.now.items c.args.i c.in-Some.list c.in-Some.ensures.items)

pub returns-in-None : goal.returns-in-None
returns-in-None c = sym (item_length-none c.args.view.now.items c.args.i c.in-None.ensures.items)
