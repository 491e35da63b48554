use Rattle.std.proofs.Common.{◌∙◌, Some, ap, length, sym}
use Rattle.std.proofs.lemmas.Option.{get_or_from_slice_get}
use Rattle.arrays.specs.Prelude.{list, list_length, list_of, null}
use Rattle.arrays.proofs.ListLemmas.{items_of-list_of}
use Rattle.select.proofs.joining.lists.length_at.Goals as goal

pub returns-in-Some : goal.returns-in-Some
returns-in-Some c =
    let items = c.in-Some.list.items in
    ap Some (c.len.ensures ∙ ap length (sym (items_of-list_of items)))
    ∙ sym (ap list_length (get_or_from_slice_get c.args.view.now.items c.args.i (list (list_of items)) null c.in-Some.ensures.items))

pub returns-in-None : goal.returns-in-None
returns-in-None c = sym (ap list_length (get_or_from_slice_get c.args.view.now.items c.args.i null null c.in-None.ensures.items))
