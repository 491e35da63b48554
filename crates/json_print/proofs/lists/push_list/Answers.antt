use Rattle.std.proofs.Common.{◌∙◌, ◌++◌, sym, ap, append-nil}
use Rattle.arrays.specs.Lengths.{joined_items}
use Rattle.json_print.proofs.Items.{items_in-list, items_in-none, joined-push}
use Rattle.json_print.proofs.lists.push_list.Goals as goal

pub returns-in_ok-push-in-Some-clause-items : goal.returns-in_ok-push-in-Some-clause-items
returns-in_ok-push-in-Some-clause-items c =
    let lists = c.args.lists.now.items in
    ap joined_items c.in_ok-push-in-Some.ensures.items ∙ joined-push lists c.in-Some.list
    ∙ ap (λ xs. joined_items lists ++ xs) (sym (items_in-list c.args.column.now.items c.args.i c.in-Some.list c.in-Some.ensures.items))

pub returns-in-None-clause-items : goal.returns-in-None-clause-items
returns-in-None-clause-items c =
    let lists = c.args.lists.now.items in
    sym (ap (λ xs. joined_items lists ++ xs) (items_in-none c.args.column.now.items c.args.i c.in-None.ensures.items) ∙ append-nil (joined_items lists))
