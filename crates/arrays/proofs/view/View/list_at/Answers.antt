use Rattle.std.proofs.Common.{◌∙◌, Some, ap, sym}
use Rattle.std.proofs.lemmas.Option.{slice_get-get_or}
use Rattle.layout.specs.Prelude.{Seen, list, list_of, null}
use Rattle.arrays.specs.Prelude.{item_at, item_of_range}
use Rattle.arrays.proofs.view.View.list_at.Goals as goal

pub returns-in-Some-clause-items : goal.returns-in-Some-clause-items
returns-in-Some-clause-items c =
    let s = c.args.self.now in
    let child = c.lists-lists.result.child in
    slice_get-get_or s.items c.args.i null c.requires.within
    ∙ ap (λ l. Some (item_at l c.args.i)) (sym c.lists-lists.ensures.items)
    ∙ ap (λ x. Some x) (c.get.ensures.item ∙ ap (item_of_range child.items) c.in-Some.is)
    ∙ ap (λ (q : Seen). Some (list (list_of q.items))) (sym c.slice.ensures)

pub returns-in-None-clause-items : goal.returns-in-None-clause-items
returns-in-None-clause-items c =
    let s = c.args.self.now in
    let child = c.lists-lists.result.child in
    slice_get-get_or s.items c.args.i null c.requires.within
    ∙ ap (λ l. Some (item_at l c.args.i)) (sym c.lists-lists.ensures.items)
    ∙ ap (λ x. Some x) (c.get.ensures.item ∙ ap (item_of_range child.items) c.in-None.is)
