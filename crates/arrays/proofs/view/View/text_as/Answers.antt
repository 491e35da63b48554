use Rattle.std.proofs.Common.{◌∙◌, Some, ap, sym}
use Rattle.std.proofs.lemmas.Option.{slice_get-get_or}
use Rattle.layout.specs.Item.{null}
use Rattle.arrays.specs.Slot.{item_at}
use Rattle.arrays.proofs.view.View.text_as.Goals as goal

pub returns : goal.returns
returns c =
    let s = c.args.self.now in
    slice_get-get_or s.items c.args.i null c.requires.within ∙ ap (λ l. Some (item_at l c.args.i)) (sym c.texts.ensures.items) ∙ ap (λ x. Some x) c.get.ensures.item
