use Rattle.std.proofs.Common.{◌∙◌, Some, ap, sym, slice_get}
use Rattle.std.proofs.lemmas.Option.{get_or_from_slice_get}
use Rattle.std.specs.Option.{option_copied}
use Rattle.layout.specs.Prelude.{Seen, null}
use Rattle.arrays.specs.Slot.{item_of_text}
use Rattle.arrays.proofs.view.View.entry_at.Goals as goal

pub returns-in-Some : goal.returns-in-Some
returns-in-Some c =
    let s = c.args.self.now in
    let code = c.in-Some.code in
    let there = ap (λ (q : Seen). slice_get q.items code) (sym c.entries.ensures) ∙ c.text_as.ensures in
    c.in-Some.ensures.item
    ∙ ap (λ x. Some x) (get_or_from_slice_get s.entries.items code (item_of_text (option_copied c.text_as.result)) null there)

pub returns-in-None : goal.returns-in-None
returns-in-None c = c.in-None.ensures.item
