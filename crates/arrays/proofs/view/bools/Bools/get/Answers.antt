use Rattle.std.proofs.Common.{◌∙◌, None, Some, ap, cond, false, get_or, sym}
use Rattle.std.proofs.lemmas.Option.{get_or_from_slice_get}
use Rattle.layout.specs.Item.{boolean}
use Rattle.arrays.specs.Slot.{item_of_bool}
use Rattle.arrays.proofs.TruthLemmas.{bool_items-slot}
use Rattle.arrays.proofs.view.bools.Bools.get.Goals as goal

pub returns-then-is_valid-clause-item : goal.returns-then-is_valid-clause-item
returns-then-is_valid-clause-item c =
    let s = c.args.self.now in
    bool_items-slot s.values s.validity s.slots c.args.i c.requires
    ∙ ap (λ b. item_of_bool (cond b (Some (get_or s.values c.args.i false)) None)) (sym c.is_valid.ensures ∙ c.if-is_valid.true)
    ∙ ap boolean (get_or_from_slice_get s.values c.args.i c.get.result false c.get.ensures)

pub returns-else-is_valid-clause-item : goal.returns-else-is_valid-clause-item
returns-else-is_valid-clause-item c =
    let s = c.args.self.now in
    bool_items-slot s.values s.validity s.slots c.args.i c.requires
    ∙ ap (λ b. item_of_bool (cond b (Some (get_or s.values c.args.i false)) None)) (sym c.is_valid.ensures ∙ c.if-is_valid.false)
