use Rattle.std.proofs.Common.{◌∙◌, FitsSigned, None, Some, ap, cond, rules, sym}
use Rattle.std.specs.Int.{w128}
use Rattle.std.proofs.lemmas.Int.{to_z-of_z}
use Rattle.layout.specs.Prelude.{int, valid_in}
use Rattle.types.specs.Number.{number_at}
use Rattle.arrays.specs.Slot.{item_of}
use Rattle.arrays.proofs.SlotLemmas.{item_if, items-slot}
use Rattle.arrays.proofs.view.ints.Ints.get.Goals as goal

pub returns-then-is_valid-clause-item : goal.returns-then-is_valid-clause-item
returns-then-is_valid-clause-item g c =
    let t = g.T.Integer.ty in
    let s = c.args.self.now in
    let z = number_at t s.values.now c.args.i in
    let fits : FitsSigned w128 c.wide.result = search rules in
    items-slot (λ j. int (number_at t s.values.now j)) s.validity s.slots c.args.i c.requires
    ∙ item_if (valid_in s.validity c.args.i) (number_at t s.values.now c.args.i)
    ∙ ap (λ b. item_of (cond b (Some z) None)) (sym c.is_valid.ensures ∙ c.if-is_valid.true)
    ∙ ap int (sym (to_z-of_z w128 c.wide.result fits ∙ c.wide.ensures.value ∙ c.read.ensures))

pub returns-else-is_valid-clause-item : goal.returns-else-is_valid-clause-item
returns-else-is_valid-clause-item g c =
    let t = g.T.Integer.ty in
    let s = c.args.self.now in
    items-slot (λ j. int (number_at t s.values.now j)) s.validity s.slots c.args.i c.requires
    ∙ item_if (valid_in s.validity c.args.i) (number_at t s.values.now c.args.i)
    ∙ ap (λ b. item_of (cond b (Some (number_at t s.values.now c.args.i)) None)) (sym c.is_valid.ensures ∙ c.if-is_valid.false)
