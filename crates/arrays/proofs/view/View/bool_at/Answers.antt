use Rattle.std.proofs.Common.{◌≡◌, ◌∙◌, Some, true, false, rules, ap}
use Rattle.std.proofs.lemmas.Option.{get_or_from_slice_get}
use Rattle.layout.specs.Prelude.{boolean, valid_at}
use Rattle.arrays.proofs.PartLemmas.{null_slot, valid_slot}
use Rattle.arrays.proofs.view.View.bool_at.Goals as goal

pub returns-then-not-is_valid : goal.returns-then-not-is_valid
returns-then-not-is_valid c =
    let s = c.args.self.now in
    let null : valid_at s c.args.i ≡ false = search rules in
    null_slot _ s c.args.i c.bool_bits-bits.ensures.values c.requires.within null

pub returns : goal.returns
returns c =
    let s = c.args.self.now in
    let valid : valid_at s c.args.i ≡ true = search rules in
    valid_slot _ s c.args.i c.bool_bits-bits.ensures.values c.requires.within valid
    ∙ ap (λ b. Some (boolean b)) (get_or_from_slice_get c.bool_bits-bits.result c.args.i c.get.result false c.get.ensures)
