use Rattle.std.proofs.Common.{◌≡◌, ◌∙◌, Some, cond, true, false, FitsSigned, rules, ap, sym}
use Rattle.std.specs.Int.{w128}
use Rattle.std.proofs.lemmas.Int.{to_z-of_z}
use Rattle.layout.specs.Prelude.{int, null, valid_at}
use Rattle.types.specs.Number.{number_at}
use Rattle.arrays.proofs.SlotLemmas.{number_slot}
use Rattle.arrays.proofs.view.View.int_as.Goals as goal

pub returns-else-is_valid : goal.returns-else-is_valid
returns-else-is_valid c =
    let a = c.args in
    let valid : valid_at a.self.now a.i ≡ false = search rules in
    number_slot a.ty c.numbers-numbers.result.now a.self.now a.i c.numbers-numbers.ensures c.requires.within
    ∙ ap (λ v. Some (cond v (int (number_at a.ty c.numbers-numbers.result.now a.i)) null)) valid

pub returns-then-is_valid : goal.returns-then-is_valid
returns-then-is_valid c =
    let a = c.args in
    let valid : valid_at a.self.now a.i ≡ true = search rules in
    let fits : FitsSigned w128 c.number_at.result = search rules in
    number_slot a.ty c.numbers-numbers.result.now a.self.now a.i c.numbers-numbers.ensures c.requires.within
    ∙ ap (λ v. Some (cond v (int (number_at a.ty c.numbers-numbers.result.now a.i)) null)) valid
    ∙ ap (λ z. Some (int z)) (sym c.number_at.ensures ∙ sym (to_z-of_z w128 c.number_at.result fits))
